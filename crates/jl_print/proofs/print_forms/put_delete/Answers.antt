use Rattle.std.proofs.Common.{codes, [], ◌∷◌}
use Rattle.jl_typeread.specs.declared.terminal.Terminal.TheVariants as S
use Rattle.jl_token.specs.declared.token.Operator.TheVariants as o
use Rattle.jl_print.specs.Printed.{which_terminals, type_terminals}
use Rattle.jl_print.proofs.PrintedRest.{after-three}
use Rattle.jl_print.proofs.print_forms.put_delete.Goals as goal

pub returns : goal.returns
returns c =
    after-three c.put_mark-2.result c.args.out.now c.put_mark-2.new.out c.put_dotted.new.out c.put_mark.new.out c.put_which.new.out
    (S.Name (codes "Base") ∷ S.Operator o.Dot ∷ S.Name (codes "delete_method") ∷ []) (S.Operator o.OpenParen ∷ [])
    (which_terminals c.args.function.now.bytes (type_terminals c.args.ty.now)) (S.Operator o.CloseParen ∷ [])
    c.in_ok-put_dotted.ensures c.in_ok-put_mark.ensures c.in_ok-put_which.ensures c.put_mark-2.ensures
