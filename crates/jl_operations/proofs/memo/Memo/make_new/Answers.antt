use Rattle.std.proofs.Common.{◌∙◌, sym, subst}
use Rattle.jl_operations.specs.Bodies.{IsBodySig, IsKeptAs}
use Rattle.jl_operations.proofs.memo.Memo.make_new.Goals as goal

pub keep-requires : goal.keep-requires
keep-requires c = subst (λ z. IsBodySig z c.args.written.now) (sym c.table.ensures) c.requires.body

pub keep_form-requires-clause-kept : goal.keep_form-requires-clause-kept
keep_form-requires-clause-kept c = subst (λ z. IsKeptAs z c.args.written.now c.in_ok-kept.kept) (c.table.ensures ∙ sym c.table-2.ensures) c.in_ok-kept.ensures

pub make_kept-requires-clause-kept : goal.make_kept-requires-clause-kept
make_kept-requires-clause-kept c = subst (λ z. IsKeptAs z c.args.written.now c.in_ok-kept.kept) c.table.ensures c.in_ok-kept.ensures
