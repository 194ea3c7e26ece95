use Rattle.std.proofs.Common.{codes, decimal, ◌++◌}
use Rattle.jl_model.specs.declared.ty.Ty.TheVariants.{Tuple}
use Rattle.jl_program.specs.Text.{type_text}
use Rattle.jl_work.proofs.LineLemmas.{after_pairs}
use Rattle.jl_work.specs.Told.{pair_line}
use Rattle.jl_work.proofs.pair_lines.append_pair.Goals as goal

pub returns : goal.returns
unfolding pair_line
returns c =
    after_pairs c.append_types.result c.args.out.now c.append_types.new.out c.append.new.self c.append-2.new.self c.append_with.new.out c.append_with-2.new.out
    c.args.name.now (codes " definitions ") (decimal c.args.pair.now.a) (codes " and ") (decimal c.args.pair.now.b) (codes " at ") (type_text c.args.program.now (Tuple c.args.pair.now.types) ++ codes "\n")
    c.in_ok-append.ensures c.in_ok-append-2.ensures c.in_ok-append_with.ensures c.in_ok-append_with-2.ensures c.append_types.ensures
