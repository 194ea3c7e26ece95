use Rattle.std.proofs.Common.{codes}
use Rattle.jl_program.specs.Text.{type_text}
use Rattle.jl_text.proofs.PieceLemmas.{after-two-and-three}
use Rattle.jl_text.proofs.faults.append_field_type.Goals as goal

pub returns : goal.returns
returns c =
    after-two-and-three c.append_type.result c.args.out.now c.append_type.new.out c.append.new.self c.append-2.new.self c.append_type_between.new.out
    (codes "TypeError: field ") c.args.field.now (codes " of ") (type_text c.args.program.now c.args.ty.now) (codes " got ")
    (type_text c.args.program.now c.args.got.now)
    c.in_ok-append.ensures c.in_ok-append-2.ensures c.in_ok-append_type_between.ensures c.append_type.ensures
