use Rattle.std.proofs.Common.{codes}
use Rattle.jl_program.specs.Text.{type_text}
use Rattle.jl_text.proofs.PieceLemmas.{after-three}
use Rattle.jl_text.proofs.faults.append_no_field.Goals as goal

pub returns : goal.returns
returns c =
    after-three c.append.result c.args.out.now c.append.new.self c.append_type_between.new.out
    (codes "FieldError: ") (type_text c.args.program.now c.args.ty.now) (codes " has no field ") c.args.field.now
    c.in_ok-append_type_between.ensures c.append.ensures
