use Rattle.std.proofs.Common.{◌-◌, arith}
use Rattle.jl_operations.proofs.PartLemmas.{at_number, past_number}
use Rattle.jl_operations.proofs.parts.part_at.Goals as goal

pub returns-then-place-parts : goal.returns-then-place-parts
returns-then-place-parts c = past_number c.args.number c.args.parts.now (c.args.number - 1) (omega (arith, c.if-number-eq0.false)) (omega (arith, c.if-place-parts.true))

pub returns : goal.returns
returns c = at_number c.args.number c.args.parts.now (c.args.number - 1) c.index-parts-place.result (omega (arith, c.if-number-eq0.false)) (omega (arith, c.if-place-parts.false)) c.index-parts-place.is
