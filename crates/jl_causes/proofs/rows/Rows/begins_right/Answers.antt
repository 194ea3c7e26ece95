use Rattle.std.proofs.Common.{arith}
use Rattle.jl_causes.proofs.RowLemmas.{begins_low, begins_high}
use Rattle.jl_causes.proofs.rows.Rows.begins_right.Goals as goal

pub returns-then-first-le-FIRST_WORLD : goal.returns-then-first-le-FIRST_WORLD
returns-then-first-le-FIRST_WORLD c = λ P es k h at. begins_low P es k c.args.first (omega (arith, c.if-first-le-FIRST_WORLD.true))

pub returns : goal.returns
returns c = λ P es k h at.
    begins_high P es k c.args.first c.last_touching.result (omega (arith, c.if-first-le-FIRST_WORLD.false)) (c.last_touching.ensures P es k h.indexed at)
