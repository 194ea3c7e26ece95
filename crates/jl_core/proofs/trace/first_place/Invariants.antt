use Rattle.std.proofs.Common.{◌≡◌, drop}
use Rattle.jl_calculus.specs.Legal.{first_place}
use Rattle.jl_core.proofs.trace.first_place.Given as goal

abbrev pub invariant-loop-i : goal.invariant-loop-i
invariant-loop-i l = first_place l.task l.i (drop l.i l.events) ≡ first_place l.task 0 l.events
