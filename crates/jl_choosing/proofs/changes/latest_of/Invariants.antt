use Rattle.jl_choosing.specs.ByFunction.{AreSifted}
use Rattle.jl_choosing.proofs.changes.latest_of.Given as goal

abbrev pub invariant-loop-i : goal.invariant-loop-i
invariant-loop-i l = AreSifted l.i l.defs l.places.items l.latest.items
