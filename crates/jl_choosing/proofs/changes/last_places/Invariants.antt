use Rattle.std.proofs.Common.{◌≤◌, length}
use Rattle.jl_choosing.specs.ByFunction.{AreLastPlaces}
use Rattle.jl_choosing.proofs.changes.last_places.Given as goal

abbrev pub invariant-loop-i : goal.invariant-loop-i
invariant-loop-i l = AreLastPlaces l.i l.defs l.places.items × (l.i ≤ length l.defs)
