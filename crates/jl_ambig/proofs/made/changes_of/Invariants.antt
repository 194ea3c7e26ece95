use Rattle.std.proofs.Common.{◌≡◌, ◌≤◌, length, take}
use Rattle.jl_model.specs.declared.limits.TheConstants.{MOST_WORLDS}
use Rattle.jl_calculus.specs.World.{changes}
use Rattle.jl_ambig.proofs.made.changes_of.Given as goal

abbrev pub invariant-loop-event : goal.invariant-loop-event
invariant-loop-event l = (l.made ≡ (l.ready, changes (take l.event-index l.events))) × (length l.made.1 ≤ MOST_WORLDS)
