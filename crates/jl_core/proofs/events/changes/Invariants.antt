use Rattle.std.proofs.Common.{◌≡◌, ◌++◌, drop}
use Rattle.jl_calculus.specs.World.{changed, changes}
use Rattle.jl_core.proofs.events.changes.Given as goal

abbrev pub invariant-loop-event : goal.invariant-loop-event
invariant-loop-event l = l.made.items ++ changed (drop l.event-index l.events) ≡ changes l.events
