use Rattle.std.proofs.Common.{◌≡◌, ◌≤◌, ◌+◌, drop, length}
use Rattle.jl_model.specs.declared.limits.TheConstants.{MOST_WORLDS}
use Rattle.jl_calculus.specs.World.{changed, world_of}
use Rattle.store_tests.proofs.snapshot.push_changes.Given as goal

abbrev pub invariant-loop-event : goal.invariant-loop-event
invariant-loop-event g l = record {
  counted : l.world + length (changed (drop l.event-index l.events)) ≡ world_of l.events;
  few : l.world ≤ MOST_WORLDS;
}
