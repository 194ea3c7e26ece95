use Rattle.std.proofs.Common.{◌≡◌, ◌≤◌, ◌+◌, drop, length}
use Rattle.jl_calculus.specs.World.{changed, world_of}
use Rattle.jl_core.proofs.events.world_of.Given as goal

abbrev pub invariant-loop-event : goal.invariant-loop-event
invariant-loop-event l = record {
  so_far : l.world + length (changed (drop l.event-index l.events)) ≡ world_of l.events;
  few : l.world ≤ 14 + l.event-index;
}
