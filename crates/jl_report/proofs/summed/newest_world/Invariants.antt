use Rattle.std.proofs.Common.{◌≡◌, ◌≤◌, ◌+◌, drop, length}
use Rattle.jl_calculus.specs.World.{changed, world_of}
use Rattle.jl_report.proofs.summed.newest_world.Given as goal

abbrev pub invariant-loop-event : goal.invariant-loop-event
invariant-loop-event l = record {
  few : l.world ≤ 14 + l.event-index;
  counted : l.world + length (changed (drop l.event-index l.events)) ≡ world_of (drop 0 l.events);
}
