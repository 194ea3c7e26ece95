use Rattle.std.proofs.Common.{◌≡◌, ◌≤◌, ◌+◌, drop}
use Rattle.jl_calculus.specs.Past.{tasks_of}
use Rattle.jl_report.proofs.summed.count_spawns.Given as goal

abbrev pub invariant-loop-event : goal.invariant-loop-event
invariant-loop-event l = record {
  few : l.count ≤ l.event-index;
  counted : l.count + tasks_of (drop l.event-index l.events) ≡ tasks_of (drop 0 l.events);
}
