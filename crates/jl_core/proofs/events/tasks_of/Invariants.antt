use Rattle.std.proofs.Common.{◌≡◌, ◌≤◌, ◌+◌, drop}
use Rattle.jl_calculus.specs.Past.{tasks_of}
use Rattle.jl_core.proofs.events.tasks_of.Given as goal

abbrev pub invariant-loop-event : goal.invariant-loop-event
invariant-loop-event l = record {
  so_far : l.count + tasks_of (drop l.event-index l.events) ≡ tasks_of l.events + 1;
  few : l.count ≤ 1 + l.event-index;
}
