use Rattle.std.proofs.Common.{◌≡◌, ◌≤◌, ◌+◌, drop, length}
use Rattle.jl_calculus.specs.Ranges.{keys_of}
use Rattle.jl_core.proofs.events.count_keys.Given as goal

abbrev pub invariant-loop-event : goal.invariant-loop-event
invariant-loop-event l = record {
  so_far : l.count + length (keys_of (drop l.event-index l.events)) ≡ length (keys_of l.events);
  few : l.count ≤ l.event-index;
}
