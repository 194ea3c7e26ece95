use Rattle.std.proofs.Common.{◌≡◌, ◌≤◌, length, drop}
use Rattle.std.specs.Prelude.{◌↔◌}
use Rattle.jl_calculus.specs.Past.{own_items}
use Rattle.jl_causes.specs.Sketch.{items_of}
use Rattle.jl_causes.proofs.trace.has_own_events.Given as goal

abbrev pub invariant-loop-step : goal.invariant-loop-step
invariant-loop-step l = record {
  within : l.next ≤ length l.own;
  rest : (items_of (drop l.next l.own) ≡ own_items (items_of (drop l.step-index l.trace))) ↔ (items_of l.own ≡ own_items (items_of l.trace));
}
