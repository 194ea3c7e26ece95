use Rattle.std.proofs.Common.{◌≡◌, ◌<◌, ◌||◌, ℕ, false, length, get_or, drop}
use Rattle.jl_model.specs.declared.limits.TheConstants.{MOST_TASKS}
use Rattle.jl_causes.specs.Causes.{has_end}
use Rattle.jl_causes.proofs.finished.find_finished.Given as goal

abbrev pub invariant-loop-entry : goal.invariant-loop-entry
invariant-loop-entry l = record {
  many : length l.flags.items ≡ MOST_TASKS;
  each : (task : ℕ) → task < MOST_TASKS → (get_or l.flags.items task false || has_end (drop l.entry-index l.entries) task) ≡ has_end l.entries task;
}
