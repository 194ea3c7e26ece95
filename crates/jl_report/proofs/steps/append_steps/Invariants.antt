use Rattle.std.proofs.Common.{◌≡◌, ◌++◌, drop}
use Rattle.jl_report.specs.HistoryText.{steps_of, step_lines}
use Rattle.jl_report.proofs.steps.append_steps.Given as goal

abbrev pub invariant-loop-item : goal.invariant-loop-item
invariant-loop-item l = l.out ++ step_lines (steps_of (drop l.item-index l.items)) ≡ l.initial.out ++ step_lines (steps_of (drop 0 l.items))
