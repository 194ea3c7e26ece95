use Rattle.std.proofs.Common.{◌≡◌, ◌≤◌, ◌++◌, drop}
use Rattle.jl_report.specs.HistoryText.{entries_from, all_lines}
use Rattle.jl_report.proofs.entries.append_entries.Given as goal

abbrev pub invariant-loop-event : goal.invariant-loop-event
invariant-loop-event l = record {
  few : l.keys ≤ l.event-index;
  written : l.out ++ all_lines (entries_from l.program l.keys (drop l.event-index l.events)) ≡ l.initial.out ++ all_lines (entries_from l.program 0 (drop 0 l.events));
}
