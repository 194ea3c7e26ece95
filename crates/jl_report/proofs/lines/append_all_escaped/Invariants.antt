use Rattle.std.proofs.Common.{◌≡◌, ◌++◌, drop}
use Rattle.jl_report.specs.HistoryText.{all_escaped}
use Rattle.jl_report.proofs.lines.append_all_escaped.Given as goal

abbrev pub invariant-loop-byte : goal.invariant-loop-byte
invariant-loop-byte l = l.out ++ all_escaped (drop l.byte-index l.bytes) ≡ l.initial.out ++ all_escaped (drop 0 l.bytes)
