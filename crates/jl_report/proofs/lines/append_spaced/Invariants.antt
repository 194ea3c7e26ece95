use Rattle.std.proofs.Common.{◌≡◌, ◌++◌, drop}
use Rattle.jl_report.specs.HistoryText.{spaced}
use Rattle.jl_report.proofs.lines.append_spaced.Given as goal

abbrev pub invariant-loop-number : goal.invariant-loop-number
invariant-loop-number l = l.out ++ spaced (drop l.number-index l.numbers) ≡ l.initial.out ++ spaced (drop 0 l.numbers)
