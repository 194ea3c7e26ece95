use Rattle.std.proofs.Common.{length}
use Rattle.jl_history.proofs.WholeLemmas.{IsReached}
use Rattle.jl_history.proofs.history.read_lines.Given as goal

-- the lines before the rest were taken
abbrev pub invariant-loop-line : goal.invariant-loop-line
invariant-loop-line l = IsReached l.places l.text l.rest l.number l.reader

abbrev pub decreases-loop-line : goal.decreases-loop-line
decreases-loop-line l = length l.rest
