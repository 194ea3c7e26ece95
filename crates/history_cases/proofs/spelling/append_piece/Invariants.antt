use Rattle.std.proofs.Common.{ℕ, length}
use Rattle.history_cases.proofs.spelling.append_piece.Given as goal

abbrev pub decreases-loop-rest : goal.decreases-loop-rest
decreases-loop-rest l = length l.rest
