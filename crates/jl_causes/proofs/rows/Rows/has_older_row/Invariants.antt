use Rattle.std.proofs.Common.{ℕ, ◌≡◌, ◌<◌, get_or}
use Rattle.jl_causes.proofs.rows.Rows.has_older_row.Given as goal

abbrev pub invariant-loop-row : goal.invariant-loop-row
invariant-loop-row l = (j : ℕ) → j < l.row-index → get_or l.self.firsts.items (get_or l.rows j 0) 0 ≡ l.first → ⊥
