use Rattle.std.proofs.Common.{◌≡◌, ◌≤◌, ℕ, drop, length, slice_get, Some}
use Rattle.std.specs.List.{Contains}
use Rattle.jl_calculus.specs.Ranges.{CacheRow, rows_of}
use Rattle.jl_rows.proofs.rows.has_older_row_from.Given as goal

-- the rows that were looked at begin in other worlds
abbrev pub invariant-loop-left : goal.invariant-loop-left
invariant-loop-left g l = record {
  same : l.book ≡ l.initial.book;
  within : l.left ≤ length l.rows;
  others : (r : ℕ) (row : CacheRow) → Contains (drop l.left l.rows) r → slice_get (rows_of l.initial.book.events) r ≡ Some row → row.first ≡ l.first → ⊥;
}

abbrev pub decreases-loop-left : goal.decreases-loop-left
decreases-loop-left g l = l.left
