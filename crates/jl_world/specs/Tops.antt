-- The largest first world of a key's rows, which each row has as a word.
use Rattle.std.specs.Prelude.{ℕ, suc, ◌≡◌, max, cond, nat_eq, List, [], ◌∷◌, take, slice_get, Some}
use Rattle.jl_calculus.specs.declared.history.Event.{Event}
use Rattle.jl_calculus.specs.Ranges.{CacheRow, rows_of}

-- the largest first world among the rows of a key, and 0 where it has none
abbrev pub top_of : ℕ → List CacheRow → ℕ
top_of number [] = 0
top_of number (row ∷ rows) = cond (nat_eq row.key number) (max row.first (top_of number rows)) (top_of number rows)

-- the top word of row r: the largest first world among the rows of its key up to this one
pub record IsTopWord (es : List Event) (r n : ℕ) : Type 0 where
  pub row : CacheRow
  pub stands : slice_get (rows_of es) r ≡ Some row
  pub is : n ≡ top_of row.key (take (suc r) (rows_of es))
