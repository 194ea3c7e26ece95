-- The row of a key whose first world is the largest.
use Rattle.std.specs.Prelude.{ℕ, ◌≡◌, ◌≤◌, nat_lt, cond, List, slice_get, get_or, set, Option, None, Some}
use Rattle.std.specs.List.{Contains}
use Rattle.jl_calculus.specs.Ranges.{CacheRow}
use Rattle.jl_methods.specs.declared.newest.NewestRow.{NewestRow}

-- a row, unless the one before begins in a later world
abbrev pub newer : Option NewestRow → NewestRow → NewestRow
newer None row = row
newer (Some old) row = cond (nat_lt row.first old.first) old row

-- so for the row of a key
abbrev pub newer_at : List (Option NewestRow) → ℕ → NewestRow → List (Option NewestRow)
newer_at rows key row = set rows key (Some (newer (get_or rows key None) row))

module _ (rows : List CacheRow) (key : ℕ) where
  -- this is the number of a row of the key, and its first world, and no row of the key begins in a later one
  pub record IsNewest (newest : NewestRow) : Type 0 where
    pub row : CacheRow
    pub stands : slice_get rows newest.number ≡ Some row
    pub of_key : row.key ≡ key
    pub begins : row.first ≡ newest.first
    pub latest : (other : CacheRow) → Contains rows other → other.key ≡ key → other.first ≤ newest.first

  -- and where there is none the key has no row
  abbrev pub IsNewestOf : Option NewestRow → Type 0
  IsNewestOf None = (row : CacheRow) → Contains rows row → row.key ≡ key → ⊥
  IsNewestOf (Some newest) = IsNewest newest
