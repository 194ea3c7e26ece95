-- Which rows have no end, key by key, and what is left when some rows are cut.
use Rattle.std.specs.Prelude.{ℕ, ◌≡◌, List}
use Rattle.std.specs.List.{Contains}
use Rattle.jl_program.specs.declared.tree.Program.{Program}
use Rattle.jl_calculus.specs.declared.history.Event.{Event}
use Rattle.jl_calculus.specs.Ranges.{CacheRow, rows_of}
use Rattle.jl_world.specs.declared.view.BookView.{BookView}
use Rattle.jl_world.specs.Rule.{IsOpenRow}

-- the book's view where these rows are cut ahead
abbrev pub with_cut : List ℕ → BookView → BookView
with_cut cut b = record { events = b.events; held = b.held; cut = cut; stored = b.stored }

module _ (P : Program) (es : List Event) where
  -- a row of the key of this number has no end
  pub record IsOpenOf (number r : ℕ) : Type 0 where
    pub is_open : IsOpenRow P es r
    pub of_key : is_open.row.key ≡ number

  -- a row of one of these keys has no end
  abbrev pub IsOpenAmong : List ℕ → ℕ → Type 0
  IsOpenAmong numbers r = (number : ℕ) × Contains numbers number × IsOpenOf number r

  -- each row of a key without an end is cut
  abbrev pub AreOpenCut : ℕ → List ℕ → Type 0
  AreOpenCut number cut = (r : ℕ) → IsOpenOf number r → Contains cut r

-- a row of the key of this number begins in this world
pub record HasRowFrom (es : List Event) (number first : ℕ) : Type 0 where
  pub row : CacheRow
  pub stands : Contains (rows_of es) row
  pub of_key : row.key ≡ number
  pub begins : row.first ≡ first
