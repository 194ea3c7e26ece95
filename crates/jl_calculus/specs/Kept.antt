-- Which calls of a task a history with so many places for keys and rows has kept in its cache.
use Rattle.std.specs.Prelude.{ℕ, ◌≡◌, ◌≤◌, ◌⊎◌, List, length, slice_get, Option, None, Some}
use Rattle.jl_model.specs.declared.ty.Ty.{Ty}
use Rattle.jl_model.specs.declared.ty.Key.{Key}
use Rattle.jl_calculus.specs.declared.history.Event.{Event}
use Rattle.jl_program.specs.declared.choice.Choice.TheVariants as C
use Rattle.jl_program.specs.declared.tree.Program.{Program}
use Rattle.jl_calculus.specs.Ranges.{keys_of, rows_of, IsCovered}
use Rattle.jl_calculus.specs.World.{world_of, Selects}

-- how many keys and how many rows there is room for
pub record Places : Type 0 where
  pub keys : ℕ
  pub rows : ℕ

module _ (P : Program) (es : List Event) where
  -- the events have a key of this function and these types, and where a method is chosen a row of it that covers the world
  abbrev pub IsInCache : ℕ → List Ty → ℕ → Type 0
  IsInCache f ts w =
      (number : ℕ) × (key : Key) × (slice_get (keys_of es) number ≡ Some key) × (key.function ≡ f) × (key.types ≡ ts)
      × ((d : ℕ) → Selects P es f ts w (C.Method d) → IsCovered P es number key w)

  -- the world is there, and there was no room for a key, or none for a row, or the call is in the cache
  abbrev pub IsKeptFor : Places → ℕ → List Ty → ℕ → Type 0
  IsKeptFor room f ts w = (w ≤ world_of es) × ((room.keys ≤ length (keys_of es)) ⊎ ((room.rows ≤ length (rows_of es)) ⊎ IsInCache f ts w))

  -- without places nothing is asked
  abbrev pub Keeps : Option Places → ℕ → List Ty → ℕ → Type 0
  Keeps None f ts w = Unit {0}
  Keeps (Some room) f ts w = IsKeptFor room f ts w
