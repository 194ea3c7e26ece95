-- What a search says.
use Rattle.std.specs.Prelude.{ℕ, ◌≡◌, ◌⊎◌, ◌≤◌, ◌<◌, List, length, slice_get, Option, None, Some}
use Rattle.jl_model.specs.declared.ty.Key.{Key}
use Rattle.jl_program.specs.declared.tree.Program.{Program}
use Rattle.jl_calculus.specs.declared.history.Event.{Event}
use Rattle.jl_calculus.specs.Learnt.{IsNamed}
use Rattle.jl_calculus.specs.Ranges.{keys_of, HasNoEnd, EndsWith, IsCovered, SelectsSite}
use Rattle.jl_calculus.specs.World.{world_of}
use Rattle.jl_program.specs.Valid.{IsValid}
use Rattle.jl_cache.specs.declared.found.Found.{Found}
use Rattle.jl_cache.specs.declared.found.Found.TheVariants.{Hit, Miss}

module _ {M : Type 0} where
  -- a hit says one thing, and a miss another
  abbrev pub MatchFound : Found M → (ℕ → Type 0) → (M → Type 0) → Type 0
  MatchFound (Hit site) hit miss = hit site
  MatchFound (Miss m) hit miss = miss m

-- a hit: a row of the key of this number covers a world of the events, and for a valid program a method of this site is chosen in it
pub record IsHit (P : Program) (es : List Event) (number w site : ℕ) : Type 0 where
  pub known : w ≤ world_of es
  pub key : Key
  pub named : IsNamed es number key
  pub covered : IsCovered P es number key w
  pub choice : IsValid P → SelectsSite P es key w site

-- a range with this last world goes so far; 0 is no last world
abbrev pub Reaches : ℕ → ℕ → Type 0
Reaches last w = (last ≡ 0) ⊎ (w ≤ last)

-- the range of a fill of a key ends in this world, or has no end
abbrev pub IsRangeEnd : Program → List Event → Key → ℕ → Option ℕ → Type 0
IsRangeEnd P es key first None = HasNoEnd P es key first
IsRangeEnd P es key first (Some last) = EndsWith P es key first last

abbrev pub HasRangeEnd : Program → List Event → ℕ → ℕ → Option ℕ → Type 0
HasRangeEnd P es number first last = (key : Key) × (slice_get (keys_of es) number ≡ Some key) × IsRangeEnd P es key first last
