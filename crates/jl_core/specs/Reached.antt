-- The states that enabled steps reach from the start, and what holds of each of them.
use Rattle.std.specs.Prelude.{ℕ, ◌≡◌, ◌≤◌, List, ◌∷◌, ◌++◌, Option, None, Some, IsSome, slice_get}
use Rattle.std.specs.List.{Contains}
use Rattle.jl_model.specs.declared.limits.TheConstants.{MOST_FUEL, MOST_CACHE_KEYS, MOST_CACHE_ROWS}
use Rattle.jl_model.specs.declared.ty.Key.{Key}
use Rattle.jl_program.specs.declared.tree.Program.{Program}
use Rattle.jl_program.specs.Valid.{IsValid}
use Rattle.jl_calculus.specs.declared.history.Event.{Event}
use Rattle.jl_calculus.specs.declared.history.Record.{Record}
use Rattle.jl_calculus.specs.Core.{Stand, at_row, found, missed, Search, TaskState, Core, first_core, Reaches}
use Rattle.jl_calculus.specs.Kept.{Places}
use Rattle.jl_calculus.specs.Orders.{wait_order}
use Rattle.jl_calculus.specs.Past.{done_of}
use Rattle.jl_calculus.specs.Ranges.{CacheRow, keys_of, Covers, SelectsSite}
use Rattle.jl_calculus.specs.World.{world_of}

-- a state of a run of a valid program that enabled steps reach from the start, with a fuel and with places that may be given
pub record IsReached (P : Program) (room : Places) (s : Core) : Type 0 where
  pub valid : IsValid P
  pub fuel : ℕ
  pub allowed : fuel ≤ MOST_FUEL
  pub few_keys : room.keys ≤ MOST_CACHE_KEYS
  pub few_rows : room.rows ≤ MOST_CACHE_ROWS
  pub way : Reaches P room (first_core fuel) s

-- ---- rows and hits

-- the site of a row is that of the choice for its key in each world of its range, up to the present one
pub record IsRightRow (P : Program) (es : List Event) (row : CacheRow) : Type 0 where
  pub key : Key
  pub named : slice_get (keys_of es) row.key ≡ Some key
  pub choice : (w : ℕ) → w ≤ world_of es → Covers P es key row.first w → SelectsSite P es key w row.site

-- a site is that of the choice for the key of a search in its world, which is there
pub record IsRightSite (P : Program) (es : List Event) (search : Search) (site : ℕ) : Type 0 where
  pub key : Key
  pub named : slice_get (keys_of es) search.key ≡ Some key
  pub known : search.world ≤ world_of es
  pub choice : SelectsSite P es key search.world site

abbrev pub site_at : Stand → Option ℕ
site_at (at_row r) = None
site_at (found site) = Some site
site_at missed = None

abbrev pub site_by : Option Search → Option ℕ
site_by None = None
site_by (Some search) = site_at search.stand

abbrev pub search_by : Option TaskState → Option Search
search_by None = None
search_by (Some t) = t.search

-- the last search of a task
abbrev pub last_search : Core → ℕ → Option Search
last_search s task = search_by (slice_get s.tasks task)

-- the site at which the last search of a task has ended; none where it has not hit
abbrev pub found_by : Core → ℕ → Option ℕ
found_by s task = site_by (last_search s task)

-- a site is that of the choice in the world of the task's last search
abbrev pub IsRightHit : Program → Core → ℕ → ℕ → Type 0
IsRightHit P s task site = (search : Search) × (last_search s task ≡ Some search) × IsRightSite P s.events search site

-- ---- tasks

-- the first task in wait order that has not ended
pub record IsFirstUnfinished (es : List Event) (task : ℕ) : Type 0 where
  pub earlier : List ℕ
  pub later : List ℕ
  pub order : wait_order es ≡ earlier ++ task ∷ later
  pub going : done_of task es ≡ None
  pub ended : (other : ℕ) → Contains earlier other → IsSome (done_of other es)

-- a task knows finished tasks alone
abbrev pub KnowsFinished : Core → ℕ → Type 0
KnowsFinished s task =
    (t : TaskState) (other : ℕ) → slice_get s.tasks task ≡ Some t → Contains t.known other → (r : Record) × (done_of other s.events ≡ Some r)

-- a task knows another
abbrev pub KnowsOne : Core → ℕ → ℕ → Type 0
KnowsOne s task other = (t : TaskState) × (slice_get s.tasks task ≡ Some t) × Contains t.known other
