-- What holds of each state that is reached.
use Rattle.std.proofs.Common.{◌≡◌, refl, ap, subst, ℕ, zero, suc, ◌<◌, ◌≤◌, true, List, [], ◌∷◌, length, slice_get, Option, None, Some}
use Rattle.std.specs.List.{Contains}
use Rattle.jl_model.specs.declared.limits.TheConstants.{MOST_WORLDS, MOST_TASKS, MOST_CACHE_ROWS}
use Rattle.jl_model.specs.declared.ty.Key.{Key}
use Rattle.jl_program.specs.Prelude.{prelude_count}
use Rattle.jl_program.specs.declared.tree.Program.{Program}
use Rattle.jl_calculus.specs.declared.history.Event.{Event}
use Rattle.jl_calculus.specs.declared.history.Record.{Record}
use Rattle.jl_calculus.specs.Core.{in_outcome, Stand, at_row, found, missed, Search, TaskState, Opened, Core, at_task}
use Rattle.jl_calculus.specs.Legal.{IsRunning, IsKeyOf, MayBeMade, MayStand, IsTraced}
use Rattle.jl_calculus.specs.Orders.{children_of, wait_order}
use Rattle.jl_calculus.specs.Past.{tasks_of, done_of}
use Rattle.jl_calculus.specs.Ranges.{CacheRow, keys_of, rows_of, SelectsSite, IsRightFill}
use Rattle.jl_calculus.specs.Words.{IsToCut}
use Rattle.jl_calculus.specs.World.{world_of}
use Rattle.jl_core.proofs.BeforeLemmas.{before}
use Rattle.jl_core.proofs.WaitLemmas.{Between}

module _ (P : Program) (es : List Event) where
  -- a row belongs to a key, and is right for it
  pub record IsKeptRow (row : CacheRow) : Type 0 where
    pub key : Key
    pub named : slice_get (keys_of es) row.key ≡ Some key
    pub right : IsRightFill P es key row.site row.first

  -- a task comes before another in wait order
  abbrev pub IsBefore : ℕ → ℕ → Type 0
  IsBefore y x = before y x (wait_order es) ≡ true

  -- a task that has ended: what its outcome mentions comes before it
  pub record IsKeptEnd (task : ℕ) (ended : Record) : Type 0 where
    pub started : task < tasks_of es
    pub known : (other : ℕ) → Contains (in_outcome ended.outcome) other → IsBefore other task

  pub record AreSoundEvents : Type 0 where
    pub stand : MayStand P es
    pub traced : IsTraced P es
    pub rows : (row : CacheRow) → Contains (rows_of es) row → IsKeptRow row
    pub bounds : (task : ℕ) → Between task (tasks_of es) (children_of task es)
    pub ends : (task : ℕ) (ended : Record) → done_of task es ≡ Some ended → IsKeptEnd task ended
    pub few_worlds : world_of es ≤ MOST_WORLDS
    pub few_tasks : tasks_of es ≤ MOST_TASKS
    pub few_rows : length (rows_of es) ≤ MOST_CACHE_ROWS
    pub proper : (key : Key) → Contains (keys_of es) key → IsKeyOf P key

  -- a search stands at a row of its key, or has found the site of its choice
  abbrev pub StandsWell : ℕ → Key → ℕ → Stand → Type 0
  StandsWell number key w (at_row r) = (row : CacheRow) × (slice_get (rows_of es) r ≡ Some row) × (row.key ≡ number)
  StandsWell number key w (found site) = SelectsSite P es key w site
  StandsWell number key w missed = Unit {0}

  pub record IsSoundSearch (search : Search) : Type 0 where
    pub key : Key
    pub named : slice_get (keys_of es) search.key ≡ Some key
    pub low : prelude_count ≤ search.world
    pub high : search.world ≤ world_of es
    pub at : StandsWell search.key key search.world search.stand

  abbrev pub MaySearch : Option Search → Type 0
  MaySearch None = Unit {0}
  MaySearch (Some search) = IsSoundSearch search

  pub record IsSoundTask (task : ℕ) (t : TaskState) : Type 0 where
    pub seen : t.seen ≤ length es
    pub search : MaySearch t.search
    pub known : (other : ℕ) → Contains t.known other → IsBefore other task

  -- an open change may be published, and only rows that it will end were cut
  pub record IsSoundOpen (o : Opened) : Type 0 where
    pub running : IsRunning es o.task
    pub may : MayBeMade P es o.change
    pub place : world_of es < MOST_WORLDS
    pub cut : (r : ℕ) → Contains o.cut r → IsToCut P es o.change r

  abbrev pub MayBeOpen : Option Opened → Type 0
  MayBeOpen None = Unit {0}
  MayBeOpen (Some o) = IsSoundOpen o

-- each task keeps a condition
abbrev pub AllTasks : (ℕ → TaskState → Type 0) → List TaskState → Type 0
AllTasks Q ts = (task : ℕ) (t : TaskState) → slice_get ts task ≡ Some t → Q task t

pub record IsSound (P : Program) (s : Core) : Type 0 where
  pub events : AreSoundEvents P s.events
  pub count : length s.tasks ≡ tasks_of s.events
  pub tasks : AllTasks (IsSoundTask P s.events) s.tasks
  pub opened : MayBeOpen P s.events s.opened

-- ---- one task changes

pub all_changed : (Q : ℕ → TaskState → Type 0) (f : TaskState → TaskState) (task : ℕ) (ts : List TaskState) → AllTasks Q ts
    → ((t : TaskState) → slice_get ts task ≡ Some t → Q task t → Q task (f t)) → AllTasks Q (at_task f task ts)
all_changed Q f task [] h k n u e = cc
all_changed Q f zero (t ∷ ts) h k zero u e = let q : f t ≡ u = cc in subst (Q 0) q (k t refl (h 0 t refl))
all_changed Q f zero (t ∷ ts) h k (suc n) u e = h (suc n) u e
all_changed Q f (suc task) (t ∷ ts) h k zero u e = h 0 u e
all_changed Q f (suc task) (t ∷ ts) h k (suc n) u e = all_changed (λ n. Q (suc n)) f task ts (λ n v q. h (suc n) v q) k n u e

pub count_changed : (f : TaskState → TaskState) (task : ℕ) (ts : List TaskState) → length (at_task f task ts) ≡ length ts
count_changed f task [] = refl
count_changed f zero (t ∷ ts) = refl
count_changed f (suc task) (t ∷ ts) = ap suc (count_changed f task ts)
