-- Laws of the states that are reached by enabled steps. Each is the contract of a function of the module `laws`.
use Rattle.std.specs.Prelude.{ℕ, ◌≡◌, ◌⊎◌, List, [], ◌∷◌, None, Some}
use Rattle.std.specs.List.{Contains}
use Rattle.jl_program.specs.declared.tree.Program.{Program}
use Rattle.jl_calculus.specs.declared.history.Change.{Change}
use Rattle.jl_calculus.specs.declared.step.Step.TheVariants as St
use Rattle.jl_calculus.specs.Core.{Core, Knows, CanOpen, IsEnabled, with_opened}
use Rattle.jl_calculus.specs.Kept.{Places}
use Rattle.jl_calculus.specs.Legal.{MayStand, IsTraced, AreFinished}
use Rattle.jl_calculus.specs.Ranges.{CacheRow, rows_of}
use Rattle.jl_calculus.specs.Words.{IsToCut}
use Rattle.jl_core.specs.Reached.{IsReached, IsRightRow, found_by, IsRightHit, IsFirstUnfinished, KnowsFinished}

-- each row tells the choice
abbrev pub RowsAreRight : Type 0
RowsAreRight = (P : Program) (room : Places) (s : Core) → IsReached P room s → (row : CacheRow) → Contains (rows_of s.events) row → IsRightRow P s.events row

-- each hit is the choice of the world of its search
abbrev pub HitsAreRight : Type 0
HitsAreRight = (P : Program) (room : Places) (s : Core) → IsReached P room s → (task site : ℕ) → found_by s task ≡ Some site → IsRightHit P s task site

-- the events are legal so far, except that nothing is said of the runs of the tasks
abbrev pub EventsMayStand : Type 0
EventsMayStand = (P : Program) (room : Places) (s : Core) → IsReached P room s → MayStand P s.events

abbrev pub EventsAreTraced : Type 0
EventsAreTraced = (P : Program) (room : Places) (s : Core) → IsReached P room s → IsTraced P s.events

-- the first task in wait order that has not ended knows finished tasks alone
abbrev pub FirstKnowsFinished : Type 0
FirstKnowsFinished = (P : Program) (room : Places) (s : Core) → IsReached P room s → (task : ℕ) → IsFirstUnfinished s.events task → KnowsFinished s task

-- so while no change is open it may fetch each task that it knows
abbrev pub FirstMayFetch : Type 0
FirstMayFetch =
    (P : Program) (room : Places) (s : Core) → IsReached P room s → (task : ℕ) → IsFirstUnfinished s.events task → s.opened ≡ None
    → (other : ℕ) → Knows P room s task (other ∷ []) → IsEnabled P room s (St.Fetch task other)

-- there is such a task, unless all have ended
abbrev pub FirstIsThere : Type 0
FirstIsThere = (P : Program) (room : Places) (s : Core) → IsReached P room s → AreFinished s.events ⊎ ((task : ℕ) × IsFirstUnfinished s.events task)

-- rows, none of them twice
abbrev pub AreApart : List ℕ → Type 0
AreApart [] = Unit {0}
AreApart (r ∷ rs) = (Contains rs r → ⊥) × AreApart rs

-- where a change may be opened, the state in which it is open and any of the rows that it ends are cut for it is reached
abbrev pub PartsAreReached : Type 0
PartsAreReached =
    (P : Program) (room : Places) (s : Core) → IsReached P room s → (task : ℕ) (change : Change) → CanOpen P room s task change
    → (cut : List ℕ) → AreApart cut → ((r : ℕ) → Contains cut r → IsToCut P s.events change r)
    → IsReached P room (with_opened s (Some (record { task = task; change = change; cut = cut })))
