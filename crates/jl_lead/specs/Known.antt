-- What is kept of the events of a run so far.
use Rattle.std.specs.Prelude.{◌≡◌, ℕ, ◌<◌, ◌≤◌, ◌+◌, ◌-◌, ◌^◌, Bool, true, false, nat_eq, List, length, slice_get, get_or, Option, None, Some}
use Rattle.jl_model.specs.declared.limits.TheConstants.{MOST_WORLDS, MOST_TASKS}
use Rattle.jl_program.specs.declared.tree.Program.{Program}
use Rattle.jl_program.specs.declared.tree.Start.{Start}
use Rattle.jl_calculus.specs.declared.history.Change.{Change}
use Rattle.jl_calculus.specs.declared.history.Event.{Event}
use Rattle.jl_calculus.specs.declared.history.Event.TheVariants as Ev
use Rattle.jl_calculus.specs.declared.history.Record.{Record}
use Rattle.jl_calculus.specs.Past.{done_of, tasks_of}
use Rattle.jl_calculus.specs.ValidHistory.{IsValidOutcome}
use Rattle.jl_calculus.specs.ValidStart.{IsValidStart}
use Rattle.jl_calculus.specs.World.{changes, world_of}
use Rattle.jl_task.specs.Worlds.{IsWorld}

-- a start is a valid one, in a world of the events
pub record IsStartAmong (P : Program) (es : List Event) (start : Start) : Type 0 where
  pub valid : IsValidStart P start
  pub world : IsWorld start.world (world_of es)

-- the outcomes of the tasks that have ended, and the starts of those that were spawned, are valid
pub record AreSound (P : Program) (es : List Event) : Type 0 where
  pub outcomes : (task : ℕ) (ended : Record) → done_of task es ≡ Some ended → IsValidOutcome P ended.outcome
  pub starts : (place task child : ℕ) (start : Start) → slice_get es place ≡ Some (Ev.Spawn task child start) → IsStartAmong P es start

-- where the first end of a task stands among the events, if it has ended
abbrev pub IsEndAt : List Event → ℕ → Option ℕ → Type 0
IsEndAt es t None = done_of t es ≡ None
IsEndAt es t (Some p) = (ended : Record) × (slice_get es p ≡ Some (Ev.Done t ended)) × (done_of t es ≡ Some ended)

-- where each task has ended, by its number; a task beyond the list has not
abbrev pub AreEnds : List Event → List (Option ℕ) → Type 0
AreEnds es ends = (t : ℕ) → IsEndAt es t (get_or ends t None)

-- the end that is noted: the first one
abbrev pub first_end : Bool → ℕ → Option ℕ → Option ℕ
first_end true place None = Some place
first_end true place (Some first) = Some first
first_end false place end = end

-- a task's end at a place is noted, unless it has ended before
abbrev pub IsNoted : ℕ → ℕ → List (Option ℕ) → List (Option ℕ) → Type 0
IsNoted task place old new = (t : ℕ) → get_or new t None ≡ first_end (nat_eq task t) place (get_or old t None)

-- there are not too many, and the changes, the number of the tasks and the places of their ends are kept beside the events
pub record IsKnownSo (P : Program) (cs : List Change) (es : List Event) (tasks : ℕ) (ends : List (Option ℕ)) : Type 0 where
  pub changes_are : changes es ≡ cs
  pub worlds : world_of es ≤ MOST_WORLDS + 1
  pub tasks_are : tasks ≡ tasks_of es
  pub few : tasks_of es ≤ MOST_TASKS
  pub short : length es < 2 ^ 32 - 1
  pub ends_are : AreEnds es ends
  pub sound : AreSound P es

-- an event that makes nothing that another task may ask for
abbrev pub IsPlain : Event → Type 0
IsPlain (Ev.Begin fuel) = Unit {0}
IsPlain (Ev.Key key) = Unit {0}
IsPlain (Ev.Fill key site first) = Unit {0}
IsPlain (Ev.Def task site) = ⊥
IsPlain (Ev.Del task place) = ⊥
IsPlain (Ev.Spawn task child start) = ⊥
IsPlain (Ev.Done task ended) = ⊥

-- an event is a spawn from this start
abbrev pub IsSpawnOf : Start → Option Event → Type 0
IsSpawnOf start (Some (Ev.Spawn task child from)) = from ≡ start
IsSpawnOf start _ = ⊥

-- and no spawn at all
abbrev pub IsNoSpawn : Option Event → Type 0
IsNoSpawn (Some (Ev.Spawn task child from)) = ⊥
IsNoSpawn _ = Unit {0}
