-- What the tables of places and tasks tell of the events so far.
use Rattle.std.specs.Prelude.{ℕ, ◌+◌, ◌≡◌, ◌<◌, ◌≤◌, ◌↔◌, Bool, true, false, List, [], length, take, get_or, slice_get, None, Some, IsSome}
use Rattle.jl_calculus.specs.declared.history.Event.{Event}
use Rattle.jl_calculus.specs.Legal.{fuel_of, start_of, first_place}
use Rattle.jl_calculus.specs.Past.{tasks_of, done_of, own_events}
use Rattle.jl_calculus.specs.World.{world_of}
use Rattle.jl_calculus.specs.declared.history.TraceItem.{TraceItem}
use Rattle.jl_calculus.specs.declared.history.TraceItem.TheVariants as I
use Rattle.jl_report.specs.declared.entry.Entry.{Entry}
use Rattle.jl_report.specs.declared.entry.Entry.TheVariants as E
use Rattle.jl_causes.specs.declared.places.Counts.{Counts}
use Rattle.jl_causes.specs.declared.places.Places.{Places}
use Rattle.jl_causes.specs.declared.tasks.Tasks.{Tasks}
use Rattle.jl_causes.specs.Sketch.{items_of}

-- the newest world and the number of tasks of these events
pub record AreCounts (es : List Event) (c : Counts) : Type 0 where
  pub world : c.world ≡ world_of es
  pub tasks : c.tasks ≡ tasks_of es

-- the counts after each number of events, none of them among these, and those after all
pub record ArePlaces (es : List Event) (p : Places) : Type 0 where
  pub many : length p.rows.items ≡ length es + 1
  pub each : (n : ℕ) (c : Counts) → slice_get p.rows.items n ≡ Some c → AreCounts (take n es) c
  pub last : AreCounts es p.newest

-- a task has ended among the first events exactly where these are as many as this, which is 0 where it has not
pub record IsEndOf (es : List Event) (task ended : ℕ) : Type 0 where
  pub within : ended ≤ length es
  pub exact : (p : ℕ) → p ≤ length es → IsSome (done_of task (take p es)) ↔ ((0 < ended) × (ended ≤ p))

-- the least place of the first item of each task, its end, and its definitions, deletions and spawns
pub record AreTasks (es : List Event) (t : Tasks) : Type 0 where
  pub begun : IsSome (fuel_of es)
  pub many_firsts : length t.firsts.items ≡ tasks_of es
  pub many_ends : length t.ends.items ≡ tasks_of es
  pub many_own : length t.own.items ≡ tasks_of es
  pub unstarted : (task : ℕ) → tasks_of es ≤ task → start_of task es ≡ None
  pub each_first : (task : ℕ) → get_or t.firsts.items task 1 ≡ first_place task 0 es
  pub each_end : (task : ℕ) → IsEndOf es task (get_or t.ends.items task 0)
  pub each_own : (task : ℕ) → items_of (get_or t.own.items task []) ≡ own_events task 0 es

-- the entry at a place is this definition
abbrev pub IsDefAt : List Entry → ℕ → ℕ → ℕ → Type 0
IsDefAt xs at by made = slice_get xs at ≡ Some (E.Def by made)

-- the entry at a place is this deletion
abbrev pub IsDelAt : List Entry → ℕ → ℕ → ℕ → Type 0
IsDelAt xs at by made = slice_get xs at ≡ Some (E.Del by made)

-- the entry at a place is this spawn
abbrev pub IsSpawnAt : List Entry → ℕ → ℕ → ℕ → Type 0
IsSpawnAt xs at by made = (spawn : ℕ) × (slice_get xs at ≡ Some (E.Spawn by made spawn))

-- an item is a definition, a deletion or a spawn
abbrev pub is_own : TraceItem → Bool
is_own (I.Def site p) = true
is_own (I.Spawn child p) = true
is_own (I.Look w p) = false
is_own (I.Fetch task outcome p) = false
is_own (I.WorldFull p) = false
is_own (I.TaskFull p) = false
is_own (I.Del place p) = true
is_own (I.Absent place p) = false
