-- Tasks that are led along their traces, entry after entry.
use Rattle.std.specs.Prelude.{ℕ, ◌≡◌, ◌+◌, ◌-◌, ◌<◌, ◌≤◌, Bool, true, false, List, [], ◌∷◌, ◌++◌, drop, take, length, set, slice_get, get_or, Option, None, Some}
use Rattle.jl_model.specs.declared.limits.TheConstants.{MOST_TASKS}
use Rattle.jl_program.specs.declared.tree.Program.{Program}
use Rattle.jl_program.specs.declared.tree.Start.{Start}
use Rattle.jl_calculus.specs.declared.history.Event.{Event}
use Rattle.jl_calculus.specs.declared.history.Event.TheVariants as Ev
use Rattle.jl_calculus.specs.declared.history.Record.{Record}
use Rattle.jl_calculus.specs.Legal.{EachAfter, IsLegal, fuel_of}
use Rattle.jl_calculus.specs.Past.{IsInOrder, done_of, tasks_of}
use Rattle.jl_machine.specs.Steps.{fuel_of as fuel_in, trace_of}
use Rattle.jl_lead.specs.Known.{IsSpawnOf}
use Rattle.jl_lead.specs.Leads.{IsPlaced}
use Rattle.jl_report.specs.declared.entry.Entry.{Entry}
use Rattle.jl_report.specs.declared.entry.Entry.TheVariants as E
use Rattle.jl_report.specs.declared.entry.Ending.{Ending}
use Rattle.jl_report.specs.HistoryText.{ending_of, entries_of, steps_of}
use Rattle.jl_causes.specs.Sketch.{items_of}
use Rattle.jl_causes.specs.Causes.{StartWell, HasNoCause}
use Rattle.jl_causes.specs.Laws.{AreApart}
use Rattle.jl_replay.specs.declared.running.Running.{Running}
use Rattle.jl_replay.specs.declared.runs.Runs.{Runs}
use Rattle.jl_replay.specs.declared.runs.Stage.{Stage}
use Rattle.jl_replay.specs.declared.runs.Stage.TheVariants as T
use Rattle.jl_replay.specs.Told.{trace_told, end_told, trace_at}
use Rattle.jl_replay.specs.Moves.{IsFitting, IsNewFrom}
use Rattle.jl_replay.specs.Differs.{IsMadeByRun, IsFirstDifference, AreLegalEntries}

-- a table of the ends of the tasks, and 0 for a task that does not end
pub record AreEnds (all : List Entry) (ends : List ℕ) : Type 0 where
  pub many : length ends ≡ MOST_TASKS
  pub at : (task : ℕ) → task < MOST_TASKS → trace_at (slice_get all (get_or ends task 0)) ≡ trace_told task all

-- a task that has begun: its machine has followed some of the steps that are told, and may follow the others
pub record IsOnItsWay (P : Program) (all : List Entry) (es : List Event) (task : ℕ) (r : Running) : Type 0 where
  pub fitting : IsFitting P es task r
  pub fuel : fuel_of es ≡ Some (fuel_in r.machine)
  pub placed : IsPlaced es task r.seen
  pub few : r.told ≤ length (trace_told task all)
  pub followed : steps_of (trace_of r.machine) ≡ take r.told (trace_told task all)
  pub ordered : IsInOrder r.seen (items_of (drop r.told (trace_told task all))) (end_told task 0 all)

-- a task that the last of so many events spawned, and that has not begun: whenever it begins, it is on its way
pub record IsToBegin (P : Program) (all : List Entry) (es : List Event) (task seen : ℕ) : Type 0 where
  pub start : Start
  pub fuel : ℕ
  pub seen_some : 1 ≤ seen
  pub spawned : IsSpawnOf start (slice_get es (seen - 1))
  pub fuel_is : fuel_of es ≡ Some fuel
  pub way : (r : Running) → IsNewFrom P start fuel seen r → IsOnItsWay P all es task r

-- a task that has not ended, as it is kept
abbrev pub IsUnderWay : Program → List Entry → List Event → ℕ → Option Stage → Type 0
IsUnderWay P all es task None = ⊥
IsUnderWay P all es task (Some (T.Spawned seen)) = IsToBegin P all es task seen
IsUnderWay P all es task (Some (T.Running r)) = IsOnItsWay P all es task r
IsUnderWay P all es task (Some T.Ended) = ⊥

-- each task that has not ended is among these, by its number
pub record AreOnTheirWay (P : Program) (all : List Entry) (es : List Event) (tasks : List Stage) : Type 0 where
  pub many : length tasks ≡ tasks_of es
  pub each : (task : ℕ) → task < tasks_of es → done_of task es ≡ None → IsUnderWay P all es task (slice_get tasks task)

-- these events are those of the first entries, each made by a run, and each legal history with these entries begins with them
pub record AreReplayed (P : Program) (all : List Entry) (es : List Event) : Type 0 where
  pub rest : List Entry
  pub told : entries_of P es ++ rest ≡ all
  pub made : EachAfter (IsMadeByRun P all) [] es
  pub legal : (xs : List Event) → IsLegal P xs → entries_of P xs ≡ all → take (length es) xs ≡ es

-- entries of which no cause holds that needs no run
pub record AreJudged (P : Program) (all : List Entry) : Type 0 where
  pub apart : AreApart P
  pub well : StartWell all
  pub clean : HasNoCause P all

-- the tasks are where the first entries say
pub record AreFollowed (P : Program) (all : List Entry) (runs : Runs) : Type 0 where
  pub program : runs.led.past.0 ≡ P
  pub fuel : fuel_of runs.led.past.1 ≡ Some runs.fuel
  pub replayed : AreReplayed P all runs.led.past.1
  pub on_way : AreOnTheirWay P all runs.led.past.1 runs.tasks.items

-- the first entry that a run differs from: its place, and that the entries are of no legal history
pub record IsDifference (P : Program) (all : List Entry) (n : ℕ) : Type 0 where
  pub first : IsFirstDifference P all n
  pub illegal : AreLegalEntries P all → ⊥

-- what one more entry comes to: the tasks have followed it, or differ from it
abbrev pub HasFollowed : Program → List Entry → ℕ → Bool → Runs → Type 0
HasFollowed P all n true runs = AreFollowed P all runs × (length runs.led.past.1 ≡ n + 1)
HasFollowed P all n false runs = IsDifference P all n

-- what a task did is what an entry tells of its end
pub record IsToldBy (P : Program) (r : Record) (calls : ℕ) (output : List ℕ) (ending : Ending) : Type 0 where
  pub calls_are : r.calls ≡ calls
  pub output_is : r.output ≡ output
  pub ending_is : ending_of P r.outcome ≡ ending

-- an entry is a key with these texts
abbrev pub IsKeyAt : Option Entry → List ℕ → List ℕ → Type 0
IsKeyAt None function tuple = ⊥
IsKeyAt (Some (E.Key number f t)) function tuple = (f ≡ function) × (t ≡ tuple)
IsKeyAt (Some (E.Begin fuel)) function tuple = ⊥
IsKeyAt (Some (E.Fill key site first)) function tuple = ⊥
IsKeyAt (Some (E.Def task site)) function tuple = ⊥
IsKeyAt (Some (E.Del task place)) function tuple = ⊥
IsKeyAt (Some (E.Spawn task child place)) function tuple = ⊥
IsKeyAt (Some (E.Done task calls trace output ending)) function tuple = ⊥

-- the run of a task has come to a spawn: the next task is started, and not among the tasks yet
pub record HasStarted (P : Program) (all : List Entry) (runs : Runs) (task child : ℕ) (runs' : Runs) : Type 0 where
  pub program : runs'.led.past.0 ≡ P
  pub fuel : runs'.fuel ≡ runs.fuel
  pub start : Start
  pub events : runs'.led.past.1 ≡ runs.led.past.1 ++ Ev.Spawn task child start ∷ []
  pub child_is : child ≡ tasks_of runs.led.past.1
  pub replayed : AreReplayed P all (runs.led.past.1 ++ Ev.Spawn task child start ∷ [])
  pub started : task < tasks_of runs.led.past.1
  pub running : Running
  pub tasks : runs'.tasks.items ≡ set runs.tasks.items task (T.Running running)
  pub way : IsOnItsWay P all (runs.led.past.1 ++ Ev.Spawn task child start ∷ []) task running

abbrev pub HasComeToSpawn : Program → List Entry → Runs → ℕ → ℕ → ℕ → Bool → Runs → Type 0
HasComeToSpawn P all runs task child place true runs' = HasStarted P all runs task child runs'
HasComeToSpawn P all runs task child place false runs' = IsDifference P all (length runs.led.past.1)
