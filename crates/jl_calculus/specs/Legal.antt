-- When a list of events is a legal history of a program, part by part, and its text.
--
-- The parts are apart, since each has users of its own: the shared words keep the conditions on the events themselves, the
-- model of all steps keeps all but the runs, and a judge of a history names the condition that fails.
use Rattle.std.specs.Prelude.{ℕ, cond, nat_eq, ◌+◌, ◌≡◌, ◌<◌, ◌≤◌, List, [], ◌∷◌, ◌++◌, All, length, slice_get, Option, None, Some, IsSome}
use Rattle.std.specs.List.{Contains}
use Rattle.jl_model.specs.declared.ty.Key.{Key}
use Rattle.jl_calculus.specs.declared.history.Change.{Change}
use Rattle.jl_calculus.specs.declared.history.Change.TheVariants as Ch
use Rattle.jl_calculus.specs.declared.history.Event.{Event}
use Rattle.jl_calculus.specs.declared.history.Event.TheVariants as Ev
use Rattle.jl_calculus.specs.declared.history.Outcome.{Outcome}
use Rattle.jl_calculus.specs.declared.history.Outcome.TheVariants as O
use Rattle.jl_calculus.specs.declared.history.TraceItem.{TraceItem}
use Rattle.jl_calculus.specs.declared.history.Record.{Record}
use Rattle.jl_program.specs.declared.tree.Start.{Start}
use Rattle.jl_program.specs.declared.tree.Program.{Program}
use Rattle.jl_program.specs.Prelude.{prelude_count}
use Rattle.jl_program.specs.Scope.{all_types}
use Rattle.jl_program.specs.ValidValue.{IsValueType}
use Rattle.jl_calculus.specs.Kept.{Places}
use Rattle.jl_model.specs.declared.limits.TheConstants.{MOST_FUEL, MOST_WORLDS, MOST_TASKS, MOST_CACHE_KEYS, MOST_CACHE_ROWS, MOST_ARGUMENTS}
use Rattle.jl_calculus.specs.Orders.{path_order}
use Rattle.jl_calculus.specs.Past.{tasks_of, done_of, IsTrueOf, IsInOrder, own_items, own_events, own_starts}
use Rattle.jl_calculus.specs.Ranges.{CacheRow, keys_of, rows_of, IsRightFill}
use Rattle.jl_calculus.specs.Run.{setting_of, Run}
use Rattle.jl_program.specs.Text.{error_line}
use Rattle.jl_calculus.specs.World.{world_of, FindsMethod}

-- the fuel of each task, where a Begin stands first
abbrev pub fuel_of : List Event → Option ℕ
fuel_of [] = None
fuel_of (Ev.Begin fuel ∷ es) = Some fuel
fuel_of (Ev.Key key ∷ es) = None
fuel_of (Ev.Fill key site first ∷ es) = None
fuel_of (Ev.Def by site ∷ es) = None
fuel_of (Ev.Del by place ∷ es) = None
fuel_of (Ev.Spawn parent child start ∷ es) = None
fuel_of (Ev.Done by ended ∷ es) = None

-- the task was started and has no Done
pub record IsRunning (es : List Event) (task : ℕ) : Type 0 where
  pub begun : IsSome (fuel_of es)
  pub started : task < tasks_of es
  pub going : done_of task es ≡ None

-- ---- the conditions on an event itself

-- a key names a function of the program and at most 8 concrete normal types
pub record IsKeyOf (P : Program) (key : Key) : Type 0 where
  pub function : key.function < length P.functions
  pub few : length key.types ≤ MOST_ARGUMENTS
  pub types : All (IsValueType (all_types P)) key.types

module _ (P : Program) (es : List Event) where
  -- a Begin stands first, with a fuel that may be given
  pub record IsBegin (fuel : ℕ) : Type 0 where
    pub nothing_before : es ≡ []
    pub allowed : fuel ≤ MOST_FUEL

  -- a key is one of the program, is new, and there is room for it
  pub record IsNewKey (key : Key) : Type 0 where
    pub proper : IsKeyOf P key
    pub new : Contains (keys_of es) key → ⊥
    pub room : length (keys_of es) < MOST_CACHE_KEYS

  -- a fill is of a key that is there, it is right for that key, no earlier one has its key and its first world, and there is room
  -- for it
  pub record IsNewFill (number site first : ℕ) : Type 0 where
    pub key : Key
    pub named : slice_get (keys_of es) number ≡ Some key
    pub right : IsRightFill P es key site first
    pub new : (row : CacheRow) → Contains (rows_of es) row → row.key ≡ number → row.first ≡ first → ⊥
    pub room : length (rows_of es) < MOST_CACHE_ROWS

  -- a change may be made in the newest world: a definition is of a site of the script, and a deletion finds a method to delete
  abbrev pub MayBeMade : Change → Type 0
  MayBeMade (Ch.Def site) = (prelude_count ≤ site) × (site < length P.sites)
  MayBeMade (Ch.Del place) = FindsMethod P es place

  -- a change is by a running task, may be made, and comes in a world that is not the last
  pub record IsChange (task : ℕ) (change : Change) : Type 0 where
    pub running : IsRunning es task
    pub may : MayBeMade change
    pub room : world_of es < MOST_WORLDS

  -- a spawn is by a running task, at a place of the program, of the next task, and there is room for it
  pub record IsSpawn (task child : ℕ) (start : Start) : Type 0 where
    pub running : IsRunning es task
    pub of_program : start.spawn < length P.spawns
    pub next : child ≡ tasks_of es
    pub room : tasks_of es < MOST_TASKS

  -- an event may come after these, whatever the end of a task says of it
  abbrev pub MayCome : Event → Type 0
  MayCome (Ev.Begin fuel) = IsBegin fuel
  MayCome (Ev.Key key) = IsNewKey key
  MayCome (Ev.Fill key site first) = IsNewFill key site first
  MayCome (Ev.Def task site) = IsChange task (Ch.Def site)
  MayCome (Ev.Del task place) = IsChange task (Ch.Del place)
  MayCome (Ev.Spawn task child start) = IsSpawn task child start
  MayCome (Ev.Done task ended) = IsRunning es task

-- ---- what the end of a task says of it

-- each item is true of the events
abbrev pub AreTrueOf : Program → List Event → ℕ → List TraceItem → Type 0
AreTrueOf P es task [] = Unit {0}
AreTrueOf P es task (i ∷ is) = IsTrueOf P es task i × AreTrueOf P es task is

-- where a task started: the root has no start
abbrev pub start_of : ℕ → List Event → Option Start
start_of task [] = None
start_of task (Ev.Spawn parent child start ∷ es) = cond (nat_eq child task) (Some start) (start_of task es)
start_of task (Ev.Begin fuel ∷ es) = start_of task es
start_of task (Ev.Key key ∷ es) = start_of task es
start_of task (Ev.Fill key site first ∷ es) = start_of task es
start_of task (Ev.Def by site ∷ es) = start_of task es
start_of task (Ev.Del by place ∷ es) = start_of task es
start_of task (Ev.Done by ended ∷ es) = start_of task es

-- the least place of the first item of a task's trace, among events that stand from a place on: past its Spawn, and 1 for the root
abbrev pub first_place : ℕ → ℕ → List Event → ℕ
first_place task p [] = 1
first_place task p (Ev.Spawn parent child start ∷ es) = cond (nat_eq child task) (p + 1) (first_place task (p + 1) es)
first_place task p (Ev.Begin fuel ∷ es) = first_place task (p + 1) es
first_place task p (Ev.Key key ∷ es) = first_place task (p + 1) es
first_place task p (Ev.Fill key site first ∷ es) = first_place task (p + 1) es
first_place task p (Ev.Def by site ∷ es) = first_place task (p + 1) es
first_place task p (Ev.Del by place ∷ es) = first_place task (p + 1) es
first_place task p (Ev.Done by ended ∷ es) = first_place task (p + 1) es

-- the items of its trace are true and in order
pub record HasTrueTrace (P : Program) (es : List Event) (task : ℕ) (ended : Record) : Type 0 where
  pub true_items : AreTrueOf P es task ended.trace
  pub in_order : IsInOrder (first_place task 0 es) ended.trace (length es)

-- its definitions, deletions and spawns among the events are those of its trace, in order, each once
abbrev pub HasOwnEvents : List Event → ℕ → Record → Type 0
HasOwnEvents es task ended = own_events task 0 es ≡ own_items ended.trace

-- what it did is a run over the events, with the places of the cache where they are asked of: from its start, with the fuel of the
-- Begin, and with the tasks that it spawned
abbrev pub HasRun : Program → Option Places → List Event → ℕ → Record → Type 0
HasRun P room es task ended =
    (fuel : ℕ) → fuel_of es ≡ Some fuel → Run (setting_of P es room fuel) (start_of task es) ended.trace ended.outcome ended.output ended.calls (own_starts task es)

-- a condition on the end of a task, where the event is one
abbrev pub OnDone : (ℕ → Record → Type 0) → Event → Type 0
OnDone R (Ev.Begin fuel) = Unit {0}
OnDone R (Ev.Key key) = Unit {0}
OnDone R (Ev.Fill key site first) = Unit {0}
OnDone R (Ev.Def task site) = Unit {0}
OnDone R (Ev.Del task place) = Unit {0}
OnDone R (Ev.Spawn task child start) = Unit {0}
OnDone R (Ev.Done task ended) = R task ended

-- ---- the list

-- each event keeps a condition on it and on those before it, from these on
abbrev pub EachAfter : (List Event → Event → Type 0) → List Event → List Event → Type 0
EachAfter R past [] = Unit {0}
EachAfter R past (e ∷ es) = R past e × EachAfter R (past ++ e ∷ []) es

-- a Begin stands first, and each event may come after those before it
pub record MayStand (P : Program) (es : List Event) : Type 0 where
  pub begun : IsSome (fuel_of es)
  pub come : EachAfter (MayCome P) [] es

-- each end of a task has a true trace, and the task's own events
pub record IsTraced (P : Program) (es : List Event) : Type 0 where
  pub traces : EachAfter (λ past. OnDone (HasTrueTrace P past)) [] es
  pub own : EachAfter (λ past. OnDone (HasOwnEvents past)) [] es

-- what each end of a task tells is a run over the events before it
abbrev pub AreRuns : Program → Option Places → List Event → Type 0
AreRuns P room es = EachAfter (λ past. OnDone (HasRun P room past)) [] es

-- the events are legal so far
pub record IsLegalSoFar (P : Program) (es : List Event) : Type 0 where
  pub stand : MayStand P es
  pub traced : IsTraced P es
  pub runs : AreRuns P None es

-- each task has a Done
abbrev pub AreFinished : List Event → Type 0
AreFinished es = (task : ℕ) → task < tasks_of es → IsSome (done_of task es)

-- the events are a legal history: legal so far, and every task has a Done
pub record IsLegal (P : Program) (es : List Event) : Type 0 where
  pub so_far : IsLegalSoFar P es
  pub finished : AreFinished es

-- the events are cached for these places: each end of a task is a run in which each counted call is kept for them
abbrev pub IsCached : Program → Places → List Event → Type 0
IsCached P room es = AreRuns P (Some room) es

-- ---- the text

-- what a task printed
abbrev pub output_of : Option Record → List ℕ
output_of None = []
output_of (Some ended) = ended.output

-- what the tasks printed, one after another
abbrev pub outputs : List Event → List ℕ → List ℕ
outputs es [] = []
outputs es (task ∷ tasks) = output_of (done_of task es) ++ outputs es tasks

-- the error line of an outcome
abbrev pub outcome_line : Program → Outcome → List ℕ
outcome_line P (O.Value v) = []
outcome_line P (O.Error e) = error_line P e

-- the error line of the root
abbrev pub root_line : Program → Option Record → List ℕ
root_line P None = []
root_line P (Some ended) = outcome_line P ended.outcome

-- the text of a legal history: the outputs, then the root's error line
abbrev pub text_of : Program → List Event → List ℕ
text_of P es = outputs es (path_order es) ++ root_line P (done_of 0 es)

-- the status that an outcome gives
abbrev pub outcome_status : Outcome → ℕ
outcome_status (O.Value v) = 0
outcome_status (O.Error e) = 1

abbrev pub root_status : Option Record → ℕ
root_status None = 0
root_status (Some ended) = outcome_status ended.outcome

-- 0 where the root ended with a value, and 1 where it ended with a fault
abbrev pub status_of : List Event → ℕ
status_of es = root_status (done_of 0 es)
