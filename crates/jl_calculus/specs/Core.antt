-- The model of all steps of a run: its states, when a step is enabled, and what it leaves. It has no machine in it: what a task
-- computes between two steps is left open, so that each schedule of each program is among its runs.
use Rattle.std.specs.Prelude.{ℕ, zero, suc, ◌+◌, ◌≡◌, ◌<◌, ◌≤◌, max, Bool, ◌&&◌, ◌||◌, cond, nat_eq, nat_le, List, [], ◌∷◌, ◌++◌, length, take, slice_get, Option, None, Some}
use Rattle.std.specs.List.{Contains, flat_map}
use Rattle.jl_model.specs.declared.ty.Key.{Key}
use Rattle.jl_program.specs.declared.choice.Choice.TheVariants as C
use Rattle.jl_program.specs.declared.datum.Datum.{Datum}
use Rattle.jl_program.specs.declared.datum.Datum.TheOpen.{Datum-F}
use Rattle.jl_program.specs.declared.datum.Datum.TheOpen as D
use Rattle.jl_program.specs.declared.datum.Datum.TheFolds.{fold-Datum}
use Rattle.jl_program.specs.declared.fault.Fault.{Fault}
use Rattle.jl_program.specs.declared.fault.Fault.TheVariants as F
use Rattle.jl_program.specs.declared.tree.Program.{Program}
use Rattle.jl_program.specs.declared.tree.Start.{Start}
use Rattle.jl_program.specs.Meaning.{datum}
use Rattle.jl_program.specs.Prelude.{prelude_count}
use Rattle.jl_calculus.specs.declared.history.Change.{Change}
use Rattle.jl_calculus.specs.declared.history.Event.{Event}
use Rattle.jl_calculus.specs.declared.history.Event.TheVariants as Ev
use Rattle.jl_calculus.specs.declared.history.Outcome.{Outcome}
use Rattle.jl_calculus.specs.declared.history.Outcome.TheVariants as O
use Rattle.jl_calculus.specs.declared.history.Record.{Record}
use Rattle.jl_calculus.specs.declared.step.Step.{Step}
use Rattle.jl_calculus.specs.declared.step.Step.TheVariants as St
use Rattle.jl_calculus.specs.Kept.{Places}
use Rattle.jl_calculus.specs.Legal.{IsRunning, IsKeyOf, MayBeMade, HasTrueTrace, HasOwnEvents}
use Rattle.jl_model.specs.declared.limits.TheConstants.{MOST_WORLDS, MOST_TASKS}
use Rattle.jl_calculus.specs.Past.{tasks_of, done_of}
use Rattle.jl_calculus.specs.Ranges.{keys_of, rows_of, Covers, IsCovered, IsRightFill}
use Rattle.jl_calculus.specs.Words.{world_length, link_of, fill_length, IsToCut, IsRowWords}
use Rattle.jl_calculus.specs.World.{world_of, change_event, Selects}

-- ---- what mentions tasks

abbrev pub in_layer : Datum-F (List ℕ) → List ℕ
in_layer (D.Int n) = []
in_layer (D.Bool b) = []
in_layer D.Nothing = []
in_layer (D.Task n) = n ∷ []
in_layer (D.Tuple t parts) = flat_map (λ xs. xs) parts
in_layer (D.Struct t parts) = flat_map (λ xs. xs) parts

-- the tasks that a value mentions
abbrev pub tasks_in : Datum → List ℕ
tasks_in = fold-Datum (List ℕ) in_layer

-- those that a fault mentions
abbrev pub in_fault : Fault → List ℕ
in_fault (F.TaskFailed task) = task ∷ []
in_fault (F.NoMethod f ts w) = []
in_fault (F.Ambiguous f ts a b) = []
in_fault (F.NoConstructor t ts) = []
in_fault F.DivideError = []
in_fault (F.FieldType t name got) = []
in_fault (F.BadParameter t) = []
in_fault (F.NoField t name) = []
in_fault (F.NoIndex t n) = []
in_fault (F.NotBool t) = []
in_fault (F.NotTask t) = []
in_fault (F.NoSuchMethod f) = []
in_fault (F.FuelSpent fuel) = []
in_fault F.StackLimit = []
in_fault F.WorldLimit = []
in_fault F.TaskLimit = []
in_fault F.TypeLimit = []
in_fault F.ValueLimit = []

-- those that an outcome mentions
abbrev pub in_outcome : Outcome → List ℕ
in_outcome (O.Value v) = tasks_in (datum v)
in_outcome (O.Error e) = in_fault e

-- those that the values of a start mention
abbrev pub in_start : Start → List ℕ
in_start start = flat_map tasks_in start.env

-- ---- states

-- where a search is: at a row, or at its end, with a site or with none
pub data Stand : Type 0 where
  at_row : ℕ → Stand
  found : ℕ → Stand
  missed : Stand

-- a search of a key in a world, which stays whatever its task looks at afterwards
pub record Search : Type 0 where
  pub key : ℕ
  pub world : ℕ
  pub stand : Stand

-- what a task has seen, the tasks that it knows, and its last search
pub record TaskState : Type 0 where
  pub seen : ℕ
  pub known : List ℕ
  pub search : Option Search

-- an open change: the task that makes it, the change, and the rows that were cut for it
pub record Opened : Type 0 where
  pub task : ℕ
  pub change : Change
  pub cut : List ℕ

-- a state: the events, the tasks by their numbers, and the open change
pub record Core : Type 0 where
  pub events : List Event
  pub tasks : List TaskState
  pub opened : Option Opened

-- at the start the root has seen the Begin
abbrev pub first_core : ℕ → Core
first_core fuel = record { events = Ev.Begin fuel ∷ []; tasks = record { seen = 1; known = []; search = None } ∷ []; opened = None }

-- the rows that were cut for the open change
abbrev pub cut_for : Option Opened → List ℕ
cut_for None = []
cut_for (Some o) = o.cut

-- ---- when a step is enabled

module _ (P : Program) (room : Places) (s : Core) where
  -- the task is running, and no change is open
  pub record IsFree (task : ℕ) : Type 0 where
    pub running : IsRunning s.events task
    pub closed : s.opened ≡ None

  -- a task is in this state
  abbrev pub IsAt : ℕ → TaskState → Type 0
  IsAt task t = slice_get s.tasks task ≡ Some t

  -- the task has seen the key and the world
  pub record HasSeen (task number w : ℕ) : Type 0 where
    pub state : TaskState
    pub at : IsAt task state
    pub key : number < length (keys_of (take state.seen s.events))
    pub low : prelude_count ≤ w
    pub high : w ≤ world_of (take state.seen s.events)

  -- the task knows each of these
  pub record Knows (task : ℕ) (others : List ℕ) : Type 0 where
    pub state : TaskState
    pub at : IsAt task state
    pub each : (other : ℕ) → Contains others other → Contains state.known other

  -- the task has seen the world
  pub record HasSeenWorld (task w : ℕ) : Type 0 where
    pub state : TaskState
    pub at : IsAt task state
    pub high : w ≤ world_of (take state.seen s.events)

  -- this change is open, by this task, and these rows were cut for it
  abbrev pub IsOpen : Opened → Type 0
  IsOpen o = s.opened ≡ Some o

  pub record CanName (task : ℕ) (key : Key) : Type 0 where
    pub free : IsFree task
    pub proper : IsKeyOf P key
    pub new : Contains (keys_of s.events) key → ⊥
    pub place : length (keys_of s.events) < room.keys

  pub record CanSearch (task number w : ℕ) : Type 0 where
    pub running : IsRunning s.events task
    pub seen : HasSeen task number w

  -- the search of the task is at a row
  pub record IsAtRow (task : ℕ) (t : TaskState) (search : Search) (r : ℕ) : Type 0 where
    pub at : IsAt task t
    pub searching : t.search ≡ Some search
    pub stands : search.stand ≡ at_row r

  abbrev pub CanRead : ℕ → Type 0
  CanRead task = (t : TaskState) × (search : Search) × (r : ℕ) × IsAtRow task t search r

  pub record CanFill (task number w : ℕ) : Type 0 where
    pub free : IsFree task
    pub seen : HasSeen task number w
    pub key : Key
    pub named : slice_get (keys_of s.events) number ≡ Some key
    pub choice : (d : ℕ) × Selects P s.events key.function key.types w (C.Method d)
    pub uncovered : IsCovered P s.events number key w → ⊥
    pub place : length (rows_of s.events) < room.rows

  pub record CanOpen (task : ℕ) (change : Change) : Type 0 where
    pub free : IsFree task
    pub may : MayBeMade P s.events change
    pub place : world_of s.events < MOST_WORLDS

  -- a row that the open change will end, and that was not cut for it yet
  pub record IsLeft (o : Opened) (r : ℕ) : Type 0 where
    pub ends : IsToCut P s.events o.change r
    pub not_cut : Contains o.cut r → ⊥

  abbrev pub CanCut : ℕ → Type 0
  CanCut r = (o : Opened) × IsOpen o × IsLeft o r

  abbrev pub CanPublish : Type 0
  CanPublish = (o : Opened) × IsOpen o × ((r : ℕ) → IsLeft o r → ⊥)

  pub record CanSpawn (task : ℕ) (start : Start) : Type 0 where
    pub free : IsFree task
    pub place : tasks_of s.events < MOST_TASKS
    pub of_program : start.spawn < length P.spawns
    pub world : HasSeenWorld task start.world
    pub known : Knows task (in_start start)

  pub record CanEnd (task : ℕ) (ended : Record) : Type 0 where
    pub free : IsFree task
    pub traced : HasTrueTrace P s.events task ended
    pub own : HasOwnEvents s.events task ended
    pub known : Knows task (in_outcome ended.outcome)

  pub record CanFetch (task of : ℕ) : Type 0 where
    pub free : IsFree task
    pub known : Knows task (of ∷ [])
    pub ended : (r : Record) × (done_of of s.events ≡ Some r)

  abbrev pub IsEnabled : Step → Type 0
  IsEnabled (St.Look task) = IsRunning s.events task
  IsEnabled (St.Key task key) = CanName task key
  IsEnabled (St.Head task key w) = CanSearch task key w
  IsEnabled (St.Row task) = CanRead task
  IsEnabled (St.Fill task key w) = CanFill task key w
  IsEnabled (St.Open task change) = CanOpen task change
  IsEnabled (St.Cut r) = CanCut r
  IsEnabled St.Publish = CanPublish
  IsEnabled (St.Spawn task start) = CanSpawn task start
  IsEnabled (St.Done task ended) = CanEnd task ended
  IsEnabled (St.Fetch task of) = CanFetch task of

-- ---- what a step leaves

-- the state of one task is changed so
abbrev pub at_task : (TaskState → TaskState) → ℕ → List TaskState → List TaskState
at_task f task [] = []
at_task f zero (t ∷ ts) = f t ∷ ts
at_task f (suc task) (t ∷ ts) = t ∷ at_task f task ts

abbrev pub change_task : Core → ℕ → (TaskState → TaskState) → Core
change_task s task f = record { events = s.events; tasks = at_task f task s.tasks; opened = s.opened }

-- a task has seen so many events, or more
abbrev pub with_seen : ℕ → TaskState → TaskState
with_seen n t = record { seen = max t.seen n; known = t.known; search = t.search }

abbrev pub with_search : Search → TaskState → TaskState
with_search search t = record { seen = t.seen; known = t.known; search = Some search }

abbrev pub with_known : List ℕ → TaskState → TaskState
with_known others t = record { seen = t.seen; known = t.known ++ others; search = t.search }

-- one more event, which its task has seen then, with all before it; a change that was open is open no longer
abbrev pub with_event : Core → ℕ → Event → Core
with_event s task e = record { events = s.events ++ e ∷ []; tasks = at_task (with_seen (length s.events + 1)) task s.tasks; opened = None }

-- where a search goes by a link: 0 is no row
abbrev pub go_to : ℕ → Stand
go_to zero = missed
go_to (suc r) = at_row r

-- a row with this first and this last world covers a world; 0 is no last world
abbrev pub is_reached : ℕ → ℕ → ℕ → Bool
is_reached first last w = nat_le first w && (nat_eq last 0 || nat_le w last)

-- a search that has read a row
abbrev pub after_row : Search → ℕ → ℕ → ℕ → ℕ → Search
after_row search site first last next = record { key = search.key; world = search.world; stand = cond (is_reached first last search.world) (found site) (go_to next) }

abbrev pub new_search : Core → ℕ → ℕ → Search
new_search s number w = record { key = number; world = w; stand = go_to (link_of number (rows_of s.events)) }

-- a task that was just spawned: it has seen its Spawn, and knows the tasks that its start mentions
abbrev pub child_of : Core → Start → TaskState
child_of s start = record { seen = length s.events + 1; known = in_start start; search = None }

abbrev pub with_cut : Opened → ℕ → Opened
with_cut o r = record { task = o.task; change = o.change; cut = o.cut ++ r ∷ [] }

abbrev pub with_opened : Core → Option Opened → Core
with_opened s o = record { events = s.events; tasks = s.tasks; opened = o }

abbrev pub with_child : Core → TaskState → Core
with_child s child = record { events = s.events; tasks = s.tasks ++ child ∷ []; opened = s.opened }

-- The step of a search at a row, with the words of that row, and the fill of a key: these ask which definitions touch the key.
module _ (P : Program) (s after : Core) where
  pub record HasRead (task : ℕ) : Type 0 where
    pub t : TaskState
    pub search : Search
    pub r : ℕ
    pub at : slice_get s.tasks task ≡ Some t
    pub searched : t.search ≡ Some search
    pub stood : search.stand ≡ at_row r
    pub site : ℕ
    pub first : ℕ
    pub last : ℕ
    pub next : ℕ
    pub words : IsRowWords P s.events (cut_for s.opened) r site first last next
    pub is : after ≡ change_task s task (with_search (after_row search site first last next))

  -- the row begins at the last world, up to the asked one, that a definition made which touches the key, or at the last world of the
  -- prelude
  pub record HasFilled (task number w : ℕ) : Type 0 where
    pub key : Key
    pub named : slice_get (keys_of s.events) number ≡ Some key
    pub site : ℕ
    pub first : ℕ
    pub right : IsRightFill P s.events key site first
    pub covers : Covers P s.events key first w
    pub is : after ≡ with_event s task (Ev.Fill number site first)

  -- a step leaves this
  abbrev pub Leaves : Step → Type 0
  Leaves (St.Look task) = after ≡ change_task s task (with_seen (world_length s.events))
  Leaves (St.Key task key) = after ≡ with_event s task (Ev.Key key)
  Leaves (St.Head task key w) = after ≡ change_task s task (λ t. with_search (new_search s key w) (with_seen (fill_length key s.events) t))
  Leaves (St.Row task) = HasRead task
  Leaves (St.Fill task key w) = HasFilled task key w
  Leaves (St.Open task change) = after ≡ with_opened s (Some (record { task = task; change = change; cut = [] }))
  Leaves (St.Cut r) = (o : Opened) × (s.opened ≡ Some o) × (after ≡ with_opened s (Some (with_cut o r)))
  Leaves St.Publish = (o : Opened) × (s.opened ≡ Some o) × (after ≡ with_event s o.task (change_event o.task o.change))
  Leaves (St.Spawn task start) = after ≡ with_child (change_task (with_event s task (Ev.Spawn task (tasks_of s.events) start)) task (with_known (tasks_of s.events ∷ []))) (child_of s start)
  Leaves (St.Done task ended) = after ≡ with_event s task (Ev.Done task ended)
  Leaves (St.Fetch task of) =
      (r : Record) × (done_of of s.events ≡ Some r) × (after ≡ change_task s task (λ t. with_known (in_outcome r.outcome) (with_seen (length s.events) t)))

-- ---- runs of the model

-- from one state to another by enabled steps, one after another
pub data Reaches (P : Program) (room : Places) : Core → Core → Type 0 where
  stays : (s : Core) → Reaches P room s s
  goes : (s t u : Core) (step : Step) → Reaches P room s t → IsEnabled P room t step → Leaves P t u step → Reaches P room s u
