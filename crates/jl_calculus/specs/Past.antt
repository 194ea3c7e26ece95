-- What is true of the events so far, and the order of a trace.
use Rattle.std.specs.Prelude.{ℕ, ◌+◌, ◌≡◌, ◌<◌, ◌≤◌, cond, nat_eq, List, [], ◌∷◌, length, take, slice_get, Option, None, Some}
use Rattle.jl_calculus.specs.declared.history.Event.{Event}
use Rattle.jl_calculus.specs.declared.history.Event.TheVariants as Ev
use Rattle.jl_calculus.specs.declared.history.Outcome.{Outcome}
use Rattle.jl_calculus.specs.declared.history.TraceItem.{TraceItem}
use Rattle.jl_calculus.specs.declared.history.TraceItem.TheVariants.{Look, Def, Del, Spawn, Fetch, WorldFull, TaskFull, Absent}
use Rattle.jl_calculus.specs.declared.history.Record.{Record}
use Rattle.jl_program.specs.declared.tree.Program.{Program}
use Rattle.jl_program.specs.declared.tree.Start.{Start}
use Rattle.jl_model.specs.declared.limits.TheConstants.{MOST_WORLDS, MOST_TASKS}
use Rattle.jl_calculus.specs.World.{world_of, FindsMethod}

-- the tasks that were started, the root among them
abbrev pub tasks_of : List Event → ℕ
tasks_of [] = 1
tasks_of (Ev.Spawn task child start ∷ es) = 1 + tasks_of es
tasks_of (Ev.Begin fuel ∷ es) = tasks_of es
tasks_of (Ev.Key key ∷ es) = tasks_of es
tasks_of (Ev.Fill key site first ∷ es) = tasks_of es
tasks_of (Ev.Def task site ∷ es) = tasks_of es
tasks_of (Ev.Del task place ∷ es) = tasks_of es
tasks_of (Ev.Done task ended ∷ es) = tasks_of es

-- the first Done of a task
abbrev pub done_of : ℕ → List Event → Option Record
done_of t [] = None
done_of t (Ev.Done task ended ∷ es) = cond (nat_eq task t) (Some ended) (done_of t es)
done_of t (Ev.Spawn task child start ∷ es) = done_of t es
done_of t (Ev.Begin fuel ∷ es) = done_of t es
done_of t (Ev.Key key ∷ es) = done_of t es
done_of t (Ev.Fill key site first ∷ es) = done_of t es
done_of t (Ev.Def task site ∷ es) = done_of t es
done_of t (Ev.Del task place ∷ es) = done_of t es

-- an event is this definition of a task
abbrev pub DefinesAt : List Event → ℕ → ℕ → ℕ → Type 0
DefinesAt es p t site = slice_get es p ≡ Some (Ev.Def t site)

-- an event is this deletion of a task
abbrev pub DeletesAt : List Event → ℕ → ℕ → ℕ → Type 0
DeletesAt es p t place = slice_get es p ≡ Some (Ev.Del t place)

-- an event is this spawn of a task
abbrev pub SpawnsAt : List Event → ℕ → ℕ → ℕ → Type 0
SpawnsAt es p t child = (start : Start) × (slice_get es p ≡ Some (Ev.Spawn t child start))

-- there is a record, of this outcome
abbrev pub EndedSo : Option Record → Outcome → Type 0
EndedSo None outcome = ⊥
EndedSo (Some ended) outcome = ended.outcome ≡ outcome

-- there is a world after these events, and no method of the function and the signature of this deletion place stands in the newest
pub record IsAbsent (P : Program) (es : List Event) (place : ℕ) : Type 0 where
  pub known : place < length P.deletes
  pub room : world_of es < MOST_WORLDS
  pub absent : FindsMethod P es place → ⊥

-- an item of a task's trace is true of the events
abbrev pub IsTrueOf : Program → List Event → ℕ → TraceItem → Type 0
IsTrueOf P es t (Look w p) = (p ≤ length es) × (world_of (take p es) ≡ w)
IsTrueOf P es t (Def site p) = DefinesAt es p t site
IsTrueOf P es t (Spawn child p) = SpawnsAt es p t child
IsTrueOf P es t (Fetch task outcome p) = (p ≤ length es) × EndedSo (done_of task (take p es)) outcome
IsTrueOf P es t (WorldFull p) = (p ≤ length es) × (world_of (take p es) ≡ MOST_WORLDS)
IsTrueOf P es t (Del place p) = DeletesAt es p t place
IsTrueOf P es t (Absent place p) = (p ≤ length es) × IsAbsent P (take p es) place
IsTrueOf P es t (TaskFull p) = (p ≤ length es) × (tasks_of (take p es) ≡ MOST_TASKS)

-- the place that an item tells
abbrev pub place : TraceItem → ℕ
place (Look w p) = p
place (Def site p) = p
place (Spawn child p) = p
place (Fetch task outcome p) = p
place (WorldFull p) = p
place (TaskFull p) = p
place (Del at p) = p
place (Absent at p) = p

-- the least place of what may follow an item
abbrev pub past : TraceItem → ℕ
past (Look w p) = p
past (Def site p) = p + 1
past (Spawn child p) = p + 1
past (Fetch task outcome p) = p
past (WorldFull p) = p
past (TaskFull p) = p
past (Del at p) = p + 1
past (Absent at p) = p

-- the items follow one another from a place on, and something at least at the last place may follow
abbrev pub IsInOrder : ℕ → List TraceItem → ℕ → Type 0
IsInOrder low [] high = low ≤ high
IsInOrder low (i ∷ is) high = (low ≤ place i) × IsInOrder (past i) is high

-- the definitions, deletions and spawns of a trace
abbrev pub own_items : List TraceItem → List TraceItem
own_items [] = []
own_items (Def site p ∷ is) = Def site p ∷ own_items is
own_items (Spawn child p ∷ is) = Spawn child p ∷ own_items is
own_items (Look w p ∷ is) = own_items is
own_items (Fetch task outcome p ∷ is) = own_items is
own_items (WorldFull p ∷ is) = own_items is
own_items (TaskFull p ∷ is) = own_items is
own_items (Del at p ∷ is) = Del at p ∷ own_items is
own_items (Absent at p ∷ is) = own_items is

-- an item, where it is of this task
abbrev pub if_own : ℕ → ℕ → TraceItem → List TraceItem → List TraceItem
if_own task t i is = cond (nat_eq task t) (i ∷ is) is

-- the definitions, deletions and spawns of a task among events that stand from a place on, as items
abbrev pub own_events : ℕ → ℕ → List Event → List TraceItem
own_events t p [] = []
own_events t p (Ev.Def task site ∷ es) = if_own task t (Def site p) (own_events t (p + 1) es)
own_events t p (Ev.Del task at ∷ es) = if_own task t (Del at p) (own_events t (p + 1) es)
own_events t p (Ev.Spawn task child start ∷ es) = if_own task t (Spawn child p) (own_events t (p + 1) es)
own_events t p (Ev.Begin fuel ∷ es) = own_events t (p + 1) es
own_events t p (Ev.Key key ∷ es) = own_events t (p + 1) es
own_events t p (Ev.Fill key site first ∷ es) = own_events t (p + 1) es
own_events t p (Ev.Done task ended ∷ es) = own_events t (p + 1) es

-- the starts of the tasks that a task spawned, in order
abbrev pub own_starts : ℕ → List Event → List Start
own_starts t [] = []
own_starts t (Ev.Spawn task child start ∷ es) = cond (nat_eq task t) (start ∷ own_starts t es) (own_starts t es)
own_starts t (Ev.Begin fuel ∷ es) = own_starts t es
own_starts t (Ev.Key key ∷ es) = own_starts t es
own_starts t (Ev.Fill key site first ∷ es) = own_starts t es
own_starts t (Ev.Def task site ∷ es) = own_starts t es
own_starts t (Ev.Del task place ∷ es) = own_starts t es
own_starts t (Ev.Done task ended ∷ es) = own_starts t es
