-- What seats know, and how it changes.
use Rattle.std.specs.Prelude.{ℕ, ◌+◌, ◌≡◌, ◌⊎◌, Bool, true, false, cond, nat_eq, List, [], ◌∷◌, ◌++◌, map, length, Option, None, Some}
use Rattle.jl_program.specs.declared.tree.Program.{Program}
use Rattle.jl_program.specs.declared.tree.Start.{Start}
use Rattle.jl_calculus.specs.declared.history.Event.{Event}
use Rattle.jl_calculus.specs.declared.history.Event.TheVariants as Ev
use Rattle.jl_calculus.specs.declared.history.TraceItem.{TraceItem}
use Rattle.jl_calculus.specs.Learnt.{Learnt, IsLearntOf}
use Rattle.jl_calculus.specs.Legal.{fuel_of, start_of, IsRunning, MayStand}
use Rattle.jl_calculus.specs.Past.{own_events, own_starts}
use Rattle.jl_world.specs.declared.view.TaskView.{TaskView}
use Rattle.jl_world.specs.declared.view.Stored.{Stored}
use Rattle.jl_world.specs.declared.view.BookView.{BookView}
use Rattle.jl_world.specs.declared.view.View.{View}
use Rattle.jl_world.specs.declared.view.View.TheVariants.{Nobody, Task, Book}

-- the first list is a beginning of the second
abbrev pub Begins : List Event → List Event → Type 0
Begins xs ys = (rest : List Event) × (ys ≡ xs ++ rest)

abbrev pub Each : {A : Type 0} → (A → Type 0) → List A → Type 0
Each P [] = Unit {0}
Each P (x ∷ xs) = P x × Each P xs

-- ---- the view of a task

abbrev pub number_or_zero : Option ℕ → ℕ
number_or_zero None = 0
number_or_zero (Some n) = n

-- the fuel that the events begin with
abbrev pub fuel_in : List Event → ℕ
fuel_in es = number_or_zero (fuel_of es)

-- a seat without a task, which has seen these events
abbrev pub idle : List Event → TaskView
idle es = record { task = None; start = None; fuel = 0; seen = es; own = []; starts = []; looks = 0 }

-- the seat of a task that just started, and has seen these events
abbrev pub begun : ℕ → Option Start → List Event → TaskView
begun t start es = record { task = Some t; start = start; fuel = fuel_in es; seen = es; own = []; starts = []; looks = 0 }

-- the same view where it has seen these events
abbrev pub met : List Event → TaskView → TaskView
met es v = record { task = v.task; start = v.start; fuel = v.fuel; seen = es; own = v.own; starts = v.starts; looks = v.looks }

-- the same with one look more
abbrev pub looked : List Event → TaskView → TaskView
looked es v = record { task = v.task; start = v.start; fuel = v.fuel; seen = es; own = v.own; starts = v.starts; looks = v.looks + 1 }

-- the definitions, deletions and spawns of a view's task among events that stand from a place on
abbrev pub own_of : Option ℕ → ℕ → List Event → List TraceItem
own_of None p es = []
own_of (Some t) p es = own_events t p es

-- the starts of what it spawned among events
abbrev pub starts_of : Option ℕ → List Event → List Start
starts_of None es = []
starts_of (Some t) es = own_starts t es

-- the same view after the event at a place, which may be its own
abbrev pub noted : ℕ → Event → TaskView → TaskView
noted p e v = record {
  task = v.task;
  start = v.start;
  fuel = v.fuel;
  seen = v.seen;
  own = v.own ++ own_of v.task p (e ∷ []);
  starts = v.starts ++ starts_of v.task (e ∷ []);
  looks = v.looks;
}

-- ---- what is right of it

-- a view is that of a running task: its start, the fuel, and all definitions, deletions and spawns of the task
pub record IsViewOf (es : List Event) (t : ℕ) (v : TaskView) : Type 0 where
  pub running : IsRunning es t
  pub start : v.start ≡ start_of t es
  pub fuel : fuel_of es ≡ Some v.fuel
  pub own : v.own ≡ own_events t 0 es
  pub starts : v.starts ≡ own_starts t es

-- nothing is asked of a seat without a task
abbrev pub IsOwn : List Event → Option ℕ → TaskView → Type 0
IsOwn es None v = Unit {0}
IsOwn es (Some t) v = IsViewOf es t v

-- what is true of the events that were seen is true of all
abbrev pub AreTrueStill : Program → List Event → List Event → Type 0
AreTrueStill P seen es = (t : ℕ) (i : Learnt) → IsLearntOf P seen t i → IsLearntOf P es t i

-- a view is right, where these are all events: it has seen a beginning of them, what it learnt is true of them, and the task and
-- its own events are as it knows them
pub record Fits (P : Program) (es : List Event) (v : TaskView) : Type 0 where
  pub prefix : Begins v.seen es
  pub stand : MayStand P v.seen
  pub learnt : AreTrueStill P v.seen es
  pub own : IsOwn es v.task v

-- ---- the views of several tasks

-- one of these views is this task's
abbrev pub HasTask : ℕ → List TaskView → Type 0
HasTask t [] = ⊥
HasTask t (v ∷ vs) = (v.task ≡ Some t) ⊎ HasTask t vs

-- no task has two of these views
abbrev pub NoTwice : List TaskView → Type 0
NoTwice [] = Unit {0}
NoTwice (v ∷ vs) = ((t : ℕ) → v.task ≡ Some t → HasTask t vs → ⊥) × NoTwice vs

abbrev pub is_of : ℕ → Option ℕ → Bool
is_of t None = false
is_of t (Some u) = nat_eq u t

-- these views without those of a task
abbrev pub without : ℕ → List TaskView → List TaskView
without t [] = []
without t (v ∷ vs) = cond (is_of t v.task) (without t vs) (v ∷ without t vs)

-- the view of a task among these
abbrev pub view_of : ℕ → List TaskView → TaskView
view_of t [] = idle []
view_of t (v ∷ vs) = cond (is_of t v.task) v (view_of t vs)

abbrev pub front : List TaskView → TaskView
front [] = idle []
front (v ∷ vs) = v

abbrev pub rest : List TaskView → List TaskView
rest [] = []
rest (v ∷ vs) = vs

-- ---- the book's view

-- a task that an event starts has a view that has seen it, and the view of a task that ends is dropped
abbrev pub held_after : List Event → Event → List TaskView → List TaskView
held_after es (Ev.Begin fuel) vs = map (noted (length es) (Ev.Begin fuel)) vs
held_after es (Ev.Key key) vs = map (noted (length es) (Ev.Key key)) vs
held_after es (Ev.Fill key site first) vs = map (noted (length es) (Ev.Fill key site first)) vs
held_after es (Ev.Def task site) vs = map (noted (length es) (Ev.Def task site)) vs
held_after es (Ev.Del task place) vs = map (noted (length es) (Ev.Del task place)) vs
held_after es (Ev.Spawn task child start) vs = begun child (Some start) (es ++ Ev.Spawn task child start ∷ []) ∷ map (noted (length es) (Ev.Spawn task child start)) vs
held_after es (Ev.Done task ended) vs = without task vs

-- a fill links the row whose words were stored
abbrev pub stored_after : Event → List Stored → List Stored
stored_after (Ev.Begin fuel) xs = xs
stored_after (Ev.Key key) xs = xs
stored_after (Ev.Fill key site first) xs = []
stored_after (Ev.Def task site) xs = xs
stored_after (Ev.Del task place) xs = xs
stored_after (Ev.Spawn task child start) xs = xs
stored_after (Ev.Done task ended) xs = xs

-- with one event more, for which the rows that were cut ahead are cut now
abbrev pub grown : Event → BookView → BookView
grown e b = record { events = b.events ++ e ∷ []; held = held_after b.events e b.held; cut = []; stored = stored_after e b.stored }

-- with the view of a task that it took in
abbrev pub taken : TaskView → BookView → BookView
taken v b = record { events = b.events; held = v ∷ b.held; cut = b.cut; stored = b.stored }

-- without the views of a task
abbrev pub given : ℕ → BookView → BookView
given t b = record { events = b.events; held = without t b.held; cut = b.cut; stored = b.stored }

-- without the view that it took in last
abbrev pub returned : BookView → BookView
returned b = record { events = b.events; held = rest b.held; cut = b.cut; stored = b.stored }

-- with a row cut ahead
abbrev pub cut_at : ℕ → BookView → BookView
cut_at r b = record { events = b.events; held = b.held; cut = r ∷ b.cut; stored = b.stored }

-- with one word more of a row that is not linked
abbrev pub stored_at : ℕ → ℕ → BookView → BookView
stored_at i n b = record { events = b.events; held = b.held; cut = b.cut; stored = record { place = i; value = n } ∷ b.stored }

-- what was stored last into a word
abbrev pub stored_word : List Stored → ℕ → Option ℕ
stored_word [] i = None
stored_word (x ∷ xs) i = cond (nat_eq x.place i) (Some x.value) (stored_word xs i)

-- ---- a seat's view

-- the views of tasks that a seat has
abbrev pub parts : View → List TaskView
parts Nobody = []
parts (Task v) = v ∷ []
parts (Book b) = b.held

-- at another seat a view that knows nothing
abbrev pub task_of : View → TaskView
task_of (Task v) = v
task_of Nobody = idle []
task_of (Book b) = idle []

abbrev pub book_of : View → BookView
book_of (Book b) = b
book_of Nobody = record { events = []; held = []; cut = []; stored = [] }
book_of (Task v) = record { events = []; held = []; cut = []; stored = [] }
