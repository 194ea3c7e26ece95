-- What a dispatcher means.
use Rattle.std.specs.Prelude.{◌≡◌, ℕ, ◌+◌, ◌-◌, ◌<◌, ◌≤◌, List, [], ◌∷◌, ◌++◌, take, Option, None, Some, slice_get}
use Rattle.jl_program.specs.declared.prelude.TheConstants.{FIRST_WORLD}
use Rattle.jl_model.specs.declared.ty.Ty.{Ty}
use Rattle.jl_calculus.specs.declared.history.Event.{Event}
use Rattle.jl_calculus.specs.declared.history.TraceItem.{TraceItem}
use Rattle.jl_calculus.specs.declared.history.TraceItem.TheVariants.{Look, Def, Del, Spawn, Fetch, WorldFull, TaskFull, Absent}
use Rattle.jl_program.specs.declared.choice.Choice.{Choice}
use Rattle.jl_program.specs.declared.choice.Choice.TheVariants as C
use Rattle.jl_program.specs.declared.tree.Program.{Program}
use Rattle.jl_program.specs.declared.tree.Site.{Site}
use Rattle.jl_program.specs.declared.tree.Start.{Start}
use Rattle.jl_program.specs.Scope.{types_of}
use Rattle.jl_model.specs.Bindings.{bindings}
use Rattle.jl_calculus.specs.declared.history.Outcome.{Outcome}
use Rattle.jl_calculus.specs.Kept.{Places, Keeps}
use Rattle.jl_calculus.specs.Past.{IsTrueOf, done_of}
use Rattle.jl_calculus.specs.World.{Selects, site_of, world_of}
use Rattle.jl_task.specs.Worlds.{IsWorld}

-- what somebody claims that a task did: the events of the run, the task, and its trace
pub record Claim : Type 0 where
  pub events : List Event
  pub task : ℕ
  pub trace : List TraceItem

pub record Knows : Type 1 where
  -- all answers speak of it
  pub program : Program
  -- the task that asks, its start, if it is not the root, and the least place of an item of its trace
  pub task : ℕ
  pub start : Option Start
  pub first : ℕ
  -- it never falls, and is at least the world of each look
  pub world : ℕ
  -- how many events the task has seen
  pub seen : ℕ
  -- whether a list of events agrees with what it knows, and one that does
  pub agrees : List Event → Type 0
  pub events : List Event
  pub agreed : agrees events
  -- the items that it has learnt
  pub learnt : TraceItem → Type 0
  -- the definitions, deletions and spawns that it made, in order, and the starts of the spawns
  pub own : List TraceItem
  pub starts : List Start
  -- how often it looked
  pub looks : ℕ
  -- how many keys and rows the calls are to be kept in, if that is asked
  pub places : Option Places
  -- the site that it tells for a definition, until the next call
  pub site : ℕ → ℕ
  -- what a claim and the trace so far have to do with each other: it stays so where each item that is told joins the trace
  pub follows : Claim → List TraceItem → Type 0

-- what a call leaves: what was known stays known
pub record Grew (before now : Knows) : Type 0 where
  pub program : now.program ≡ before.program
  pub places : now.places ≡ before.places
  pub task : now.task ≡ before.task
  pub start : now.start ≡ before.start
  pub first : now.first ≡ before.first
  pub world : before.world ≤ now.world
  pub seen : before.seen ≤ now.seen
  pub agrees : (es : List Event) → now.agrees es → before.agrees es
  pub learnt : (i : TraceItem) → before.learnt i → now.learnt i

-- an item that is told is learnt, and true wherever a list agrees
pub record Told (now : Knows) (i : TraceItem) : Type 0 where
  pub learnt : now.learnt i
  pub right : (es : List Event) → now.agrees es → IsTrueOf now.program es now.task i

-- a look, which answered this world and this length
pub record Looked (before now : Knows) (w p : ℕ) : Type 0 where
  pub grew : Grew before now
  pub told : Told now (Look w p)
  pub length : now.seen ≡ p
  pub low : FIRST_WORLD ≤ w
  pub high : w ≤ now.world
  pub looks : now.looks ≡ before.looks + 1
  pub own : now.own ≡ before.own
  pub starts : now.starts ≡ before.starts
  pub follows : (c : Claim) (is : List TraceItem) → before.follows c is → now.follows c (is ++ Look w p ∷ [])

-- a question that is no look and makes nothing
pub record Asked (before now : Knows) : Type 0 where
  pub grew : Grew before now
  pub looks : now.looks ≡ before.looks
  pub own : now.own ≡ before.own
  pub starts : now.starts ≡ before.starts
  pub follows : (c : Claim) (is : List TraceItem) → before.follows c is → now.follows c is

-- a question that was refused: more may be known, and nothing was made
pub record Refused (before now : Knows) : Type 0 where
  pub grew : Grew before now
  pub looks : now.looks ≡ before.looks
  pub own : now.own ≡ before.own
  pub starts : now.starts ≡ before.starts

-- a definition that is chosen is one of the world
abbrev pub IsOfWorld : Choice → ℕ → Type 0
IsOfWorld (C.Method d) w = (1 ≤ d) × (d ≤ w)
IsOfWorld _ w = Unit {0}

-- what may be answered where the rules choose: their choice, or for a definition one of which the dispatcher tells the same site
abbrev pub SelectsBySite : Knows → List Event → ℕ → List Ty → ℕ → Choice → Type 0
SelectsBySite k es f ts w (C.Method d) = (chosen : ℕ) × Selects k.program es f ts w (C.Method chosen) × (site_of es chosen ≡ k.site d)
SelectsBySite k es f ts w C.None = Selects k.program es f ts w C.None
SelectsBySite k es f ts w (C.Ambiguous a b) = Selects k.program es f ts w (C.Ambiguous a b)

-- a choice is right, and the call is kept where that is asked
pub record IsRight (now : Knows) (f : ℕ) (ts : List Ty) (w : ℕ) (c : Choice) : Type 0 where
  pub right : (es : List Event) → now.agrees es → SelectsBySite now es f ts w c
  pub kept : (es : List Event) → now.agrees es → Keeps now.program es now.places f ts w
  pub of_world : IsOfWorld c w

-- in each list that agrees the rules choose a method of this site
abbrev pub IsOfSite : Knows → ℕ → List Ty → ℕ → ℕ → Type 0
IsOfSite now f ts w site = (es : List Event) → now.agrees es → (chosen : ℕ) × Selects now.program es f ts w (C.Method chosen) × (site_of es chosen ≡ site)

-- the signature of a site, if it is there
abbrev pub variables_of : Knows → List Ty → Option Site → List Ty
variables_of now ts None = []
variables_of now ts (Some site) = bindings (types_of now.program) site.sig ts

-- A method is chosen for a call: its site, the types of the variables of its signature, and that the call is kept where that is asked.
pub record IsMethod (now : Knows) (f : ℕ) (ts : List Ty) (w : ℕ) (site : ℕ) (statics : List Ty) : Type 0 where
  pub right : IsOfSite now f ts w site
  pub kept : (es : List Event) → now.agrees es → Keeps now.program es now.places f ts w
  pub bound : variables_of now ts (slice_get now.program.sites site) ≡ statics

-- a definition of a site, which is then seen
pub record Defined (before now : Knows) (site : ℕ) : Type 0 where
  pub told : Told now (Def site (now.seen - 1))
  pub place : before.seen < now.seen
  pub looks : now.looks ≡ before.looks
  pub own : now.own ≡ before.own ++ Def site (now.seen - 1) ∷ []
  pub starts : now.starts ≡ before.starts
  pub follows : (c : Claim) (is : List TraceItem) → before.follows c is → now.follows c (is ++ Def site (now.seen - 1) ∷ [])

-- a deletion at a place, which is then seen
pub record Deleted (before now : Knows) (at : ℕ) : Type 0 where
  pub told : Told now (Del at (now.seen - 1))
  pub place : before.seen < now.seen
  pub looks : now.looks ≡ before.looks
  pub own : now.own ≡ before.own ++ Del at (now.seen - 1) ∷ []
  pub starts : now.starts ≡ before.starts
  pub follows : (c : Claim) (is : List TraceItem) → before.follows c is → now.follows c (is ++ Del at (now.seen - 1) ∷ [])

-- there is nothing to delete at a place: no method of its function and its signature stands among the events that were then seen
pub record IsAbsentNow (before now : Knows) (at : ℕ) : Type 0 where
  pub told : Told now (Absent at now.seen)
  pub looks : now.looks ≡ before.looks
  pub own : now.own ≡ before.own
  pub starts : now.starts ≡ before.starts
  pub follows : (c : Claim) (is : List TraceItem) → before.follows c is → now.follows c (is ++ Absent at now.seen ∷ [])

-- a world that a definition or a deletion made: the newest one of the events that the task has then seen
pub record IsMade (now : Knows) (w : ℕ) : Type 0 where
  pub right : (es : List Event) → now.agrees es → world_of (take now.seen es) ≡ w
  pub world : IsWorld w now.world

-- the task knows that the world is the last one: in each list that agrees, it is that of the events that the task has seen
abbrev pub IsFull : Knows → Type 0
IsFull now = (es : List Event) → now.agrees es → IsTrueOf now.program es now.task (WorldFull now.seen)

-- the world is the last one
pub record WorldsFull (before now : Knows) : Type 0 where
  pub told : Told now (WorldFull now.seen)
  pub looks : now.looks ≡ before.looks
  pub own : now.own ≡ before.own
  pub starts : now.starts ≡ before.starts
  pub follows : (c : Claim) (is : List TraceItem) → before.follows c is → now.follows c (is ++ WorldFull now.seen ∷ [])

-- a task with this number and this start, whose spawn is then seen
pub record Spawned (before now : Knows) (child : ℕ) (start : Start) : Type 0 where
  pub told : Told now (Spawn child (now.seen - 1))
  pub place : before.seen < now.seen
  pub looks : now.looks ≡ before.looks
  pub own : now.own ≡ before.own ++ Spawn child (now.seen - 1) ∷ []
  pub starts : now.starts ≡ before.starts ++ start ∷ []
  pub follows : (c : Claim) (is : List TraceItem) → before.follows c is → now.follows c (is ++ Spawn child (now.seen - 1) ∷ [])

-- the task knows that there is no room for a task: in each list that agrees, among the events that the task has seen
abbrev pub AreTasksFull : Knows → Type 0
AreTasksFull now = (es : List Event) → now.agrees es → IsTrueOf now.program es now.task (TaskFull now.seen)

-- there is no room for a task
pub record TasksFull (before now : Knows) : Type 0 where
  pub told : Told now (TaskFull now.seen)
  pub looks : now.looks ≡ before.looks
  pub own : now.own ≡ before.own
  pub starts : now.starts ≡ before.starts
  pub follows : (c : Claim) (is : List TraceItem) → before.follows c is → now.follows c (is ++ TaskFull now.seen ∷ [])

-- a task has ended with this outcome, among the events that were then seen
pub record Fetched (before now : Knows) (task : ℕ) (outcome : Outcome) : Type 0 where
  pub told : Told now (Fetch task outcome now.seen)
  pub looks : now.looks ≡ before.looks
  pub own : now.own ≡ before.own
  pub starts : now.starts ≡ before.starts
  pub follows : (c : Claim) (is : List TraceItem) → before.follows c is → now.follows c (is ++ Fetch task outcome now.seen ∷ [])

-- the task has not ended among the events that were then seen
abbrev pub IsNotDone : Knows → ℕ → Type 0
IsNotDone now task = (es : List Event) → now.agrees es → done_of task (take now.seen es) ≡ None
