-- How far a task comes that is led along a trace.
use Rattle.std.specs.Prelude.{◌≡◌, ℕ, Bool, true, false, IsTrue, List, [], ◌∷◌, ◌++◌, drop, length, Option, None, Some, ◌↔◌}
use Rattle.jl_program.specs.declared.tree.Program.{Program}
use Rattle.jl_program.specs.declared.tree.Start.{Start}
use Rattle.jl_calculus.specs.declared.history.Event.{Event}
use Rattle.jl_calculus.specs.declared.history.Event.TheVariants as Ev
use Rattle.jl_calculus.specs.declared.history.Outcome.{Outcome}
use Rattle.jl_calculus.specs.declared.history.Record.{Record}
use Rattle.jl_calculus.specs.declared.history.TraceItem.{TraceItem}
use Rattle.jl_calculus.specs.declared.history.TraceItem.TheVariants.{Def, Del, Spawn}
use Rattle.jl_calculus.specs.Legal.{start_of}
use Rattle.jl_calculus.specs.Past.{own_items, own_events, own_starts, tasks_of}
use Rattle.jl_calculus.specs.Run.{Question, a_definition, a_deletion, a_spawn, setting_of, Run, Comes}
use Rattle.jl_task.specs.Questions.{IsAnswerTo}
use Rattle.jl_task.specs.Asks.{Asks, StartsJoin}
use Rattle.jl_machine.specs.declared.task.Machine.{Machine}
use Rattle.jl_machine.specs.Steps.{MachineFits, IsLost, IsEnded, job_with, fuel_of, trace_of}
use Rattle.jl_lead.specs.declared.led.Led.{Led}
use Rattle.jl_lead.specs.Items.{is_absence, Begins}
use Rattle.jl_lead.specs.Leads.{GoesOn, HasMade}
use Rattle.jl_lead.specs.Led.{knows_of}

-- ---- what is promised of runs

-- a run of this trace comes to a question, over a list of events
abbrev pub ComesTo : Program → List Event → ℕ → List Event → ℕ → List TraceItem → Question → Type 0
ComesTo P es task xs fuel trace q = Comes P xs None fuel (start_of task es) trace q

-- over every list that begins with the known events, the run that a trace leads comes to a definition of this site exactly where that is told
abbrev pub TellsDefinition : Program → List Event → ℕ → ℕ → List TraceItem → ℕ → Bool → Type 0
TellsDefinition P es task fuel trace site answer = (xs : List Event) → GoesOn es xs → IsTrue answer ↔ ComesTo P es task xs fuel trace (a_definition site)

-- to the deletion at this place
abbrev pub TellsDeletion : Program → List Event → ℕ → ℕ → List TraceItem → ℕ → Bool → Type 0
TellsDeletion P es task fuel trace place answer = (xs : List Event) → GoesOn es xs → IsTrue answer ↔ ComesTo P es task xs fuel trace (a_deletion place)

-- and to a spawn at this place
abbrev pub TellsSpawn : Program → List Event → ℕ → ℕ → List TraceItem → ℕ → Bool → Type 0
TellsSpawn P es task fuel trace place answer =
    (xs : List Event) → GoesOn es xs → IsTrue answer ↔ ((start : Start) × (start.spawn ≡ place) × ComesTo P es task xs fuel trace (a_spawn start))

-- a record of this trace, and what it spawned, is a run
abbrev pub RunsSo : Program → List Event → ℕ → List Event → ℕ → List TraceItem → Outcome → List ℕ → ℕ → List Start → Type 0
RunsSo P es task xs fuel trace o out made starts = Run (setting_of P xs None fuel) (start_of task es) trace o out made starts

-- no record of this trace is a run, over any list that begins with the known events
abbrev pub IsNoRun : Program → List Event → ℕ → ℕ → List TraceItem → Type 0
IsNoRun P es task fuel trace = (xs : List Event) → GoesOn es xs → (o : Outcome) (out : List ℕ) (made : ℕ) (starts : List Start) → RunsSo P es task xs fuel trace o out made starts → ⊥

-- over each of them this record is the one of its trace that is a run, with the starts of the known events
pub record IsTheRun (P : Program) (es : List Event) (task fuel : ℕ) (trace : List TraceItem) (r : Record) : Type 0 where
  pub trace_is : r.trace ≡ trace
  pub exactly : (xs : List Event) → GoesOn es xs → (o : Outcome) (out : List ℕ) (made : ℕ) (starts : List Start)
      → RunsSo P es task xs fuel trace o out made starts ↔ ((o ≡ r.outcome) × (out ≡ r.output) × (made ≡ r.calls) × (starts ≡ own_starts task es))

-- ---- where a task stands

-- what stands next for a task that is led
abbrev pub left_of : Led → List TraceItem
left_of d = drop d.told d.items.items

-- the trace that it is led along, from its beginning
abbrev pub whole_trace : Machine → Led → List TraceItem
whole_trace m d = trace_of m ++ left_of d

-- a task on its way: what it is stays
pub record Stays (P : Program) (m0 : Machine) (d0 : Led) (m : Machine) (d : Led) : Type 0 where
  pub fits : MachineFits P (fuel_of m) (knows_of d) m
  pub going : IsLost m → ⊥
  pub fuel : fuel_of m ≡ fuel_of m0
  pub task : d.task ≡ d0.task
  pub program : d.past.0 ≡ P

-- a task that has followed its trace to here
pub record IsThere (P : Program) (m0 : Machine) (d0 : Led) (m : Machine) (d : Led) : Type 0 where
  pub stays : Stays P m0 d0 m d
  pub here : d.alone ≡ false
  pub events : d.past.1 ≡ d0.past.1
  pub followed : whole_trace m d ≡ whole_trace m0 d0

-- a task that goes on alone from where it asked this
pub record IsAway (P : Program) (m0 : Machine) (d0 : Led) (m : Machine) (d : Led) : Type 0 where
  pub stays : Stays P m0 d0 m d
  pub before : List TraceItem
  pub item : TraceItem
  pub question : Question
  pub trace : trace_of m ≡ before ++ item ∷ []
  pub followed : before ++ left_of d ≡ whole_trace m0 d0
  pub answers : IsAnswerTo question item
  pub apart : Begins item (left_of d) → ⊥
  pub told : is_absence (Some item) ≡ false
  pub own_before : own_items before ≡ own_events d0.task 0 d0.past.1
  pub joins : StartsJoin question item (own_starts d0.task d0.past.1) (own_starts d.task d.past.1)
  pub asks : Asks (job_with P (fuel_of m0) (knows_of d0)) (knows_of d0) before question
  pub made : HasMade true d0.task d0.past.1 d.past.1

-- it has ended on its trace, or goes on alone
abbrev pub HasCome : Program → Machine → Led → Bool → Machine → Led → Type 0
HasCome P m0 d0 true m d = IsThere P m0 d0 m d × IsEnded m
HasCome P m0 d0 false m d = IsAway P m0 d0 m d

-- ---- what is left behind

-- the definition that it came to has been made
pub record HasDefined (P : Program) (m0 : Machine) (d0 : Led) (site : ℕ) (m : Machine) (d : Led) : Type 0 where
  pub stays : Stays P m0 d0 m d
  pub events : d.past.1 ≡ d0.past.1 ++ Ev.Def d0.task site ∷ []
  pub trace : trace_of m ≡ whole_trace m0 d0 ++ Def site (length d0.past.1) ∷ []

-- the deletion that it came to has been made
pub record HasDeleted (P : Program) (m0 : Machine) (d0 : Led) (place : ℕ) (m : Machine) (d : Led) : Type 0 where
  pub stays : Stays P m0 d0 m d
  pub events : d.past.1 ≡ d0.past.1 ++ Ev.Del d0.task place ∷ []
  pub trace : trace_of m ≡ whole_trace m0 d0 ++ Del place (length d0.past.1) ∷ []

-- the task that it came to spawn has been started, from the start that each run has there
pub record HasSpawned (P : Program) (m0 : Machine) (d0 : Led) (place : ℕ) (m : Machine) (d : Led) : Type 0 where
  pub stays : Stays P m0 d0 m d
  pub start : Start
  pub events : d.past.1 ≡ d0.past.1 ++ Ev.Spawn d0.task (tasks_of d0.past.1) start ∷ []
  pub trace : trace_of m ≡ whole_trace m0 d0 ++ Spawn (tasks_of d0.past.1) (length d0.past.1) ∷ []
  pub at : start.spawn ≡ place
  pub only : (xs : List Event) → GoesOn d0.past.1 xs → (s : Start) → ComesTo P d0.past.1 d0.task xs (fuel_of m0) (whole_trace m0 d0) (a_spawn s) → s ≡ start

-- ---- events at a place

-- an event is a definition of this site
abbrev pub IsDefAt : ℕ → Option Event → Type 0
IsDefAt site (Some (Ev.Def task made)) = made ≡ site
IsDefAt site _ = ⊥

-- an event is the deletion at this place of the program
abbrev pub IsDelAt : ℕ → Option Event → Type 0
IsDelAt place (Some (Ev.Del task made)) = made ≡ place
IsDelAt place _ = ⊥

-- an event is a spawn at this place of the program
abbrev pub IsSpawnAt : ℕ → Option Event → Type 0
IsSpawnAt place (Some (Ev.Spawn task child start)) = start.spawn ≡ place
IsSpawnAt place _ = ⊥
