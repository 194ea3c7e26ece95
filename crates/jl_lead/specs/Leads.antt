-- What a dispatcher means that leads a task along a trace.
use Rattle.std.specs.Prelude.{◌≡◌, ℕ, ◌<◌, ◌≤◌, Bool, true, false, List, [], ◌∷◌, ◌++◌, drop, length, None}
use Rattle.std.proofs.Common.{refl}
use Rattle.jl_program.specs.declared.tree.Program.{Program}
use Rattle.jl_calculus.specs.declared.history.Event.{Event}
use Rattle.jl_calculus.specs.declared.history.Event.TheVariants as Ev
use Rattle.jl_calculus.specs.declared.history.TraceItem.{TraceItem}
use Rattle.jl_calculus.specs.Legal.{start_of, first_place}
use Rattle.jl_calculus.specs.Past.{IsTrueOf, own_events, own_starts, tasks_of}
use Rattle.jl_calculus.specs.World.{site_of, world_of}
use Rattle.jl_task.specs.Knows.{Knows}
use Rattle.jl_lead.specs.Items.{Departs}

-- a list of events that begins with these
abbrev pub GoesOn : List Event → List Event → Type 0
GoesOn es xs = (more : List Event) × (xs ≡ es ++ more)

-- an event that a task makes after these, or the end of another one
abbrev pub IsMadeBy : ℕ → List Event → Event → Type 0
IsMadeBy task es (Ev.Def by site) = by ≡ task
IsMadeBy task es (Ev.Spawn by child start) = (by ≡ task) × (child ≡ tasks_of es)
IsMadeBy task es (Ev.Done by ended) = Unit {0}
IsMadeBy task es (Ev.Del by place) = by ≡ task
IsMadeBy task es (Ev.Begin fuel) = ⊥
IsMadeBy task es (Ev.Key key) = ⊥
IsMadeBy task es (Ev.Fill key site first) = ⊥

-- what a task makes that goes on alone: one such event, or nothing
abbrev pub AreMadeBy : ℕ → List Event → List Event → Type 0
AreMadeBy task es [] = Unit {0}
AreMadeBy task es (e ∷ []) = IsMadeBy task es e
AreMadeBy task es (e ∷ f ∷ more) = ⊥

-- the events are those of before, and what the task has made since
abbrev pub HasMade : Bool → ℕ → List Event → List Event → Type 0
HasMade true task base es = (made : List Event) × AreMadeBy task base made × (es ≡ base ++ made)
HasMade false task base es = es ≡ base

-- how far the whole trace has been followed: what is left stands next, or the task has departed before it
abbrev pub IsOn : Bool → List TraceItem → List TraceItem → List TraceItem → Type 0
IsOn true left whole trace = Departs left whole trace
IsOn false left whole trace = trace ++ left ≡ whole

-- what it knows: the events so far; every list that begins with them agrees
abbrev pub led_knows : Program → List Event → ℕ → List TraceItem → ℕ → ℕ → ℕ → Bool → Knows
led_knows P es task items told seen looks alone = record {
  program = P;
  task = task;
  start = start_of task es;
  first = first_place task 0 es;
  world = world_of es;
  seen = seen;
  agrees = GoesOn es;
  events = es ++ [];
  agreed = ([], refl);
  learnt = λ i. (xs : List Event) → GoesOn es xs → IsTrueOf P xs task i;
  own = own_events task 0 es;
  starts = own_starts task es;
  looks = looks;
  places = None;
  site = site_of es;
  follows = λ c trace. (task ≡ c.task) × HasMade alone task c.events es × IsOn alone (drop told items) c.trace trace;
}

-- a task that was started, and has seen so many of the events
pub record IsPlaced (es : List Event) (task seen : ℕ) : Type 0 where
  pub started : task < tasks_of es
  pub seen_some : seen ≤ length es
