-- When a task's run so far fits its dispatcher, and what a step leaves.
use Rattle.std.specs.Prelude.{◌≡◌, ◌↔◌, ℕ, ◌+◌, ◌<◌, ◌≤◌, List, [], ◌∷◌, ◌++◌}
use Rattle.jl_program.specs.declared.tree.Start.{Start}
use Rattle.jl_program.specs.declared.prelude.TheConstants.{FIRST_WORLD}
use Rattle.jl_program.specs.Valid.{IsValid}
use Rattle.jl_calculus.specs.declared.history.Event.{Event}
use Rattle.jl_calculus.specs.declared.history.Outcome.{Outcome}
use Rattle.jl_calculus.specs.declared.history.Outcome.TheVariants as O
use Rattle.jl_program.specs.declared.fault.Fault.TheVariants.{TaskFailed}
use Rattle.jl_calculus.specs.declared.history.Record.{Record}
use Rattle.jl_calculus.specs.declared.history.TraceItem.{TraceItem}
use Rattle.jl_calculus.specs.declared.history.TraceItem.TheVariants.{Look, Def, Del, Spawn, Fetch, WorldFull, TaskFull, Absent}
use Rattle.jl_calculus.specs.Past.{IsInOrder, own_items}
use Rattle.jl_calculus.specs.Run.{setting_of, Run}
use Rattle.jl_task.specs.declared.point.Work.{Work}
use Rattle.jl_task.specs.declared.point.Now.{Now}
use Rattle.jl_task.specs.ValidPoint.{IsGoodPoint}
use Rattle.jl_task.specs.Weight.{turns_left}
use Rattle.jl_task.specs.Worlds.{IsWithin}
use Rattle.jl_task.specs.Knows.{Knows, Looked}
use Rattle.jl_task.specs.Known.{IsKnown, AreFetchesKnown, AreStartsKnown, KnowsItsTasks, PointMentions}
use Rattle.jl_task.specs.Asks.{Job, Over, Ending, RunsTo, FinishesTo, Tells, Follows}

-- how many looks a trace has
abbrev pub looks_of : List TraceItem → ℕ
looks_of [] = 0
looks_of (Look w p ∷ is) = looks_of is + 1
looks_of (Def site p ∷ is) = looks_of is
looks_of (Spawn child p ∷ is) = looks_of is
looks_of (Fetch task o p ∷ is) = looks_of is
looks_of (WorldFull p ∷ is) = looks_of is
looks_of (TaskFull p ∷ is) = looks_of is
looks_of (Del at_place p ∷ is) = looks_of is
looks_of (Absent at_place p ∷ is) = looks_of is

abbrev pub AllLearnt : Knows → List TraceItem → Type 0
AllLearnt k [] = Unit {0}
AllLearnt k (i ∷ is) = k.learnt i × AllLearnt k is

-- a task as far as it has come, but for what comes next: its fuel, its trace, its calls, and what its own turns change
pub record Progress : Type 0 where
  pub fuel : ℕ
  pub trace : List TraceItem
  pub calls : ℕ
  pub now : Now

-- A task that has this to do next, and has come so far in this job. What it did and a rest are a run exactly where the rules finish from
-- here with that rest; its items are learnt and in order, and its looks, definitions, deletions and spawns are those of the dispatcher.
pub record FitsWith (j : Job) (k : Knows) (w : Work) (t : Progress) : Type 0 where
  pub program : k.program ≡ j.program
  pub start : k.start ≡ j.start
  pub places : k.places ≡ j.places
  pub fuel_is : t.fuel ≡ j.fuel
  pub valid : IsValid j.program
  pub runs : (x : Over) → k.agrees x.events → (rest : List TraceItem) (e : Ending) → RunsTo j x (t.trace ++ rest) e ↔ FinishesTo j x (w, t.now) t.calls k.starts rest e
  pub learnt : AllLearnt k t.trace
  pub order : IsInOrder k.first t.trace k.seen
  pub looks : looks_of t.trace ≡ k.looks
  pub own : own_items t.trace ≡ k.own
  pub worlds : IsWithin k.world (w, t.now)
  pub good : IsGoodPoint j.program valid.views (w, t.now)

-- A task that has this to do next knows each task that it fetched, that the starts of its spawns mention, and that any of its values mentions.
pub record IsKnowing (k : Knows) (w : Work) (t : Progress) : Type 0 where
  pub fetches : AreFetchesKnown k.start t.trace
  pub spawns : AreStartsKnown k.start t.trace k.starts
  pub point : PointMentions (IsKnown k.start t.trace) (w, t.now)

-- the job of the task that asks this dispatcher
abbrev pub job_of : Knows → ℕ → Job
job_of k fuel = record { program = k.program; start = k.start; places = k.places; fuel = fuel }

-- it fits its dispatcher
abbrev pub Fitting : Knows → Work → Progress → Type 0
Fitting k w t = FitsWith (job_of k t.fuel) k w t

-- from one point to another: it fits again, for the same job, fewer turns are left, and an item that the trace gets answers what the task
-- asked
pub record Steps (k : Knows) (w : Work) (t : Progress) (k' : Knows) (w' : Work) (t' : Progress) : Type 0 where
  pub fits : FitsWith (job_of k t.fuel) k' w' t'
  pub lighter : turns_left k.program t.fuel t'.calls w' t'.now < turns_left k.program t.fuel t.calls w t.now
  pub tells : Tells (job_of k t.fuel) k t.trace k' t'.trace
  pub follows : Follows k t.trace k' t'.trace

-- a task that waits for another: it is as it was, and fits again
pub record Waits (k : Knows) (w : Work) (t : Progress) (k' : Knows) : Type 0 where
  pub fits : FitsWith (job_of k t.fuel) k' w t
  pub follows : Follows k t.trace k' t.trace

-- the value of a task goes on, and the task that fetches one that failed fails
abbrev pub fetched_outcome : ℕ → Outcome → Outcome
fetched_outcome of (O.Value v) = O.Value v
fetched_outcome of (O.Error fault) = O.Error (TaskFailed of)

-- a look, which stands in the trace
pub record HasLooked (before now : Knows) (w : ℕ) (t t' : Progress) : Type 0 where
  pub place : ℕ
  pub looked : Looked before now w place
  pub task : t' ≡ record t { trace = t.trace ++ Look w place ∷ [] }

-- a dispatcher that has done nothing for its task yet
pub record IsFresh (k : Knows) : Type 0 where
  pub own : k.own ≡ []
  pub starts : k.starts ≡ []
  pub looks : k.looks ≡ 0
  pub world : FIRST_WORLD ≤ k.world
  pub begun : k.first ≤ k.seen

-- what a task did is a run, over every list of events that agrees, and the only one that has its trace and more; its items are learnt
-- and in order, its looks and its own definitions, deletions and spawns are those of the dispatcher, and it fetched and mentions only tasks
-- that it knows
pub record IsRunOf (j : Job) (k : Knows) (r : Record) : Type 0 where
  pub program : k.program ≡ j.program
  pub start : k.start ≡ j.start
  pub places : k.places ≡ j.places
  pub runs : (es : List Event) → k.agrees es → Run (setting_of j.program es j.places j.fuel) j.start r.trace r.outcome r.output r.calls k.starts
  pub only : (es : List Event) → k.agrees es → (rest : List TraceItem) (outcome : Outcome) (output : List ℕ) (made : ℕ) (starts : List Start)
      → Run (setting_of j.program es j.places j.fuel) j.start (r.trace ++ rest) outcome output made starts
      → (rest ≡ []) × (outcome ≡ r.outcome) × (output ≡ r.output) × (made ≡ r.calls) × (starts ≡ k.starts)
  pub learnt : AllLearnt k r.trace
  pub order : IsInOrder k.first r.trace k.seen
  pub looks : looks_of r.trace ≡ k.looks
  pub own : own_items r.trace ≡ k.own
  pub tasks : KnowsItsTasks k.start r.trace k.starts r.outcome
