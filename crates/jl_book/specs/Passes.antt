-- What the pass of a task knows, and when what the task did is a run over it.
use Rattle.std.specs.Prelude.{ℕ, ◌≡◌, ◌⊎◌, cond, nat_eq, List, length, Option, None, Some}
use Rattle.jl_program.specs.declared.tree.Start.{Start}
use Rattle.jl_program.specs.Valid.{IsValid}
use Rattle.jl_calculus.specs.declared.history.Event.{Event}
use Rattle.jl_calculus.specs.declared.history.Record.{Record}
use Rattle.jl_calculus.specs.Legal.{fuel_of, start_of, first_place, AreTrueOf}
use Rattle.jl_calculus.specs.Past.{IsInOrder, own_items}
use Rattle.jl_calculus.specs.Run.{setting_of, Run}
use Rattle.jl_calculus.specs.ValidHistory.{IsValidOutcome}
use Rattle.jl_task.specs.Fits.{looks_of}
use Rattle.jl_rows.specs.Plans.{places_of}
use Rattle.jl_world.specs.declared.about.About.{About}
use Rattle.jl_world.specs.declared.view.TaskView.{TaskView}
use Rattle.jl_world.specs.Views.{Begins, number_or_zero}
use Rattle.jl_book.specs.Tasks.{share_of}

-- the task of a view
abbrev pub task_in : TaskView → ℕ
task_in v = number_or_zero v.task

-- the least place of an item of a task's trace: past its Spawn, and 1 for the root
abbrev pub first_of : ℕ → List Event → ℕ
first_of t es = cond (nat_eq t 0) 1 (first_place t 0 es)

-- a task that is not the root has its Spawn with this start among the events
pub record IsSpawned (es : List Event) (t : ℕ) (start : Option Start) : Type 0 where
  pub child : t ≡ 0 → ⊥
  pub from : Start
  pub is : start ≡ Some from
  pub stands : start_of t es ≡ Some from

-- the task is the root, or it was spawned among these events with this start
abbrev pub HasStarted : List Event → ℕ → Option Start → Type 0
HasStarted es t start = ((t ≡ 0) × (start ≡ None)) ⊎ IsSpawned es t start

-- the view of a pass of a run of a valid program: it has this task, which started among what it has seen, and the fuel of the run
pub record IsPass (about : About) (t : ℕ) (v : TaskView) : Type 0 where
  pub valid : IsValid about.program.value
  pub task : v.task ≡ Some t
  pub fuel : v.fuel ≡ about.fuel
  pub begun : fuel_of v.seen ≡ Some about.fuel
  pub started : HasStarted v.seen t v.start

-- what the task of a pass did is a run over what the pass has seen: its outcome is valid, its items are true of that and in order, it
-- has the pass's looks, definitions, deletions and spawns, and over every history that begins so it is a run from the pass's start, with
-- its fuel, in which each call is kept for the places of the run
pub record IsRunOver (about : About) (v : TaskView) (r : Record) : Type 0 where
  pub outcome : IsValidOutcome about.program.value r.outcome
  pub learnt : AreTrueOf about.program.value v.seen (task_in v) r.trace
  pub order : IsInOrder (first_of (task_in v) v.seen) r.trace (length v.seen)
  pub own : own_items r.trace ≡ v.own
  pub looks : looks_of r.trace ≡ v.looks
  pub runs : (es : List Event) → Begins v.seen es
      → Run (setting_of about.program.value es (Some (places_of about)) v.fuel) v.start r.trace r.outcome r.output r.calls v.starts

-- a pass has as many definitions, deletions and spawns as its task has among the events
abbrev pub HasShare : List Event → TaskView → Type 0
HasShare es v = length v.own ≡ share_of es (task_in v)
