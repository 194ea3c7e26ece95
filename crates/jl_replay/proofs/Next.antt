-- What the entries tell that a task does next.
use Rattle.std.specs.Prelude.{ℕ, ◌≡◌, ◌+◌, List, ◌∷◌, ◌++◌, drop, take, length}
use Rattle.jl_program.specs.declared.tree.Program.{Program}
use Rattle.jl_calculus.specs.declared.history.Event.{Event}
use Rattle.jl_calculus.specs.Past.{IsInOrder}
use Rattle.jl_report.specs.declared.entry.Entry.{Entry}
use Rattle.jl_report.specs.declared.entry.Step.{Step}
use Rattle.jl_causes.specs.Sketch.{items_of}
use Rattle.jl_replay.specs.declared.running.Running.{Running}
use Rattle.jl_replay.specs.Told.{trace_told, end_told, steps_before, stretch}
use Rattle.jl_replay.specs.Moves.{MayGoOn}

-- a task may go on, and what it is told to do next that others see is this definition, deletion or spawn, which the next entry tells
pub record IsNextStep (P : Program) (all : List Entry) (es : List Event) (task : ℕ) (r : Running) (step : Step) : Type 0 where
  pub going : MayGoOn P es task (trace_told task all) r
  pub more : List Step
  pub rest : drop r.told (trace_told task all) ≡ stretch (drop r.told (trace_told task all)) ++ step ∷ more
  pub before : steps_before (length es) (trace_told task all) ≡ take r.told (trace_told task all) ++ stretch (drop r.told (trace_told task all))
  pub after : IsInOrder (length es + 1) (items_of more) (end_told task 0 all)

-- a task may go on, and is told to do nothing more that others see
pub record IsLastStep (P : Program) (all : List Entry) (es : List Event) (task : ℕ) (r : Running) (trace : List Step) : Type 0 where
  pub going : MayGoOn P es task (trace_told task all) r
  pub told : trace_told task all ≡ trace
  pub whole : trace_told task all ≡ take r.told (trace_told task all) ++ stretch (drop r.told (trace_told task all))
