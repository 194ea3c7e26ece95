-- The program `Threads.@spawn nothing`, what its two tasks do, and its history.
use Rattle.std.specs.Prelude.{ℕ, ◌≡◌, List, [], ◌∷◌, Some, None}
use Rattle.jl_program.specs.Prelude.{prelude_count, prelude_sites}
use Rattle.jl_program.specs.declared.tree.Expr.TheVariants as E
use Rattle.jl_program.specs.declared.tree.Item.TheVariants as I
use Rattle.jl_program.specs.declared.tree.Program.{Program}
use Rattle.jl_program.specs.declared.value.Value.TheVariants as V
use Rattle.jl_calculus.specs.declared.history.Event.{Event}
use Rattle.jl_calculus.specs.declared.history.Event.TheVariants as Ev
use Rattle.jl_calculus.specs.declared.history.Outcome.TheVariants as O
use Rattle.jl_calculus.specs.declared.history.Record.{Record}
use Rattle.jl_calculus.specs.declared.history.TraceItem.TheVariants.{Look, Spawn}
use Rattle.jl_world.specs.declared.view.TaskView.{TaskView}
use Rattle.store_tests.specs.Starts.{first_start}

pub record IsChild (P : Program) : Type 0 where
  pub sites : P.sites ≡ prelude_sites
  pub top : P.top ≡ I.Do (E.Spawn 0) ∷ []
  pub spawns : P.spawns ≡ E.Nothing ∷ []

-- the task does nothing
abbrev pub child_end : Record
child_end = record { trace = []; outcome = O.Value V.Nothing; output = []; calls = 0 }

-- the root looks and spawns the task, which is its value
abbrev pub root_end : Record
root_end = record { trace = Look prelude_count 1 ∷ Spawn 1 1 ∷ []; outcome = O.Value (V.Task 1); output = []; calls = 0 }

-- the events up to the spawn, and up to the end of the task
abbrev pub spawned : ℕ → List Event
spawned fuel = Ev.Begin fuel ∷ Ev.Spawn 0 1 first_start ∷ []

abbrev pub half_done : ℕ → List Event
half_done fuel = Ev.Begin fuel ∷ Ev.Spawn 0 1 first_start ∷ Ev.Done 1 child_end ∷ []

-- what the root's pass knows once it spawned the task, where it has seen these events
abbrev pub root_view : ℕ → List Event → TaskView
root_view fuel es = record { task = Some 0; start = None; fuel = fuel; seen = es; own = Spawn 1 1 ∷ []; starts = first_start ∷ []; looks = 1 }
