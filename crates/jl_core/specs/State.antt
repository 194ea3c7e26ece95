-- The state of the model as contracts see it: with the program and with the places that there are for keys and rows.
use Rattle.std.specs.Prelude.{ℕ, ◌≡◌}
use Rattle.jl_program.specs.declared.tree.Program.{Program}
use Rattle.jl_calculus.specs.declared.step.Step.{Step}
use Rattle.jl_calculus.specs.Core.{Core, first_core, IsEnabled, Leaves}
use Rattle.jl_calculus.specs.Kept.{Places}

pub record State : Type 0 where
  pub program : Program
  pub room : Places
  pub core : Core

-- at the start
abbrev pub first_state : Program → ℕ → ℕ → ℕ → State
first_state P fuel keys rows = record { program = P; room = record { keys = keys; rows = rows }; core = first_core fuel }

-- a step is enabled
abbrev pub MayMake : State → Step → Type 0
MayMake s step = IsEnabled s.program s.room s.core step

-- a step leaves another state, of the same program and with the same places
pub record Makes (s : State) (step : Step) (t : State) : Type 0 where
  pub same_program : t.program ≡ s.program
  pub same_room : t.room ≡ s.room
  pub leaves : Leaves s.program s.core t.core step
