-- A machine that works for a task, and what it leaves at its end.
use Rattle.std.specs.Prelude.{◌≡◌, ◌<◌, ℕ, Option, None, Some, length}
use Rattle.jl_program.specs.declared.tree.Program.{Program}
use Rattle.jl_program.specs.declared.tree.Start.{Start}
use Rattle.jl_world.specs.declared.about.About.{About}
use Rattle.jl_machine.specs.declared.task.Machine.{Machine}
use Rattle.jl_machine.specs.Steps.{MachineFits, fuel_of, IsEnded, IsNewRoot, IsNewTask}
use Rattle.jl_calculus.specs.Kept.{Places}
use Rattle.jl_queue.specs.declared.setup.Setup.{Setup}
use Rattle.jl_runner.specs.declared.known.Knowing.{Knowing}
use Rattle.jl_runner.specs.declared.turns.Rest.{Rest}
use Rattle.jl_runner.specs.declared.turns.Rest.TheVariants.{Ended, Waits, Spawned}
use Rattle.jl_runner.specs.Knowing.{knows_of}

-- it fits what is known, with the fuel of the run
pub record WorksFor (about : About) (m : Machine) (k : Knowing) : Type 0 where
  pub fits : MachineFits about.program.value about.fuel (knows_of about k) m
  pub fuel : fuel_of m ≡ about.fuel

-- a machine that has done nothing yet, for the root or for a task with this start
abbrev pub IsNewFor : Program → Option Start → ℕ → Machine → Type 0
IsNewFor P None fuel m = IsNewRoot P fuel m
IsNewFor P (Some start) fuel m = IsNewTask P start fuel m

-- the place of a start is one of the program; the root needs none
abbrev pub IsPlaceOf : Program → Option Start → Type 0
IsPlaceOf P None = Unit {0}
IsPlaceOf P (Some start) = start.spawn < length P.spawns

-- a machine whose task waits or has spawned another one goes on later
abbrev pub IsAtEnd : Rest → Machine → Type 0
IsAtEnd Ended m = IsEnded m
IsAtEnd (Waits task) m = Unit {0}
IsAtEnd Spawned m = Unit {0}

-- the places that a setup gives
abbrev pub places_with : Setup → Places
places_with s = record { keys = s.keys; rows = s.rows }
