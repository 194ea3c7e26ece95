-- A machine that waits while others go on.
use Rattle.std.specs.Prelude.{◌≡◌, ℕ, ◌≤◌, Bool, List, [], ◌++◌, None}
use Rattle.jl_program.specs.declared.tree.Program.{Program}
use Rattle.jl_calculus.specs.declared.history.Event.{Event}
use Rattle.jl_calculus.specs.declared.history.TraceItem.{TraceItem}
use Rattle.jl_calculus.specs.Legal.{start_of, first_place}
use Rattle.jl_calculus.specs.Past.{own_events, own_starts}
use Rattle.jl_machine.specs.declared.task.Machine.{Machine}
use Rattle.jl_machine.specs.Steps.{MachineFits}
use Rattle.jl_lead.specs.Leads.{led_knows}

-- events that a task neither made nor starts with
pub record AreOthers (task : ℕ) (es : List Event) : Type 0 where
  pub own : (place : ℕ) → own_events task place es ≡ []
  pub starts : own_starts task es ≡ []
  pub start : start_of task es ≡ None
  pub first : (place : ℕ) → first_place task place es ≡ 1

-- a machine goes on to fit where others made events, and its task is then led along other items, having seen no less
abbrev pub MachineStays : Type 0
MachineStays =
    (P : Program) (fuel : ℕ) (m : Machine) (es others : List Event) (task : ℕ) (items items2 : List TraceItem) (told told2 seen seen2 looks : ℕ) (alone alone2 : Bool) → AreOthers task others → seen ≤ seen2
    → MachineFits P fuel (led_knows P es task items told seen looks alone) m → MachineFits P fuel (led_knows P (es ++ others) task items2 told2 seen2 looks alone2) m
