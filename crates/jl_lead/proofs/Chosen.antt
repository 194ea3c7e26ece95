-- The choice that a task is told is right.
use Rattle.std.proofs.Common.{ℕ, ◌≤◌, Bool, List, Result, Ok, Err, IfOk}
use Rattle.jl_model.specs.declared.ty.Ty.{Ty}
use Rattle.jl_program.specs.declared.choice.Choice.{Choice}
use Rattle.jl_program.specs.declared.choice.Choice.TheVariants as C
use Rattle.jl_program.specs.declared.tree.Program.{Program}
use Rattle.jl_calculus.specs.declared.history.Event.{Event}
use Rattle.jl_calculus.specs.declared.history.TraceItem.{TraceItem}
use Rattle.jl_calculus.specs.World.{Selects, world_of}
use Rattle.jl_calculus.proofs.BetweenLemmas.{of_world}
use Rattle.jl_task.specs.Knows.{IsOfWorld, IsRight}
use Rattle.jl_lead.specs.Leads.{led_knows}
use Rattle.jl_lead.proofs.Answering.{right}

-- what is chosen is a definition of the world
chosen_of_world : (P : Program) (es : List Event) (f w : ℕ) (ts : List Ty) (c : Choice) → Selects P es f ts w c → IsOfWorld c w
chosen_of_world P es f w ts C.None s = tt
chosen_of_world P es f w ts (C.Ambiguous a b) s = tt
chosen_of_world P es f w ts (C.Method d) s = of_world P es f ts w d s

pub right_ok : {E : Type 0} (P : Program) (es : List Event) (task : ℕ) (items : List TraceItem) (told seen looks : ℕ) (alone : Bool) (f w : ℕ) (ts : List Ty) → w ≤ world_of es → (r : Result Choice E)
    → IfOk r (λ c. Selects P es f ts w c) → IfOk r (λ c. IsRight (led_knows P es task items told seen looks alone) f ts w c)
right_ok P es task items told seen looks alone f w ts le (Ok c) h = right P es task items told seen looks alone f w ts c le (chosen_of_world P es f w ts c h) h
right_ok P es task items told seen looks alone f w ts le (Err e) h = tt
