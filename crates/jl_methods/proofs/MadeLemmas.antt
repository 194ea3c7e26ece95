-- A change that may be made is of the program.
use Rattle.std.proofs.Common.{ℕ, zero, suc, ◌<◌, arith, List, [], ◌∷◌, length, slice_get}
use Rattle.jl_program.specs.declared.tree.Delete.{Delete}
use Rattle.jl_program.specs.declared.tree.Program.{Program}
use Rattle.jl_calculus.specs.declared.history.Change.{Change}
use Rattle.jl_calculus.specs.declared.history.Change.TheVariants as Ch
use Rattle.jl_calculus.specs.declared.history.Event.{Event}
use Rattle.jl_calculus.specs.Legal.{MayBeMade}
use Rattle.jl_calculus.specs.World.{world_of, HasMethodAt}
use Rattle.jl_methods.specs.Filters.{IsOfProgram}

-- where a method is found a place is there
place_known : (P : Program) (es : List Event) (w : ℕ) (places : List Delete) (n : ℕ) → HasMethodAt P es w (slice_get places n) → n < length places
place_known P es w [] n m = absurd m
place_known P es w (p ∷ places) zero m = omega arith
place_known P es w (p ∷ places) (suc n) m = omega (arith, place_known P es w places n m)

-- a change that may be made is of the program
pub made_of_program : (P : Program) (es : List Event) (c : Change) → MayBeMade P es c → IsOfProgram P c
made_of_program P es (Ch.Def site) m = m.1
made_of_program P es (Ch.Del place) m = place_known P es (world_of es) P.deletes place m
