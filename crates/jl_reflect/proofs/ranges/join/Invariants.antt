use Rattle.std.proofs.Common.{◌∷◌, List}
use Rattle.jl_model.specs.declared.ty.Key.{Key as K}
use Rattle.jl_program.specs.declared.tree.Program.{Program}
use Rattle.jl_program.specs.Valid.{IsValid}
use Rattle.jl_calculus.specs.declared.history.Event.{Event as E}
use Rattle.jl_calculus.specs.Legal.{IsKeyOf}
use Rattle.jl_reflect.specs.Chosen.{worlds, AreChosen}
use Rattle.jl_reflect.proofs.Steps.{Built}
use Rattle.jl_reflect.proofs.ranges.join.Given as goal

abbrev pub invariant-loop-next : goal.invariant-loop-next
invariant-loop-next l =
    (P : Program) (es : List E) (key : K) → IsValid P → IsKeyOf P key → AreChosen P es key (l.fn.start ∷ l.later) → Built P es key (worlds l.later) l.spans.items l.first l.choice l.next-index
