-- The choice of a method (Julia manual, Methods; Zappa Nardelli et al., OOPSLA 2018).
use Rattle.std.specs.Prelude.{List}
use Rattle.jl_model.specs.declared.ty.Ty.{Ty}
use Rattle.jl_model.specs.Choice.{Method, ChoosesMethod, ChoosesNone, ChoosesAmbiguous}
use Rattle.jl_model.specs.Subtype.{Table}
use Rattle.jl_program.specs.declared.choice.Choice.{Choice}
use Rattle.jl_program.specs.declared.choice.Choice.TheVariants as C

-- the choice among methods for arguments of these types
abbrev pub Chooses : Table → List Method → List Ty → Choice → Type 0
Chooses n ms ts (C.Method d) = ChoosesMethod n ms ts d
Chooses n ms ts C.None = ChoosesNone n ms ts
Chooses n ms ts (C.Ambiguous a b) = ChoosesAmbiguous n ms ts a b
