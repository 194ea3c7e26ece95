use Rattle.std.proofs.Common.{◌+◌, ◌*◌, drop, Option}
use Rattle.std.specs.List.{flat_map}
use Rattle.jl_model.specs.declared.ty.Ty.{Ty}
use Rattle.jl_model.specs.declared.ty.Ty.TheViews.{size-Ty}
use Rattle.jl_types.specs.Ground.{tallest}
use Rattle.jl_calculus.specs.Statics.{nominals_in}
use Rattle.jl_operations.specs.Broken.{IsFirstOf}
use Rattle.jl_operations.proofs.broken.+first.Given as goal

abbrev pub invariant-first_of_all-loop-ty : goal.invariant-first_of_all-loop-ty
invariant-first_of_all-loop-ty l = (o : Option Ty) → IsFirstOf l.table (flat_map nominals_in (drop l.ty-index l.types)) o → IsFirstOf l.table (flat_map nominals_in l.types) o

abbrev pub decreases-first_in : goal.decreases-first_in
decreases-first_in l = 2 * size-Ty l.ty.now

abbrev pub decreases-first_of_all : goal.decreases-first_of_all
decreases-first_of_all l = 2 * tallest l.types.now + 1
