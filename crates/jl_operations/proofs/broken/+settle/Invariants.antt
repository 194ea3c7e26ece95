use Rattle.std.proofs.Common.{◌+◌, ◌*◌, ◌++◌, drop, List}
use Rattle.jl_model.specs.declared.ty.Ty.{Ty}
use Rattle.jl_model.specs.declared.ty.Ty.TheViews.{size-Ty}
use Rattle.jl_model.specs.Signature.{Both}
use Rattle.jl_types.specs.Ground.{tallest}
use Rattle.jl_operations.specs.Broken.{IsSettledAs}
use Rattle.jl_operations.proofs.broken.+settle.Given as goal

abbrev pub invariant-settle_arguments-loop-ty : goal.invariant-settle_arguments-loop-ty
invariant-settle_arguments-loop-ty l = (us : List Ty) → Both (IsSettledAs l.table) (drop l.ty-index l.types) us → Both (IsSettledAs l.table) l.types (l.items.items ++ us)

abbrev pub decreases-settle_argument : goal.decreases-settle_argument
decreases-settle_argument l = 2 * size-Ty l.ty.now

abbrev pub decreases-settle_arguments : goal.decreases-settle_arguments
decreases-settle_arguments l = 2 * tallest l.types.now + 1
