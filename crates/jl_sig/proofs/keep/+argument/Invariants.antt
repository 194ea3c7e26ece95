use Rattle.std.proofs.Common.{◌+◌, ◌*◌, ◌++◌, drop, List}
use Rattle.jl_model.specs.declared.ty.Ty.TheViews.{size-Ty}
use Rattle.jl_types.specs.Ground.{tallest}
use Rattle.jl_model.specs.declared.ty.Ty.{Ty}
use Rattle.jl_model.specs.Ancestors.{table_of}
use Rattle.jl_model.specs.Signature.{Both}
use Rattle.jl_model.specs.Normal.{IsNormalForm}
use Rattle.jl_sig.proofs.keep.+argument.Given as goal

abbrev pub invariant-keep_arguments-loop-ty : goal.invariant-keep_arguments-loop-ty
invariant-keep_arguments-loop-ty l = (us : List Ty) → Both (IsNormalForm (table_of l.table)) (drop l.ty-index l.types) us → Both (IsNormalForm (table_of l.table)) l.types (l.items.items ++ us)

abbrev pub decreases-keep_argument : goal.decreases-keep_argument
decreases-keep_argument l = 2 * size-Ty l.ty.now

abbrev pub decreases-keep_arguments : goal.decreases-keep_arguments
decreases-keep_arguments l = 2 * tallest l.types.now + 1
