use Rattle.std.proofs.Common.{◌+◌, ◌*◌, ◌++◌, drop, List}
use Rattle.jl_model.specs.declared.ty.Ty.TheViews.{size-Ty}
use Rattle.jl_types.specs.Ground.{tallest}
use Rattle.jl_model.specs.declared.ty.Ty.{Ty}
use Rattle.jl_model.specs.Signature.{Both}
use Rattle.jl_sig.specs.Fit.{IsKeptAs}
use Rattle.jl_sig.proofs.keep.+keep.Given as goal

abbrev pub invariant-keep_all-loop-ty : goal.invariant-keep_all-loop-ty
invariant-keep_all-loop-ty l = (us : List Ty) → Both (IsKeptAs l.table) (drop l.ty-index l.types) us → Both (IsKeptAs l.table) l.types (l.items.items ++ us)

abbrev pub decreases-keep : goal.decreases-keep
decreases-keep l = 2 * size-Ty l.ty.now

abbrev pub decreases-keep_all : goal.decreases-keep_all
decreases-keep_all l = 2 * tallest l.types.now + 1
