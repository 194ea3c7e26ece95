use Rattle.std.proofs.Common.{◌+◌, ◌*◌, ◌++◌, List, drop}
use Rattle.jl_model.specs.declared.ty.Ty.{Ty}
use Rattle.jl_model.specs.declared.ty.Ty.TheViews.{size-Ty}
use Rattle.jl_model.specs.Signature.{Both}
use Rattle.jl_types.specs.Ground.{tallest}
use Rattle.jl_types.specs.Form.{Formed, Settles}
use Rattle.jl_types.proofs.form.+form.Given as goal

abbrev pub invariant-form_all-loop-ty : goal.invariant-form_all-loop-ty
invariant-form_all-loop-ty l = (us : List Ty) → Both (Formed l.table) (drop l.ty-index l.types) us → Both (Formed l.table) l.types (l.items.items ++ us)

abbrev pub invariant-settle_all-loop-ty : goal.invariant-settle_all-loop-ty
invariant-settle_all-loop-ty l = (us : List Ty) → Both (Settles (Formed l.table)) (drop l.ty-index l.types) us → Both (Settles (Formed l.table)) l.types (l.items.items ++ us)

abbrev pub decreases-settle : goal.decreases-settle
decreases-settle l = 3 * size-Ty l.ty.now

abbrev pub decreases-form : goal.decreases-form
decreases-form l = 3 * size-Ty l.ty.now + 1

abbrev pub decreases-settle_all : goal.decreases-settle_all
decreases-settle_all l = 3 * tallest l.types.now + 2

abbrev pub decreases-form_all : goal.decreases-form_all
decreases-form_all l = 3 * tallest l.types.now + 2
