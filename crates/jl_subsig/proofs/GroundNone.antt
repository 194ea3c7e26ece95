-- The empty union is a normal form.
use Rattle.std.proofs.Common.{◌≡◌, subst, sym, refl, arith, List, [], length}
use Rattle.jl_model.specs.declared.ty.Ty.{Ty}
use Rattle.jl_model.specs.declared.ty.Ty.TheViews.{outs-Union}
use Rattle.jl_model.specs.declared.ty.Ty.TheViews as V
use Rattle.jl_model.specs.declared.ty.Decl.{Decl}
use Rattle.jl_model.specs.Normal.{union, none}
use Rattle.jl_model.proofs.KnownLemmas.{known-union}
use Rattle.jl_types.specs.Ground.{IsGround}

pub none_ground : (ds : List Decl) (us : List Ty) → us ≡ [] → IsGround ds (V.Union us)
none_ground ds us e = subst (λ z. IsGround ds (V.Union z)) (sym e) (record {
  normal = union (V.Union []) [] (outs-Union []) none refl tt (λ h. absurd (omega arith));
  known = known-union (length ds) [];
})
