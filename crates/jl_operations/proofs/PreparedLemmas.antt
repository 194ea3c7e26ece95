-- Written types in which no static parameter stands, and normal forms that are kept.
use Rattle.std.proofs.Common.{◌≡◌, ◌∙◌, ap, refl, ℕ, ◌-◌, Bool, true, cond, nat_lt, List, length, get_or, Result, Ok}
use Rattle.jl_model.specs.declared.ty.Ty.{Ty}
use Rattle.jl_model.specs.declared.ty.Ty.TheVariants as W
use Rattle.jl_model.specs.declared.ty.Decl.{Decl}
use Rattle.jl_model.specs.declared.ty.Written.{Written}
use Rattle.jl_model.specs.Refusals.{Declared, bound_types}
use Rattle.jl_model.specs.SigRefusals.{IsAllowedSig}
use Rattle.jl_sig.specs.Prepared.{HasOwnVariables}
use Rattle.jl_sig.proofs.OwnLemmas.{own_bounds, own_parts}
use Rattle.jl_program.specs.declared.value.Value.{Value}
use Rattle.jl_program.specs.ValidValue.{IsStructType}
use Rattle.jl_calculus.specs.declared.history.Outcome.{Outcome}
use Rattle.jl_calculus.specs.Operations.{make_struct}
use Rattle.jl_calculus.specs.Statics.{own_or_bound, with_statics}
use Rattle.jl_operations.specs.Constructed.{IsConstructed, made_of}
use Rattle.jl_operations.specs.Prepared.{IsFormOf}
use Rattle.jl_operations.proofs.BoundLemmas.{all_itself, bounds_same, bounds_itself}
use Rattle.jl_operations.proofs.FormLemmas.{form_struct, form_told, made_told}
use Rattle.jl_operations.proofs.PutLemmas.{all_alike}

pub alone_stays : (statics : List Ty) (t : Written) → HasOwnVariables t → with_statics statics t ≡ t
alone_stays statics t h =
    let f = own_or_bound statics (length t.vars) in
    let p : ℕ → Bool = λ v. nat_lt v (length t.vars) in
    let own : (v : ℕ) → nat_lt v (length t.vars) ≡ true → f v ≡ W.Var v = λ v e. ap (λ b. cond b (W.Var v) (get_or statics (v - length t.vars) W.Any)) e in
    let bounds = bounds_same f (λ v. W.Var v) t.vars (all_alike p f (λ v. W.Var v) own (bound_types t.vars) (own_bounds t h)) ∙ bounds_itself t.vars in
    let parts = all_alike p f (λ v. W.Var v) own t.parts (own_parts t h) ∙ all_itself t.parts in
    λ i. record { vars = bounds i; parts = parts i }

-- ---- the normal form of the type of an explicit constructor

module _ (ds : List Decl) (declared : Declared ds) where
  pub kept_struct : (t u : Ty) → IsConstructed ds t → IsFormOf ds t u → IsStructType ds u
  kept_struct t u h f = form_struct ds declared t u h f.form f.known f.closed f.counted f.fits

  pub kept_made : (s : Written) (u : Ty) (vs : List Value) (o : Outcome) → IsAllowedSig ds s → IsFormOf ds (get_or s.parts 0 W.Any) u → make_struct ds u vs o → made_of ds s vs o
  kept_made s u vs o a f m =
      let t = get_or s.parts 0 W.Any in
      let r : Result Outcome Bool = Ok o in
      made_told ds s t vs r a refl (form_told ds declared t u vs r f.within f.form f.small f.known m)
