-- The normal form of the type of an explicit constructor is a struct type.
use Rattle.std.proofs.Common.{◌≡◌, ◌∙◌, sym, ap, subst, refl, ℕ, ◌<◌, ◌≤◌, inl, inr, arith, true, nat_le, List, [], ◌∷◌, length, get_or, slice_get, IfOk, Result}
use Rattle.std.proofs.lemmas.Result.{IfOk-weaker}
use Rattle.jl_model.specs.declared.ty.Ty.{Ty, out-Ty}
use Rattle.jl_model.specs.declared.ty.Ty.TheOpen.{Ty-F, Any, Union, Tuple, Nominal, Var}
use Rattle.jl_model.specs.declared.ty.Ty.TheViews.{outs-Nominal}
use Rattle.jl_model.specs.declared.ty.Ty.TheViews as V
use Rattle.jl_model.specs.declared.ty.Ty.TheVariants as W
use Rattle.jl_model.specs.declared.ty.Decl.{Decl}
use Rattle.jl_model.specs.declared.ty.Written.{Written}
use Rattle.jl_model.specs.Ancestors.{is_struct_kind, builtin_types, table_of}
use Rattle.jl_model.specs.Counts.{nodes, IsWithinLimits}
use Rattle.jl_model.specs.Normal.{IsNormalForm}
use Rattle.jl_model.specs.Refusals.{Declared}
use Rattle.jl_model.specs.SigRefusals.{IsAllowedSig}
use Rattle.jl_model.specs.Subtype.{opaque, Equal, is_concrete}
use Rattle.jl_model.specs.Valid.{is_known, is_counted, is_closed}
use Rattle.jl_model.proofs.FormLemmas.{is_nominal}
use Rattle.jl_model.proofs.PutLemmas.{and_l, and_r}
use Rattle.jl_program.specs.declared.fault.Fault.TheVariants as F
use Rattle.jl_program.specs.declared.value.Value.{Value}
use Rattle.jl_program.specs.BodyTypes.{is_struct, is_struct_type}
use Rattle.jl_program.specs.ValidValue.{IsStructType, is_declared_step}
use Rattle.jl_types.specs.Form.{IsTooLarge}
use Rattle.jl_types.proofs.ExistLemmas.{exists}
use Rattle.jl_search.proofs.EqualLemmas.{nominal_form}
use Rattle.jl_sig.proofs.LimitLemmas.{small_form}
use Rattle.jl_value.proofs.KeptLemmas.{concrete-nominal}
use Rattle.jl_calculus.specs.declared.history.Outcome.{Outcome}
use Rattle.jl_calculus.specs.declared.history.Outcome.TheVariants as O
use Rattle.jl_calculus.specs.Operations.{make_struct}
use Rattle.jl_calculus.specs.Statics.{NormLimit}
use Rattle.jl_operations.specs.Constructed.{IsConstructed, IsOneConstructed, form_of, made_of}
use Rattle.jl_operations.proofs.QuestionLemmas.{type_allowed}

module _ (ds : List Decl) where
  struct_step : (t : Ty) (x : Ty-F Ty) → out-Ty t ≡ x → is_struct_type ds x ≡ true → (k : ℕ) × (xs : List Ty) × (t ≡ V.Nominal k xs) × (is_struct ds k ≡ true)
  struct_step t (Nominal k xs) e h = (k, xs, is_nominal t k xs e, h)
  struct_step t Any e h = cc
  struct_step t (Union ts) e h = cc
  struct_step t (Tuple ts) e h = cc
  struct_step t (Var v) e h = cc

  pub struct_name : (t : Ty) → is_struct_type ds (out-Ty t) ≡ true → (k : ℕ) × (xs : List Ty) × (t ≡ V.Nominal k xs) × (is_struct ds k ≡ true)
  struct_name t h = struct_step t (out-Ty t) refl h

  kind_is : (k : ℕ) → (table_of ds).is_struct k ≡ is_struct_kind (slice_get ds k)
  unfolding table_of
  kind_is k = refl

  pub name_concrete : (k : ℕ) (xs : List Ty) → is_struct ds k ≡ true → is_concrete (table_of ds) opaque (V.Nominal k xs) ≡ true
  name_concrete k xs h = concrete-nominal (table_of ds) k xs ∙ kind_is k ∙ and_r (nat_le (length builtin_types) k) (is_struct_kind (slice_get ds k)) h

  pub name_declared : (k : ℕ) (xs : List Ty) → is_struct ds k ≡ true → is_declared_step (out-Ty (V.Nominal k xs)) ≡ true
  name_declared k xs h = ap is_declared_step (outs-Nominal k xs) ∙ and_l (nat_le (length builtin_types) k) (is_struct_kind (slice_get ds k)) h

  module _ (declared : Declared ds) where
    pub form_struct : (t u : Ty) → IsConstructed ds t → IsNormalForm (table_of ds) t u → is_known (length ds) u ≡ true → (is_closed t ≡ true → is_closed u ≡ true)
        → ((es : List Decl) → is_counted es t ≡ true → is_counted es u ≡ true) → IsWithinLimits u → IsStructType ds u
    form_struct t u h f known closed counted small =
        let r = struct_name t h.struct in
        let e = subst (Equal (table_of ds) u) r.2 (f.equal.1, f.equal.0) in
        let s = nominal_form ds declared u r.0 r.1 f.normal e in
        record {
          value_type = record {
            normal = f.normal;
            valid = record { known = known; counted = counted ds h.counted };
            closed = closed h.closed;
            concrete = ap (is_concrete (table_of ds) opaque) s.1 ∙ name_concrete r.0 s.0 r.3;
            small = small;
          };
          declared = ap (λ z. is_declared_step (out-Ty z)) s.1 ∙ name_declared r.0 s.0 r.3;
        }

    no_limit : (t u : Ty) → IsWithinLimits t → IsNormalForm (table_of ds) t u → nodes u ≤ 1024 → is_known (length ds) u ≡ true → NormLimit (table_of ds) t → ⊥
    no_limit t u w f s k (inl n) = n w
    no_limit t u w f s k (inr (v, g, l)) = small_form ds declared t u v (record { within = w; form = f; small = s; known = k }) g l

    pub form_told : (t u : Ty) (vs : List Value) {E : Type 0} (r : Result Outcome E) → IsWithinLimits t → IsNormalForm (table_of ds) t u → nodes u ≤ 1024 → is_known (length ds) u ≡ true
        → IfOk r (λ o. make_struct ds u vs o) → IfOk r (λ o. form_of ds t vs o)
    form_told t u vs r w f s k h = IfOk-weaker r (λ o. make_struct ds u vs o) (λ o. form_of ds t vs o) (λ o m. inr ((λ e l. no_limit t u w f s k l.1), (u, f, m))) h

    pub form_limit : (t : Ty) (vs : List Value) → IsTooLarge ds t → form_of ds t vs (O.Error F.TypeLimit)
    form_limit t vs (inl n) = inl (F.TypeLimit, (refl, inl n), refl)
    form_limit t vs (inr h) = let e = exists ds declared t in inl (F.TypeLimit, (refl, inr (e.0, e.1.form, h e.0 e.1.form)), refl)

-- what an allowed type answers is what follows
pub made_told : (ds : List Decl) (s : Written) (t : Ty) (vs : List Value) {E : Type 0} (r : Result Outcome E) → IsAllowedSig ds s → get_or s.parts 0 W.Any ≡ t → IfOk r (λ o. form_of ds t vs o) → IfOk r (λ o. made_of ds s vs o)
made_told ds s t vs r a e h =
    IfOk-weaker r (λ o. form_of ds t vs o) (λ o. made_of ds s vs o) (λ o m. type_allowed ds s (form_of ds (get_or s.parts 0 W.Any) vs) o a (subst (λ z. form_of ds z vs o) (sym e) m)) h

pub first_part : (ds : List Decl) (ts us : List Ty) (u : Ty) → IsOneConstructed ds ts → us ≡ ts → u ≡ get_or us 0 u → (0 < length us) × IsConstructed ds u × (get_or ts 0 W.Any ≡ u)
first_part ds ts us u (t, e, h) f g =
    let all : us ≡ t ∷ [] = f ∙ e in
    let one : u ≡ t = g ∙ ap (λ z. get_or z 0 u) all in
    (omega (arith, ap length all), subst (IsConstructed ds) (sym one) h, ap (λ z. get_or z 0 W.Any) e ∙ sym one)

pub has_part : (ds : List Decl) (ts us : List Ty) → IsOneConstructed ds ts → us ≡ ts → 0 < length us
has_part ds ts us (t, e, h) f = let all : us ≡ t ∷ [] = f ∙ e in omega (arith, ap length all)
