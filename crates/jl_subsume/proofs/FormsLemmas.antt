-- The union-free forms of a type, one by one.
use Rattle.std.proofs.Common.{◌≡◌, sym, subst, refl, ℕ, List, map, inl, inr}
use Rattle.jl_model.specs.declared.ty.Ty.{Ty}
use Rattle.jl_model.specs.declared.ty.Ty.TheViews.{rolls-Any, rolls-Union, rolls-Tuple, rolls-Nominal, rolls-Var}
use Rattle.jl_model.specs.declared.ty.Ty.TheViews as V
use Rattle.jl_model.specs.declared.ty.Ty.TheVariants as W
use Rattle.jl_model.specs.Rows.{forms, choices}
use Rattle.jl_search.proofs.HasLemmas.{Has, Picks, has_map, map_has, has_flat, flat_has}
use Rattle.jl_search.proofs.PickLemmas.{has_choices, choices_has}
use Rattle.jl_types.proofs.FormEquations.{forms-any, forms-var, forms-union, forms-tuple, forms-nominal}

module _ (at : ℕ → List Ty) where
  -- one form of each type
  pub union_form : (ts : List Ty) (x : Ty) → Has (forms at (V.Union ts)) x → (t : Ty) × Has ts t × Has (forms at t) x
  union_form ts x h = flat_has (forms at) ts x (subst (λ z. Has z x) (forms-union at ts) h)

  pub form_union : (ts : List Ty) (t x : Ty) → Has ts t → Has (forms at t) x → Has (forms at (V.Union ts)) x
  form_union ts t x h i = subst (λ z. Has z x) (sym (forms-union at ts)) (has_flat (forms at) ts t x h i)

  pub tuple_form : (ts : List Ty) (x : Ty) → Has (forms at (V.Tuple ts)) x → (us : List Ty) × Picks us (map (forms at) ts) × (V.Tuple us ≡ x)
  tuple_form ts x h =
      let r = map_has (λ us. V.Tuple us) (choices (map (forms at) ts)) x (subst (λ z. Has z x) (forms-tuple at ts) h) in
      (r.0, choices_has (map (forms at) ts) r.0 r.1, r.2)

  pub form_tuple : (ts us : List Ty) → Picks us (map (forms at) ts) → Has (forms at (V.Tuple ts)) (V.Tuple us)
  form_tuple ts us p = subst (λ z. Has z (V.Tuple us)) (sym (forms-tuple at ts)) (has_map (λ us. V.Tuple us) (choices (map (forms at) ts)) us (has_choices (map (forms at) ts) us p))

  pub any_form : (x : Ty) → Has (forms at W.Any) x → W.Any ≡ x
  any_form x h = elim (subst (λ z. Has z x) (forms-any at) h) [ inl e ↦ e | inr i ↦ absurd i ]

  pub nominal_form : (k : ℕ) (ts : List Ty) (x : Ty) → Has (forms at (V.Nominal k ts)) x → V.Nominal k ts ≡ x
  nominal_form k ts x h = elim (subst (λ z. Has z x) (forms-nominal at k ts) h) [ inl e ↦ e | inr i ↦ absurd i ]

  pub var_form : (v : ℕ) (x : Ty) → Has (forms at (W.Var v)) x → Has (at v) x
  var_form v x h = subst (λ z. Has z x) (forms-var at v) h

  pub form_any : Has (forms at W.Any) W.Any
  form_any = subst (λ z. Has z W.Any) (sym (forms-any at)) (inl refl)

  pub form_nominal : (k : ℕ) (ts : List Ty) → Has (forms at (V.Nominal k ts)) (V.Nominal k ts)
  form_nominal k ts = subst (λ z. Has z (V.Nominal k ts)) (sym (forms-nominal at k ts)) (inl refl)

  pub form_var : (v : ℕ) (x : Ty) → Has (at v) x → Has (forms at (W.Var v)) x
  form_var v x h = subst (λ z. Has z x) (sym (forms-var at v)) h
