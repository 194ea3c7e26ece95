-- A variable that is not bound is found at no invariant place.
use Rattle.std.proofs.Common.{◌≡◌, ◌∙◌, sym, ap, subst, refl, ℕ, Bool, true, false, cond, nat_eq, eqb-true, List, [], ◌∷◌, map, None, Some, inl}
use Rattle.std.specs.List.{flat_map}
use Rattle.jl_model.specs.declared.ty.Ty.{Ty}
use Rattle.jl_model.specs.declared.ty.Ty.TheViews.{out-Ty}
use Rattle.jl_model.specs.declared.ty.Ty.TheVariants as W
use Rattle.jl_model.specs.declared.ty.Written.{Written}
use Rattle.jl_model.specs.Kinds.{bound}
use Rattle.jl_model.specs.Rows.{kind, vars_in}
use Rattle.jl_model.specs.Subtype.{Table, opaque}
use Rattle.jl_model.specs.Found.{first, raised, parts_of, arguments_of, ancestor, find_arg, find_inner}
use Rattle.jl_model.proofs.TypeInduction.{Each, by_cases}
use Rattle.jl_model.proofs.FormLemmas.{is_any, is_union, is_tuple, is_nominal, is_var, vars-nominal, vars-var}
use Rattle.jl_match.proofs.ListLemmas.{In, in_left, in_right, in_each}
use Rattle.jl_search.proofs.FindLemmas as L
use Rattle.jl_match.proofs.KindLemmas.{Inner, Comp, comp_any, comp_var, comp_union, comp_tuple, comp_nominal, Comps, comps_end, comps_more}

module _ (v : ℕ) where
  abbrev Unseen : Ty → Type 0
  Unseen u = (In v (vars_in u) → ⊥) → (t : Ty) → find_arg v u t ≡ None

  unseen_all : (us : List Ty) → Each Unseen us → (In v (flat_map vars_in us) → ⊥) → (ts : List Ty) → first (map (find_arg v) us) ts ≡ None
  unseen_all [] e h ts = refl
  unseen_all (u ∷ us) e h [] = refl
  unseen_all (u ∷ us) e h (t ∷ ts) =
      let p = e.0 (λ i. h (in_left v (vars_in u) (flat_map vars_in us) i)) t in
      let q = unseen_all us e.1 (λ i. h (in_right v (vars_in u) (flat_map vars_in us) i)) ts in
      rw (p, q) refl

  var_unseen : (w : ℕ) → Unseen (W.Var w)
  var_unseen w h t = L.arg-var v t w ∙ pick (nat_eq v w) refl
    where
      pick : (b : Bool) → nat_eq v w ≡ b → cond b (Some t) None ≡ None
      pick true e = absurd (h (subst (In v) (sym (vars-var w)) (inl (eqb-true v w e))))
      pick false e = refl

  unseen : (u : Ty) → Unseen u
  unseen = by_cases Unseen (record {
    any = λ h t. L.arg-any v t;
    union = λ us e h t. L.arg-union v t us;
    tuple = λ us e h t. L.arg-tuple v t us;
    nominal = λ k us e h t. L.arg-nominal v t k us ∙ unseen_all us e (λ i. h (subst (In v) (sym (vars-nominal k us)) i)) (arguments_of (out-Ty t));
    var = var_unseen;
  })

  each_unseen : (us : List Ty) → Each Unseen us
  each_unseen [] = tt
  each_unseen (u ∷ us) = (unseen u, each_unseen us)

module _ (n : Table) (s : Written) (v : ℕ) (other : kind s v ≡ bound → ⊥) where
  mutual
    inner_none : (u : Ty) → Comp s u → (t : Ty) → find_inner n opaque v u t ≡ None
    inner_none u (comp_any a o) t = ap (λ z. find_inner n opaque v z t) (is_any u o) ∙ L.inner-find-any n opaque v t
    inner_none u (comp_var a w o l) t = ap (λ z. find_inner n opaque v z t) (is_var u w o) ∙ L.inner-find-var n opaque v t w
    inner_none u (comp_union a us o p) t = ap (λ z. find_inner n opaque v z t) (is_union u us o) ∙ L.inner-find-union n opaque v t us
    inner_none u (comp_tuple a us o p) t = ap (λ z. find_inner n opaque v z t) (is_tuple u us o) ∙ L.inner-find-tuple n opaque v t us ∙ inners_none us p (parts_of (raised opaque (out-Ty t)))
    inner_none u (comp_nominal a k us o p e) t =
        ap (λ z. find_inner n opaque v z t) (is_nominal u k us o) ∙ L.inner-find-nominal n opaque v t k us
        ∙ unseen_all v us (each_unseen v us) (λ i. other (in_each (Inner s) (flat_map vars_in us) e v i).1) (ancestor n k (raised opaque (out-Ty t)))

    pub inners_none : (us : List Ty) → Comps s us → (ts : List Ty) → first (map (find_inner n opaque v) us) ts ≡ None
    inners_none us comps_end ts = refl
    inners_none us (comps_more u ws p q) [] = refl
    inners_none us (comps_more u ws p q) (t ∷ ts) = let a = inner_none u p t in let b = inners_none ws q ts in rw (a, b) refl
