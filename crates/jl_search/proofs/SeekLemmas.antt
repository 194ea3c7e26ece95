-- A search finds only what stands there, and the values that it makes.
use Rattle.std.proofs.Common.{◌≡◌, ◌∙◌, sym, ap, subst, refl, ℕ, Bool, true, false, cond, nat_eq, eqb-true, List, [], ◌∷◌, ◌++◌, map, Option, None, Some, inl}
use Rattle.std.specs.List.{flat_map}
use Rattle.jl_model.specs.declared.ty.Ty.{Ty}
use Rattle.jl_model.specs.declared.ty.Ty.TheViews.{out-Ty}
use Rattle.jl_model.specs.declared.ty.Ty.TheViews as V
use Rattle.jl_model.specs.declared.ty.Ty.TheVariants as W
use Rattle.jl_model.specs.Rows.{vars_in}
use Rattle.jl_model.specs.Subtype.{Table, Fixed, put}
use Rattle.jl_model.specs.Found.{or_else, first, find_arg, find_inner, find_outer, arguments_of, parts_of, ancestor, raised, inner, outer}
use Rattle.jl_model.proofs.TypeInduction.{Each, by_cases}
use Rattle.jl_model.proofs.FormLemmas.{put-any, put-union, put-tuple, put-nominal, put-var, vars-union, vars-tuple, vars-nominal, vars-var}
use Rattle.jl_search.proofs.HasLemmas.{Has, has_left, has_right}
use Rattle.jl_search.proofs.FindLemmas as L

-- what is found of a variable comes from one of its places
module _ (v : ℕ) where
  abbrev In : (Ty → Ty → Option Ty) → (Ty → List ℕ) → Ty → Type 0
  In F N u = (t y : Ty) → F u t ≡ Some y → Has (N u) v

  first_in : (F : Ty → Ty → Option Ty) (N : Ty → List ℕ) (us : List Ty) → Each (In F N) us → (ts : List Ty) (y : Ty) → first (map F us) ts ≡ Some y → Has (flat_map N us) v
  first_in F N [] e ts y h = let c : None ≡ Some y = h in cc
  first_in F N (u ∷ us) e [] y h = let c : None ≡ Some y = h in cc
  first_in F N (u ∷ us) e (t ∷ ts) y h = pick (λ k. first_in F N us e.1 ts y k) (F u t) refl h
    where
      pick : (first (map F us) ts ≡ Some y → Has (flat_map N us) v) → (o : Option Ty) → F u t ≡ o → or_else o (first (map F us) ts) ≡ Some y → Has (N u ++ flat_map N us) v
      pick ih None i k = has_right (N u) (flat_map N us) v (ih k)
      pick ih (Some z) i k = has_left (N u) (flat_map N us) v (e.0 t z i)

  not_none : (o : Option Ty) (y : Ty) → o ≡ None → o ≡ Some y → ⊥
  not_none o y a b = let c : None ≡ Some y = sym a ∙ b in cc

  at_var : (w : ℕ) (t y : Ty) → cond (nat_eq v w) (Some t) None ≡ Some y → Has (w ∷ []) v
  at_var w t y h = pick (nat_eq v w) refl h
    where
      pick : (b : Bool) → nat_eq v w ≡ b → cond b (Some t) None ≡ Some y → Has (w ∷ []) v
      pick true e k = inl (sym (eqb-true v w e))
      pick false e k = let c : None ≡ Some y = k in cc

  pub arg_in : (u : Ty) → In (find_arg v) vars_in u
  arg_in = by_cases (In (find_arg v) vars_in) (record {
    any = λ t y h. absurd (not_none (find_arg v W.Any t) y (L.arg-any v t) h);
    union = λ us e t y h. absurd (not_none (find_arg v (V.Union us) t) y (L.arg-union v t us) h);
    tuple = λ us e t y h. absurd (not_none (find_arg v (V.Tuple us) t) y (L.arg-tuple v t us) h);
    nominal = λ k us e t y h. subst (λ z. Has z v) (sym (vars-nominal k us)) (first_in (find_arg v) vars_in us e (arguments_of (out-Ty t)) y (sym (L.arg-nominal v t k us) ∙ h));
    var = λ w t y h. subst (λ z. Has z v) (sym (vars-var w)) (at_var w t y (sym (L.arg-var v t w) ∙ h));
  })

  each_arg : (us : List Ty) → Each (In (find_arg v) vars_in) us
  each_arg [] = tt
  each_arg (u ∷ us) = (arg_in u, each_arg us)

  pub args_in : (us ts : List Ty) (y : Ty) → first (map (find_arg v) us) ts ≡ Some y → Has (flat_map vars_in us) v
  args_in us ts y h = first_in (find_arg v) vars_in us (each_arg us) ts y h

  module _ (n : Table) (g : Fixed) where
    inner_in : (u : Ty) → In (find_inner n g v) inner u
    inner_in = by_cases (In (find_inner n g v) inner) (record {
      any = λ t y h. absurd (not_none (find_inner n g v W.Any t) y (L.inner-find-any n g v t) h);
      union = λ us e t y h. absurd (not_none (find_inner n g v (V.Union us) t) y (L.inner-find-union n g v t us) h);
      tuple = λ us e t y h. subst (λ z. Has z v) (sym (L.inner-tuple us)) (first_in (find_inner n g v) inner us e (parts_of (raised g (out-Ty t))) y (sym (L.inner-find-tuple n g v t us) ∙ h));
      nominal = λ k us e t y h. subst (λ z. Has z v) (sym (L.inner-nominal k us)) (args_in us (ancestor n k (raised g (out-Ty t))) y (sym (L.inner-find-nominal n g v t k us) ∙ h));
      var = λ w t y h. absurd (not_none (find_inner n g v (W.Var w) t) y (L.inner-find-var n g v t w) h);
    })

    each_inner : (us : List Ty) → Each (In (find_inner n g v) inner) us
    each_inner [] = tt
    each_inner (u ∷ us) = (inner_in u, each_inner us)

    pub inners_in : (us ts : List Ty) (y : Ty) → first (map (find_inner n g v) us) ts ≡ Some y → Has (flat_map inner us) v
    inners_in us ts y h = first_in (find_inner n g v) inner us (each_inner us) ts y h

  module _ (g : Fixed) where
    outer_in : (u : Ty) → In (find_outer g v) outer u
    outer_in = by_cases (In (find_outer g v) outer) (record {
      any = λ t y h. absurd (not_none (find_outer g v W.Any t) y (L.outer-find-any g v t) h);
      union = λ us e t y h. absurd (not_none (find_outer g v (V.Union us) t) y (L.outer-find-union g v t us) h);
      tuple = λ us e t y h. subst (λ z. Has z v) (sym (L.outer-tuple us)) (first_in (find_outer g v) outer us e (parts_of (raised g (out-Ty t))) y (sym (L.outer-find-tuple g v t us) ∙ h));
      nominal = λ k us e t y h. absurd (not_none (find_outer g v (V.Nominal k us) t) y (L.outer-find-nominal g v t k us) h);
      var = λ w t y h. subst (λ z. Has z v) (sym (L.outer-var w)) (at_var w t y (sym (L.outer-find-var g v t w) ∙ h));
    })

    each_outer : (us : List Ty) → Each (In (find_outer g v) outer) us
    each_outer [] = tt
    each_outer (u ∷ us) = (outer_in u, each_outer us)

    pub outers_in : (us ts : List Ty) (y : Ty) → first (map (find_outer g v) us) ts ≡ Some y → Has (flat_map outer us) v
    outers_in us ts y h = first_in (find_outer g v) outer us (each_outer us) ts y h

-- types that agree on the variables of others
module _ (f g : ℕ → Ty) where
  abbrev Agrees : Ty → Type 0
  Agrees t = ((v : ℕ) → Has (vars_in t) v → f v ≡ g v) → put f t ≡ put g t

  agree_each : (ts : List Ty) → Each Agrees ts → ((v : ℕ) → Has (flat_map vars_in ts) v → f v ≡ g v) → map (put f) ts ≡ map (put g) ts
  agree_each [] e h = refl
  agree_each (t ∷ ts) e h =
      let p = e.0 (λ v i. h v (has_left (vars_in t) (flat_map vars_in ts) v i)) in
      let q = agree_each ts e.1 (λ v i. h v (has_right (vars_in t) (flat_map vars_in ts) v i)) in rw (p, q) refl

  pub agrees : (t : Ty) → Agrees t
  agrees = by_cases Agrees (record {
    any = λ h. put-any f ∙ sym (put-any g);
    union = λ ts e h. put-union f ts ∙ ap (λ z. V.Union z) (agree_each ts e (λ v i. h v (subst (λ z. Has z v) (sym (vars-union ts)) i))) ∙ sym (put-union g ts);
    tuple = λ ts e h. put-tuple f ts ∙ ap (λ z. V.Tuple z) (agree_each ts e (λ v i. h v (subst (λ z. Has z v) (sym (vars-tuple ts)) i))) ∙ sym (put-tuple g ts);
    nominal = λ k ts e h. put-nominal f k ts ∙ ap (λ z. V.Nominal k z) (agree_each ts e (λ v i. h v (subst (λ z. Has z v) (sym (vars-nominal k ts)) i))) ∙ sym (put-nominal g k ts);
    var = λ v h. put-var f v ∙ h v (subst (λ z. Has z v) (sym (vars-var v)) (inl refl)) ∙ sym (put-var g v);
  })
