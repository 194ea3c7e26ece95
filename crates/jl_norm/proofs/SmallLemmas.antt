-- The arguments in what is kept of a declaration are normal forms, and small where the declaration is.
use Rattle.std.proofs.Common.{◌≡◌, ◌∙◌, sym, ap, subst, refl, ℕ, zero, suc, arith, true, false, List, [], ◌∷◌, ◌++◌}
use Rattle.std.specs.List.{flat_map, Contains}
use Rattle.jl_model.specs.declared.ty.Ty.{Ty, out-Ty}
use Rattle.jl_model.specs.declared.ty.Ty.TheOpen.{Any, Union, Tuple, Nominal, Var}
use Rattle.jl_model.specs.declared.ty.Ty.TheViews.{outs-Any, outs-Union, outs-Tuple, outs-Nominal, outs-Var}
use Rattle.jl_model.specs.declared.ty.Ty.TheViews as V
use Rattle.jl_model.specs.declared.ty.Bound.{Bound}
use Rattle.jl_model.specs.declared.ty.Decl.{Decl}
use Rattle.jl_model.specs.Subtype.{Table}
use Rattle.jl_model.specs.Counts.{IsWithinLimits}
use Rattle.jl_model.specs.Normal.{IsNormal, AllNormal, any, var, nominal as normal_nominal, tuple as normal_tuple, union as normal_union, none, more, IsNormalForm}
use Rattle.jl_model.specs.Valid.{is_closed}
use Rattle.jl_model.specs.Kept.{field_types, Argument, AllArguments, closed, variable, nominal as applied, arguments_end, arguments_more, Settled, AllSettled, plain, variable as alone, union, tuple, nominal, settled_end, settled_more, Bounds, bounds_end, bounds_more, IsKept}
use Rattle.jl_model.specs.Refusals.{table_with, bound_types, types_of, Given, given_from, given_in, AllWithinLimits}
use Rattle.jl_model.proofs.TypeInduction.{Each}
use Rattle.jl_model.proofs.FormLemmas.{is_any, is_union, is_tuple, is_nominal, is_var}
use Rattle.jl_types.proofs.GivenLemmas.{AllGiven, given-any, given-var, given-union, given-tuple, given-nominal, given_both, given_none, each_given, at_given}
use Rattle.jl_types.proofs.PartsLemmas.{closed-var}
use Rattle.jl_norm.proofs.ArgumentLemmas.{given_by, each_at, within_union, within_tuple, within_nominal}

-- LISTS
pub contains_front : (ts us : List Ty) (t : Ty) → Contains ts t → Contains (ts ++ us) t
contains_front [] us t c = absurd (omega (arith, c.1))
contains_front (x ∷ xs) us t (zero, l, e) = (zero, omega arith, e)
contains_front (x ∷ xs) us t (suc i, l, e) = let r = contains_front xs us t (i, omega arith, e) in (suc r.0, omega (arith, r.1), r.2)

pub within_in : (ts : List Ty) → AllWithinLimits ts → (t : Ty) → Contains ts t → IsWithinLimits t
within_in [] h t c = absurd (omega (arith, c.1))
within_in (x ∷ xs) h t (zero, l, e) = subst IsWithinLimits e h.0
within_in (x ∷ xs) h t (suc i, l, e) = within_in xs h.1 t (i, omega arith, e)

pub bounds_again : (n : Table) (bs : List Bound) → Bounds n bs bs → (t : Ty) → Contains (bound_types bs) t → IsNormalForm n t t
bounds_again n bs k = go bs bs k refl
  where
    go : (bs cs : List Bound) → Bounds n bs cs → bs ≡ cs → (t : Ty) → Contains (bound_types bs) t → IsNormalForm n t t
    go bs cs bounds_end q t c = absurd (omega (arith, c.1))
    go bs cs (bounds_more b c as_ es l u r) q t (zero, g, e) =
        let i : b ≡ c = cc in
        subst (λ z. IsNormalForm n z z) e (subst (λ (z : Bound). IsNormalForm n b.low z.low) (sym i) l)
    go bs cs (bounds_more b c as_ es l u r) q t (suc zero, g, e) =
        let i : b ≡ c = cc in
        subst (λ z. IsNormalForm n z z) e (subst (λ (z : Bound). IsNormalForm n b.high z.high) (sym i) u)
    go bs cs (bounds_more b c as_ es l u r) q t (suc (suc i), g, e) =
        let j : as_ ≡ es = cc in
        go as_ es r j t (i, omega arith, e)

-- THE ARGUMENTS ARE SMALL
pub all_within : (ts : List Ty) → Each IsWithinLimits ts → Each (λ t. AllGiven (λ a. IsWithinLimits a.ty) (given_in t)) ts
all_within [] h = tt
all_within (t ∷ ts) h = (given_by IsWithinLimits within_union within_tuple within_nominal t h.0, all_within ts h.1)

-- AND NORMAL
module _ (n : Table) where
  each_normal : (ts : List Ty) → AllNormal n ts → Each (IsNormal n) ts
  each_normal ts none = tt
  each_normal ts (more t us p q) = (p, each_normal us q)

  pub parts_union : (ts : List Ty) → IsNormal n (V.Union ts) → Each (IsNormal n) ts
  parts_union ts (any t o) = let f : Union ts ≡ Any = sym (outs-Union ts) ∙ o in cc
  parts_union ts (var t v o) = let f : Union ts ≡ Var v = sym (outs-Union ts) ∙ o in cc
  parts_union ts (normal_nominal t k xs o h) = let f : Union ts ≡ Nominal k xs = sym (outs-Union ts) ∙ o in cc
  parts_union ts (normal_tuple t xs o h s) = let f : Union ts ≡ Tuple xs = sym (outs-Union ts) ∙ o in cc
  parts_union ts (normal_union t xs o h s m l) =
      let f : Union ts ≡ Union xs = sym (outs-Union ts) ∙ o in
      let e : xs ≡ ts = cc in
      subst (Each (IsNormal n)) e (each_normal xs h)

  parts_tuple : (ts : List Ty) → IsNormal n (V.Tuple ts) → Each (IsNormal n) ts
  parts_tuple ts (any t o) = let f : Tuple ts ≡ Any = sym (outs-Tuple ts) ∙ o in cc
  parts_tuple ts (var t v o) = let f : Tuple ts ≡ Var v = sym (outs-Tuple ts) ∙ o in cc
  parts_tuple ts (normal_nominal t k xs o h) = let f : Tuple ts ≡ Nominal k xs = sym (outs-Tuple ts) ∙ o in cc
  parts_tuple ts (normal_union t xs o h s m l) = let f : Tuple ts ≡ Union xs = sym (outs-Tuple ts) ∙ o in cc
  parts_tuple ts (normal_tuple t xs o h s) =
      let f : Tuple ts ≡ Tuple xs = sym (outs-Tuple ts) ∙ o in
      let e : xs ≡ ts = cc in
      subst (Each (IsNormal n)) e (each_normal xs h)

  pub parts_nominal : (j : ℕ) (ts : List Ty) → IsNormal n (V.Nominal j ts) → Each (IsNormal n) ts
  parts_nominal j ts (any t o) = let f : Nominal j ts ≡ Any = sym (outs-Nominal j ts) ∙ o in cc
  parts_nominal j ts (var t v o) = let f : Nominal j ts ≡ Var v = sym (outs-Nominal j ts) ∙ o in cc
  parts_nominal j ts (normal_union t xs o h s m l) = let f : Nominal j ts ≡ Union xs = sym (outs-Nominal j ts) ∙ o in cc
  parts_nominal j ts (normal_tuple t xs o h s) = let f : Nominal j ts ≡ Tuple xs = sym (outs-Nominal j ts) ∙ o in cc
  parts_nominal j ts (normal_nominal t k xs o h) =
      let f : Nominal j ts ≡ Nominal k xs = sym (outs-Nominal j ts) ∙ o in
      let e : xs ≡ ts = cc in
      subst (Each (IsNormal n)) e (each_normal xs h)

  pub normal_given : (t : Ty) → IsNormal n t → AllGiven (λ a. IsNormal n a.ty) (given_in t)
  normal_given = given_by (IsNormal n) parts_union parts_tuple parts_nominal

  abbrev pub NormalWhereClosed : Given → Type 0
  NormalWhereClosed a = is_closed a.ty ≡ true → IsNormal n a.ty

  abbrev G : Ty → Type 0
  G t = AllGiven NormalWhereClosed (given_in t)

  normal_where : (t : Ty) → AllGiven (λ a. IsNormal n a.ty) (given_in t) → G t
  normal_where t f a c p = f a c

  abbrev Own : Ty → Type 0
  Own t = G t × (is_closed t ≡ true → IsNormal n t)

  own_given : (ts : List Ty) → Each Own ts → Each G ts
  own_given [] e = tt
  own_given (t ∷ ts) e = (e.0.0, own_given ts e.1)

  own_types : (ts : List Ty) → Each Own ts → Each (λ t. is_closed t ≡ true → IsNormal n t) ts
  own_types [] e = tt
  own_types (t ∷ ts) e = (e.0.1, own_types ts e.1)

  nominal_given : (k : ℕ) (ts : List Ty) → Each Own ts → G (V.Nominal k ts)
  nominal_given k ts e =
      subst (AllGiven NormalWhereClosed) (sym (given-nominal k ts))
      (given_both NormalWhereClosed (given_from k 0 ts) (flat_map given_in ts) (at_given NormalWhereClosed k 0 ts (λ i l. each_at (λ t. is_closed t ≡ true → IsNormal n t) ts (own_types ts e) i l)) (each_given NormalWhereClosed ts (own_given ts e)))

  mutual
    argument_own : (t u : Ty) → Argument n t u → t ≡ u → Own t
    argument_own t u (closed a b c f) e = let p = subst (IsNormal n) (sym e) f.normal in (normal_where t (normal_given t p), λ q. p)
    argument_own t u (variable a v o) e =
        (subst G (sym (is_var t v o)) (subst (AllGiven NormalWhereClosed) (sym (given-var v)) (given_none NormalWhereClosed)), λ q. let f : false ≡ true = sym (closed-var v) ∙ ap is_closed (sym (is_var t v o)) ∙ q in cc)
    argument_own t u (applied a b k ts us c o p q) e =
        let f : Nominal k ts ≡ Nominal k us = sym o ∙ ap out-Ty e ∙ p in
        let g : ts ≡ us = cc in
        (subst G (sym (is_nominal t k ts o)) (nominal_given k ts (arguments_own ts us q g)), λ h. let f : true ≡ false = sym h ∙ c in cc)

    arguments_own : (ts us : List Ty) → AllArguments n ts us → ts ≡ us → Each Own ts
    arguments_own ts us arguments_end e = tt
    arguments_own ts us (arguments_more t u vs ws p q) e =
        let f : t ≡ u = cc in
        let g : vs ≡ ws = cc in
        (argument_own t u p f, arguments_own vs ws q g)

  mutual
    settled_normal : (t u : Ty) → Settled n t u → t ≡ u → G t
    settled_normal t u (plain a o) e = subst G (sym (is_any t o)) (subst (AllGiven NormalWhereClosed) (sym given-any) (given_none NormalWhereClosed))
    settled_normal t u (alone a v o) e = subst G (sym (is_var t v o)) (subst (AllGiven NormalWhereClosed) (sym (given-var v)) (given_none NormalWhereClosed))
    settled_normal t u (union a b ts us o p q) e =
        let f : Union ts ≡ Union us = sym o ∙ ap out-Ty e ∙ p in
        let g : ts ≡ us = cc in
        subst G (sym (is_union t ts o)) (subst (AllGiven NormalWhereClosed) (sym (given-union ts)) (each_given NormalWhereClosed ts (all_normal ts us q g)))
    settled_normal t u (tuple a b ts us o p q) e =
        let f : Tuple ts ≡ Tuple us = sym o ∙ ap out-Ty e ∙ p in
        let g : ts ≡ us = cc in
        subst G (sym (is_tuple t ts o)) (subst (AllGiven NormalWhereClosed) (sym (given-tuple ts)) (each_given NormalWhereClosed ts (all_normal ts us q g)))
    settled_normal t u (nominal a b k ts us o p q) e =
        let f : Nominal k ts ≡ Nominal k us = sym o ∙ ap out-Ty e ∙ p in
        let g : ts ≡ us = cc in
        subst G (sym (is_nominal t k ts o)) (nominal_given k ts (arguments_own ts us q g))

    pub all_normal : (ts us : List Ty) → AllSettled n ts us → ts ≡ us → Each G ts
    all_normal ts us settled_end e = tt
    all_normal ts us (settled_more t u vs ws p q) e =
        let f : t ≡ u = cc in
        let g : vs ≡ ws = cc in
        (settled_normal t u p f, all_normal vs ws q g)

  bounds_normal : (bs cs : List Bound) → Bounds n bs cs → bs ≡ cs → Each G (bound_types bs)
  bounds_normal bs cs bounds_end e = tt
  bounds_normal bs cs (bounds_more b c as_ es l u r) e =
      let i : b ≡ c = cc in
      let j : as_ ≡ es = cc in
      let low = subst (λ (z : Bound). IsNormal n z.low) (sym i) l.normal in
      let high = subst (λ (z : Bound). IsNormal n z.high) (sym i) u.normal in
      (normal_where b.low (normal_given b.low low), (normal_where b.high (normal_given b.high high), bounds_normal as_ es r j))

each_join : (P : Ty → Type 0) (ts us : List Ty) → Each P ts → Each P us → Each P (ts ++ us)
each_join P [] us f g = g
each_join P (t ∷ ts) us f g = (f.0, each_join P ts us f.1 g)

pub kept_normal : (ds : List Decl) (e : Decl) → IsKept (table_with ds e) e e → Each (λ t. AllGiven (NormalWhereClosed (table_with ds e)) (given_in t)) (types_of e)
kept_normal ds e k =
    let n = table_with ds e in
    each_join (λ t. AllGiven (NormalWhereClosed n) (given_in t)) (bound_types e.params) (e.parent ∷ field_types e.fields) (bounds_normal n e.params e.params k.params refl)
    (settled_normal n e.parent e.parent k.parent refl, all_normal n (field_types e.fields) (field_types e.fields) k.fields refl)
