-- The search at covariant places finds what stands at a place of the variable, and where there is one place all that does.
use Rattle.std.proofs.Common.{◌≡◌, ◌∙◌, sym, ap, refl, ℕ, ◌<◌, ◌≤◌, arith, Bool, true, false, cond, nat_eq, eqb-true, List, [], ◌∷◌, map, Option, None, Some}
use Rattle.jl_model.specs.declared.ty.Ty.{Ty}
use Rattle.jl_model.specs.declared.ty.Ty.TheOpen.{Ty-F, Any, Union, Tuple, Nominal, Var}
use Rattle.jl_model.specs.declared.ty.Ty.TheViews.{out-Ty, outs-Any, outs-Tuple, outs-Var}
use Rattle.jl_model.specs.declared.ty.Ty.TheViews as V
use Rattle.jl_model.specs.declared.ty.Ty.TheVariants as W
use Rattle.jl_model.specs.Kinds.{Places, unused, once, diagonal, bound, places, plus_all, kind_of}
use Rattle.jl_model.specs.Subtype.{opaque}
use Rattle.jl_model.specs.Found.{first as first_of, or_else, raised, parts_of, find_outer}
use Rattle.jl_model.proofs.TypeInduction.{Each, by_cases}
use Rattle.jl_model.proofs.FormLemmas.{is_tuple, is_var}
use Rattle.jl_search.proofs.FindLemmas as L
use Rattle.jl_search.proofs.GoodLemmas.{same_number}
use Rattle.jl_match.specs.Stands.{StandsAt, alone, inside, StandsIn, first, later}
use Rattle.jl_match.proofs.KindLemmas.{places-tuple, places-var}

not_found : (y : Ty) (o : Option Ty) → o ≡ None → o ≡ Some y → ⊥
not_found y o e f = let g : None ≡ Some y = sym e ∙ f in cc

module _ (v : ℕ) where
  abbrev search : List Ty → List Ty → Option Ty
  search us ts = first_of (map (find_outer opaque v) us) ts

  -- what is found stands there
  abbrev Stands : Ty → Type 0
  Stands u = (t y : Ty) → find_outer opaque v u t ≡ Some y → StandsAt v y u t

  found_either : (u t y : Ty) (us ts : List Ty) → Stands u → (search us ts ≡ Some y → StandsIn v y us ts) → (o : Option Ty) → find_outer opaque v u t ≡ o
      → or_else o (search us ts) ≡ Some y → StandsIn v y (u ∷ us) (t ∷ ts)
  found_either u t y us ts p q None e g = later u t us ts (q g)
  found_either u t y us ts p q (Some z) e g = first u t us ts (p t y (e ∙ g))

  all_stand : (us : List Ty) → Each Stands us → (ts : List Ty) (y : Ty) → search us ts ≡ Some y → StandsIn v y us ts
  all_stand [] e ts y h = absurd (not_found y None refl h)
  all_stand (u ∷ us) e [] y h = absurd (not_found y None refl h)
  all_stand (u ∷ us) e (t ∷ ts) y h = found_either u t y us ts e.0 (all_stand us e.1 ts y) (find_outer opaque v u t) refl h

  at_variable : (w : ℕ) (t y : Ty) (b : Bool) → nat_eq v w ≡ b → cond b (Some t) None ≡ Some y → StandsAt v y (W.Var w) t
  at_variable w t y true e g =
      let q : v ≡ w = eqb-true v w e in
      let k : t ≡ y = cc in
      alone (W.Var w) t (outs-Var w ∙ ap (λ (z : ℕ). Var z) (sym q)) k
  at_variable w t y false e g = absurd (not_found y None refl g)

  none_to_search : (us : List Ty) (y : Ty) (ts : List Ty) → ts ≡ [] → search us ts ≡ Some y → ⊥
  none_to_search [] y ts e h = not_found y None refl h
  none_to_search (u ∷ us) y ts e h = not_found y (search (u ∷ us) ts) (ap (search (u ∷ us)) e) h

  in_tuple : (us : List Ty) → Each Stands us → (t y : Ty) (x : Ty-F Ty) → out-Ty t ≡ x → search us (parts_of (raised opaque x)) ≡ Some y → StandsAt v y (V.Tuple us) t
  in_tuple us e t y (Tuple ts) o g = inside (V.Tuple us) t us ts (outs-Tuple us) o (all_stand us e ts y g)
  in_tuple us e t y Any o g = absurd (none_to_search us y [] refl g)
  in_tuple us e t y (Union ts) o g = absurd (none_to_search us y [] refl g)
  in_tuple us e t y (Nominal k ts) o g = absurd (none_to_search us y [] refl g)
  in_tuple us e t y (Var w) o g = absurd (none_to_search us y (parts_of (out-Ty W.Any)) (ap parts_of outs-Any) g)

  stands : (u : Ty) → Stands u
  stands = by_cases Stands (record {
    any = λ t y h. absurd (not_found y (find_outer opaque v W.Any t) (L.outer-find-any opaque v t) h);
    union = λ us e t y h. absurd (not_found y (find_outer opaque v (V.Union us) t) (L.outer-find-union opaque v t us) h);
    tuple = λ us e t y h. in_tuple us e t y (out-Ty t) refl (sym (L.outer-find-tuple opaque v t us) ∙ h);
    nominal = λ k us e t y h. absurd (not_found y (find_outer opaque v (V.Nominal k us) t) (L.outer-find-nominal opaque v t k us) h);
    var = λ w t y h. at_variable w t y (nat_eq v w) refl (sym (L.outer-find-var opaque v t w) ∙ h);
  })

  each_stands : (us : List Ty) → Each Stands us
  each_stands [] = tt
  each_stands (u ∷ us) = (stands u, each_stands us)

  pub found_stands : (us ts : List Ty) (y : Ty) → search us ts ≡ Some y → StandsIn v y us ts
  found_stands us ts y h = all_stand us (each_stands us) ts y h

  abbrev count : Ty → ℕ
  count u = (places v u).covariant

  abbrev count_all : List Ty → ℕ
  count_all us = (plus_all (map (places v) us)).covariant

  -- where the variable has no place nothing is found
  abbrev Bare : Ty → Type 0
  Bare u = count u ≡ 0 → (t : Ty) → find_outer opaque v u t ≡ None

  all_bare : (us : List Ty) → Each Bare us → count_all us ≡ 0 → (ts : List Ty) → search us ts ≡ None
  all_bare [] e h ts = refl
  all_bare (u ∷ us) e h [] = refl
  all_bare (u ∷ us) e h (t ∷ ts) =
      let p = e.0 (omega (arith, h)) t in
      let q = all_bare us e.1 (omega (arith, h)) ts in
      rw (p, q) refl

  var_bare : (w : ℕ) (t : Ty) (b : Bool) → nat_eq v w ≡ b → count (W.Var w) ≡ 0 → cond b (Some t) None ≡ None
  var_bare w t true e h =
      let q : places v (W.Var w) ≡ record { covariant = 1; invariant = 0 } = places-var v w ∙ ap (λ b. cond b (record { covariant = 1; invariant = 0 }) (record { covariant = 0; invariant = 0 })) e in
      absurd (omega (arith, h, ap (λ p. p.covariant) q))
  var_bare w t false e h = refl

  bare : (u : Ty) → Bare u
  bare = by_cases Bare (record {
    any = λ h t. L.outer-find-any opaque v t;
    union = λ us e h t. L.outer-find-union opaque v t us;
    tuple = λ us e h t. L.outer-find-tuple opaque v t us ∙ all_bare us e (omega (arith, h, ap (λ p. p.covariant) (places-tuple v us))) (parts_of (raised opaque (out-Ty t)));
    nominal = λ k us e h t. L.outer-find-nominal opaque v t k us;
    var = λ w h t. L.outer-find-var opaque v t w ∙ var_bare w t (nat_eq v w) refl h;
  })

  own_count : count (W.Var v) ≡ 1
  own_count = ap (λ p. p.covariant) (places-var v v ∙ ap (λ b. cond b (record { covariant = 1; invariant = 0 }) (record { covariant = 0; invariant = 0 })) (same_number v v refl))

  tuple_count : (u : Ty) (us : List Ty) → out-Ty u ≡ Tuple us → count u ≡ count_all us
  tuple_count u us o = ap (λ p. p.covariant) (ap (places v) (is_tuple u us o) ∙ places-tuple v us)

  -- what stands at a place is counted
  mutual
    counted : (y u t : Ty) → StandsAt v y u t → 0 < count u
    counted y u t (alone a b o e) = omega (arith, own_count, ap count (is_var u v o))
    counted y u t (inside a b us ts o p s) = omega (arith, all_counted y us ts s, tuple_count u us o)

    all_counted : (y : Ty) (us ts : List Ty) → StandsIn v y us ts → 0 < count_all us
    all_counted y us ts (first u t vs ws s) = omega (arith, counted y u t s)
    all_counted y us ts (later u t vs ws s) = omega (arith, all_counted y vs ws s)

  -- where there is one place at most it is found
  mutual
    one_found : (y u t : Ty) → StandsAt v y u t → count u ≤ 1 → find_outer opaque v u t ≡ Some y
    one_found y u t (alone a b o e) l =
        ap (λ z. find_outer opaque v z t) (is_var u v o) ∙ L.outer-find-var opaque v t v ∙ ap (λ b. cond b (Some t) None) (same_number v v refl) ∙ ap (λ (z : Ty). Some z) e
    one_found y u t (inside a b us ts o p s) l =
        ap (λ z. find_outer opaque v z t) (is_tuple u us o) ∙ L.outer-find-tuple opaque v t us ∙ ap (λ z. search us (parts_of (raised opaque z))) p
        ∙ all_found y us ts s (omega (arith, l, tuple_count u us o))

    pub all_found : (y : Ty) (us ts : List Ty) → StandsIn v y us ts → count_all us ≤ 1 → search us ts ≡ Some y
    all_found y us ts (first u t vs ws s) l = ap (λ o. or_else o (search vs ws)) (one_found y u t s (omega (arith, l)))
    all_found y us ts (later u t vs ws s) l =
        let c = all_counted y vs ws s in
        ap (λ o. or_else o (search vs ws)) (bare u (omega (arith, l, c)) t) ∙ all_found y vs ws s (omega (arith, l))

-- a variable that is used once has one place
pub once_few : (p : Places) → kind_of p ≡ once → p.covariant ≤ 1
once_few p h = pick (nat_eq p.invariant 0) (nat_eq p.covariant 0) (nat_eq p.covariant 1) refl h
  where
    pick : (a b c : Bool) → nat_eq p.covariant 1 ≡ c → cond a (cond b unused (cond c once diagonal)) bound ≡ once → p.covariant ≤ 1
    pick false b c e h = cc
    pick true true c e h = cc
    pick true false true e h = grind (arith, e)
    pick true false false e h = cc
