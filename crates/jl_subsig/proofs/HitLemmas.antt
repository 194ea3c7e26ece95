-- What is found in left parts is a part of them.
use Rattle.std.proofs.Common.{◌≡◌, sym, subst, refl, ℕ, Bool, true, false, cond, nat_eq, eqb-true, List, [], ◌∷◌, map, Option, None, Some, inl}
use Rattle.std.specs.List.{flat_map}
use Rattle.jl_model.specs.declared.ty.Ty.{Ty}
use Rattle.jl_model.specs.declared.ty.Ty.TheViews.{out-Ty}
use Rattle.jl_model.specs.declared.ty.Ty.TheViews as V
use Rattle.jl_model.specs.declared.ty.Ty.TheVariants as W
use Rattle.jl_model.specs.Subtype.{Table, Fixed}
use Rattle.jl_model.proofs.TypeInduction.{Each, by_cases}
use Rattle.jl_model.specs.Found.{first, or_else, raised, parts_of, arguments_of, ancestor, find_arg, find_inner, find_outer, outer}
use Rattle.jl_search.proofs.HasLemmas.{Has, has_left, has_right}
use Rattle.jl_search.proofs.FindLemmas as L

-- what is found, if anything
abbrev pub Hit : (Ty → Type 0) → Option Ty → Type 0
Hit P None = Unit {0}
Hit P (Some y) = P y

pub hit_map : (P Q : Ty → Type 0) → ((y : Ty) → P y → Q y) → (o : Option Ty) → Hit P o → Hit Q o
hit_map P Q f None h = tt
hit_map P Q f (Some y) h = f y h

pub hit_or : (P : Ty → Type 0) (o p : Option Ty) → Hit P o → Hit P p → Hit P (or_else o p)
hit_or P None p a b = b
hit_or P (Some y) p a b = a

first_hit : (P Q : Ty → Type 0) (F : Ty → Ty → Option Ty) (us ts : List Ty) → Each (λ u. (t : Ty) → P t → Hit Q (F u t)) us → Each P ts → Hit Q (first (map F us) ts)
first_hit P Q F [] ts e h = tt
first_hit P Q F (u ∷ us) [] e h = tt
first_hit P Q F (u ∷ us) (t ∷ ts) e h = hit_or Q (F u t) (first (map F us) ts) (e.0 t h.0) (first_hit P Q F us ts e.1 h.1)

var_hit : (P : Ty → Type 0) (b : Bool) (t : Ty) → P t → Hit P (cond b (Some t) None)
var_hit P true t h = h
var_hit P false t h = tt

module _ (n : Table) (g : Fixed) (P Q : Ty → Type 0) (parts : (t : Ty) → P t → Each P (parts_of (raised g (out-Ty t)))) (above : (m : ℕ) (t : Ty) → P t → Each Q (ancestor n m (raised g (out-Ty t))))
    (arguments : (t : Ty) → Q t → Each Q (arguments_of (out-Ty t))) (v : ℕ) where
  arg_hit : (u : Ty) (t : Ty) → Q t → Hit Q (find_arg v u t)
  arg_hit = by_cases (λ u. (t : Ty) → Q t → Hit Q (find_arg v u t)) (record {
    any = λ t h. subst (Hit Q) (sym (L.arg-any v t)) tt;
    union = λ us e t h. subst (Hit Q) (sym (L.arg-union v t us)) tt;
    tuple = λ us e t h. subst (Hit Q) (sym (L.arg-tuple v t us)) tt;
    nominal = λ k us e t h. subst (Hit Q) (sym (L.arg-nominal v t k us)) (first_hit Q Q (find_arg v) us (arguments_of (out-Ty t)) e (arguments t h));
    var = λ w t h. subst (Hit Q) (sym (L.arg-var v t w)) (var_hit Q (nat_eq v w) t h);
  })

  each_arg : (us : List Ty) → Each (λ u. (t : Ty) → Q t → Hit Q (find_arg v u t)) us
  each_arg [] = tt
  each_arg (u ∷ us) = (arg_hit u, each_arg us)

  -- in arguments
  pub arg_hits : (us ts : List Ty) → Each Q ts → Hit Q (first (map (find_arg v) us) ts)
  arg_hits us ts h = first_hit Q Q (find_arg v) us ts (each_arg us) h

  inner_hit : (u : Ty) (t : Ty) → P t → Hit Q (find_inner n g v u t)
  inner_hit = by_cases (λ u. (t : Ty) → P t → Hit Q (find_inner n g v u t)) (record {
    any = λ t h. subst (Hit Q) (sym (L.inner-find-any n g v t)) tt;
    union = λ us e t h. subst (Hit Q) (sym (L.inner-find-union n g v t us)) tt;
    tuple = λ us e t h. subst (Hit Q) (sym (L.inner-find-tuple n g v t us)) (first_hit P Q (find_inner n g v) us (parts_of (raised g (out-Ty t))) e (parts t h));
    nominal = λ m us e t h. subst (Hit Q) (sym (L.inner-find-nominal n g v t m us)) (first_hit Q Q (find_arg v) us (ancestor n m (raised g (out-Ty t))) (each_arg us) (above m t h));
    var = λ w t h. subst (Hit Q) (sym (L.inner-find-var n g v t w)) tt;
  })

  each_inner : (us : List Ty) → Each (λ u. (t : Ty) → P t → Hit Q (find_inner n g v u t)) us
  each_inner [] = tt
  each_inner (u ∷ us) = (inner_hit u, each_inner us)

  -- at an invariant place
  pub inner_hits : (us ts : List Ty) → Each P ts → Hit Q (first (map (find_inner n g v) us) ts)
  inner_hits us ts h = first_hit P Q (find_inner n g v) us ts (each_inner us) h

  -- at a covariant place, which the variable then has
  abbrev Out : List ℕ → Ty → Type 0
  Out ns y = P y × Has ns v

  first_out : (us ts : List Ty) → Each (λ u. (t : Ty) → P t → Hit (Out (outer u)) (find_outer g v u t)) us → Each P ts → Hit (Out (flat_map outer us)) (first (map (find_outer g v) us) ts)
  first_out [] ts e h = tt
  first_out (u ∷ us) [] e h = tt
  first_out (u ∷ us) (t ∷ ts) e h =
      hit_or (Out (flat_map outer (u ∷ us))) (find_outer g v u t) (first (map (find_outer g v) us) ts)
      (hit_map (Out (outer u)) (Out (flat_map outer (u ∷ us))) (λ y q. (q.0, has_left (outer u) (flat_map outer us) v q.1)) (find_outer g v u t) (e.0 t h.0))
      (hit_map (Out (flat_map outer us)) (Out (flat_map outer (u ∷ us))) (λ y q. (q.0, has_right (outer u) (flat_map outer us) v q.1)) (first (map (find_outer g v) us) ts) (first_out us ts e.1 h.1))

  var_out : (w : ℕ) (b : Bool) → nat_eq v w ≡ b → (t : Ty) → P t → Hit (Out (w ∷ [])) (cond b (Some t) None)
  var_out w true e t h = (h, inl (sym (eqb-true v w e)))
  var_out w false e t h = tt

  outer_hit : (u : Ty) (t : Ty) → P t → Hit (Out (outer u)) (find_outer g v u t)
  outer_hit = by_cases (λ u. (t : Ty) → P t → Hit (Out (outer u)) (find_outer g v u t)) (record {
    any = λ t h. subst (Hit (Out (outer W.Any))) (sym (L.outer-find-any g v t)) tt;
    union = λ us e t h. subst (Hit (Out (outer (V.Union us)))) (sym (L.outer-find-union g v t us)) tt;
    tuple = λ us e t h. subst (λ z. Hit (Out z) (find_outer g v (V.Tuple us) t)) (sym (L.outer-tuple us))
        (subst (Hit (Out (flat_map outer us))) (sym (L.outer-find-tuple g v t us)) (first_out us (parts_of (raised g (out-Ty t))) e (parts t h)));
    nominal = λ m us e t h. subst (Hit (Out (outer (V.Nominal m us)))) (sym (L.outer-find-nominal g v t m us)) tt;
    var = λ w t h. subst (λ z. Hit (Out z) (find_outer g v (W.Var w) t)) (sym (L.outer-var w)) (subst (Hit (Out (w ∷ []))) (sym (L.outer-find-var g v t w)) (var_out w (nat_eq v w) refl t h));
  })

  each_outer : (us : List Ty) → Each (λ u. (t : Ty) → P t → Hit (Out (outer u)) (find_outer g v u t)) us
  each_outer [] = tt
  each_outer (u ∷ us) = (outer_hit u, each_outer us)

  pub outer_hits : (us ts : List Ty) → Each P ts → Hit (λ y. P y × Has (flat_map outer us) v) (first (map (find_outer g v) us) ts)
  outer_hits us ts h = first_out us ts (each_outer us) h
