-- A variable that a body may use stands at the places that its kind tells.
use Rattle.std.proofs.Common.{◌≡◌, ◌∙◌, sym, ap, subst, refl, ℕ, zero, suc, ◌+◌, ◌<◌, arith, Bool, true, false, not, cond, nat_eq, eqb-true, List, [], ◌∷◌, map, ◌⊎◌, inl, inr}
use Rattle.std.specs.List.{flat_map, list_all, list_any}
use Rattle.jl_model.specs.declared.ty.Ty.{Ty}
use Rattle.jl_model.specs.declared.ty.Ty.TheOpen.{Any}
use Rattle.jl_model.specs.declared.ty.Ty.TheViews.{rolls-Any}
use Rattle.jl_model.specs.declared.ty.Ty.TheViews as V
use Rattle.jl_model.specs.declared.ty.Ty.TheVariants as W
use Rattle.jl_model.specs.declared.ty.Ty.TheFolds.{fold-roll-Ty}
use Rattle.jl_model.specs.declared.ty.Written.{Written}
use Rattle.jl_model.specs.Kinds.{unused, once, diagonal, bound, Places, places, places_step, plus, plus_all, below_nominal, kind_of}
use Rattle.jl_model.specs.Rows.{kind, part_places, bound_places, vars_in}
use Rattle.jl_model.specs.Usable.{stands_in, is_met, is_outside_unions, is_usable}
use Rattle.jl_model.specs.Found.{outer, inner}
use Rattle.jl_model.proofs.TypeInduction.{Each, by_cases}
use Rattle.jl_model.proofs.PutLemmas.{and_l, and_r}
use Rattle.jl_sig.proofs.UsableLemmas.{stands-union, outside-union, outside-tuple}
use Rattle.jl_match.proofs.ListLemmas.{In, in_left, in_right, any_in, in_any}
use Rattle.jl_search.proofs.FindLemmas as L
use Rattle.jl_match.proofs.KindLemmas.{places-tuple, places-nominal, places-var, lacking, lack_all, each_lacking}

-- a number is in a list, or not
in_or : (v : ℕ) (ns : List ℕ) → In v ns ⊎ (In v ns → ⊥)
in_or v ns = pick (list_any (nat_eq v) ns) refl
  where
    pick : (b : Bool) → list_any (nat_eq v) ns ≡ b → In v ns ⊎ (In v ns → ⊥)
    pick true e = inl (any_in v ns e)
    pick false e = inr (λ i. let f : true ≡ false = sym (in_any v ns i) ∙ e in cc)

not_both : (b : Bool) → not b ≡ true → b ≡ true → ⊥
not_both true h e = let f : false ≡ true = h in cc
not_both false h e = cc

module _ (s : Written) (v : ℕ) where
  -- outside unions it stands where it is counted
  abbrev Seen : Ty → Type 0
  Seen t = is_outside_unions v t ≡ true → (0 < (places v t).invariant → In v (inner t)) × (0 < (places v t).covariant → In v (outer t))

  abbrev AllSeen : List Ty → Type 0
  AllSeen ts = (0 < (plus_all (map (places v) ts)).invariant → In v (flat_map inner ts)) × (0 < (plus_all (map (places v) ts)).covariant → In v (flat_map outer ts))

  some_of : (a b : ℕ) → 0 < a + b → (0 < a) ⊎ (0 < b)
  some_of zero b h = inr (omega (arith, h))
  some_of (suc a) b h = inl (omega arith)

  all_seen : (ts : List Ty) → Each Seen ts → list_all (is_outside_unions v) ts ≡ true → AllSeen ts
  all_seen [] e h = (λ l. absurd (omega (arith, l)), λ l. absurd (omega (arith, l)))
  all_seen (t ∷ ts) e h =
      let a = e.0 (and_l (is_outside_unions v t) (list_all (is_outside_unions v) ts) h) in
      let b = all_seen ts e.1 (and_r (is_outside_unions v t) (list_all (is_outside_unions v) ts) h) in (
        (λ l. elim (some_of (places v t).invariant (plus_all (map (places v) ts)).invariant l) [
          | inl i ↦ in_left v (inner t) (flat_map inner ts) (a.0 i)
          | inr j ↦ in_right v (inner t) (flat_map inner ts) (b.0 j)
        ]),
        (λ l. elim (some_of (places v t).covariant (plus_all (map (places v) ts)).covariant l) [
          | inl i ↦ in_left v (outer t) (flat_map outer ts) (a.1 i)
          | inr j ↦ in_right v (outer t) (flat_map outer ts) (b.1 j)
        ]),
      )

  union_seen : (ts : List Ty) → Seen (V.Union ts)
  union_seen ts h =
      let no : In v (vars_in (V.Union ts)) → ⊥ = λ i. not_both (list_any (stands_in v) ts) (sym (outside-union v ts) ∙ h) (sym (stands-union v ts) ∙ in_any v (vars_in (V.Union ts)) i) in
      let z = lacking s v (V.Union ts) no in
      (λ l. absurd (omega (arith, l, z)), λ l. absurd (omega (arith, l, z)))

  nominal_seen : (k : ℕ) (ts : List Ty) → Seen (V.Nominal k ts)
  nominal_seen k ts h =
      let e = places-nominal v k ts in (
        (λ l. subst (In v) (sym (L.inner-nominal k ts)) (elim (in_or v (flat_map vars_in ts)) [
          | inl i ↦ i
          | inr out ↦ (let z = lack_all s v ts (each_lacking s v ts) out in absurd (omega (arith, l, z, ap (λ p. p.invariant) e)))
        ])),
        (λ l. absurd (omega (arith, l, ap (λ p. p.covariant) e))),
      )

  var_seen : (w : ℕ) → Seen (W.Var w)
  var_seen w h =
      pick (nat_eq v w) refl
    where
      pick : (b : Bool) → nat_eq v w ≡ b → (0 < (places v (W.Var w)).invariant → In v (inner (W.Var w))) × (0 < (places v (W.Var w)).covariant → In v (outer (W.Var w)))
      pick true e =
          let q : places v (W.Var w) ≡ record { covariant = 1; invariant = 0 } = places-var v w ∙ ap (λ b. cond b (record { covariant = 1; invariant = 0 }) (record { covariant = 0; invariant = 0 })) e in
          (λ l. absurd (omega (arith, l, ap (λ p. p.invariant) q)), λ l. subst (In v) (sym (L.outer-var w)) (inl (eqb-true v w e)))
      pick false e =
          let q : places v (W.Var w) ≡ record { covariant = 0; invariant = 0 } = places-var v w ∙ ap (λ b. cond b (record { covariant = 1; invariant = 0 }) (record { covariant = 0; invariant = 0 })) e in
          (λ l. absurd (omega (arith, l, ap (λ p. p.invariant) q)), λ l. absurd (omega (arith, l, ap (λ p. p.covariant) q)))

  any_seen : Seen W.Any
  any_seen h =
      let q = ap (places v) (sym rolls-Any) ∙ fold-roll-Ty Places (places_step v) Any in
      (λ l. absurd (omega (arith, l, ap (λ p. p.invariant) q)), λ l. absurd (omega (arith, l, ap (λ p. p.covariant) q)))

  tuple_seen : (ts : List Ty) → Each Seen ts → Seen (V.Tuple ts)
  tuple_seen ts e h =
      let r = all_seen ts e (sym (outside-tuple v ts) ∙ h) in
      let q = places-tuple v ts in (
        (λ l. subst (In v) (sym (L.inner-tuple ts)) (r.0 (omega (arith, l, ap (λ p. p.invariant) q)))),
        (λ l. subst (In v) (sym (L.outer-tuple ts)) (r.1 (omega (arith, l, ap (λ p. p.covariant) q)))),
      )

  seen : (t : Ty) → Seen t
  seen = by_cases Seen (record { any = any_seen; union = λ ts e. union_seen ts; tuple = tuple_seen; nominal = λ k ts e. nominal_seen k ts; var = var_seen })

  each_seen : (ts : List Ty) → Each Seen ts
  each_seen [] = tt
  each_seen (t ∷ ts) = (seen t, each_seen ts)

-- a variable of another kind that is used has a covariant place
module _ (p : Places) where
  pub diagonal_place : kind_of p ≡ diagonal → 0 < p.covariant
  diagonal_place h = pick (nat_eq p.invariant 0) (nat_eq p.covariant 0) (nat_eq p.covariant 1) refl h
    where
      pick : (a b c : Bool) → nat_eq p.covariant 0 ≡ b → cond a (cond b unused (cond c once diagonal)) bound ≡ diagonal → 0 < p.covariant
      pick false b c e h = cc
      pick true true c e h = cc
      pick true false c e h = grind (arith, e)

  pub once_place : kind_of p ≡ once → 0 < p.covariant
  once_place h = pick (nat_eq p.invariant 0) (nat_eq p.covariant 0) (nat_eq p.covariant 1) refl h
    where
      pick : (a b c : Bool) → nat_eq p.covariant 0 ≡ b → cond a (cond b unused (cond c once diagonal)) bound ≡ once → 0 < p.covariant
      pick false b c e h = cc
      pick true true c e h = cc
      pick true false c e h = grind (arith, e)

-- where a match finds a bound variable, it has an invariant place
met_place : (p : Places) → is_met bound p ≡ true → 0 < p.invariant
met_place p h = pick (nat_eq p.invariant 0) refl h
  where
    pick : (b : Bool) → nat_eq p.invariant 0 ≡ b → not b ≡ true → 0 < p.invariant
    pick true e g = let f : false ≡ true = g in cc
    pick false e g = grind (arith, e)

module _ (s : Written) (v : ℕ) (usable : is_usable s v ≡ true) where
  met : is_met (kind s v) (part_places s v) ≡ true
  met = and_l (is_met (kind s v) (part_places s v)) (list_all (is_outside_unions v) s.parts) usable

  outside : list_all (is_outside_unions v) s.parts ≡ true
  outside = and_r (is_met (kind s v) (part_places s v)) (list_all (is_outside_unions v) s.parts) usable

  abbrev all_places : Places
  all_places = plus (part_places s v) (below_nominal (bound_places v s.vars))

  pub bound_stands : kind s v ≡ bound → In v (flat_map inner s.parts)
  bound_stands k = (all_seen s v s.parts (each_seen s v s.parts) outside).0 (met_place (part_places s v) (subst (λ z. is_met z (part_places s v) ≡ true) k met))

  pub diagonal_stands : kind s v ≡ diagonal → In v (flat_map outer s.parts)
  diagonal_stands k = (all_seen s v s.parts (each_seen s v s.parts) outside).1 (let l = diagonal_place all_places k in omega (arith, l))

  pub once_stands : kind s v ≡ once → In v (flat_map outer s.parts)
  once_stands k = (all_seen s v s.parts (each_seen s v s.parts) outside).1 (let l = once_place all_places k in omega (arith, l))
