-- Where a variable stands, its places, and its kind.
use Rattle.std.proofs.Common.{◌≡◌, ◌∙◌, sym, ap, subst, refl, ℕ, zero, suc, ◌+◌, ◌<◌, ◌≤◌, min, arith, Bool, true, false, ◌||◌, not, cond, nat_eq, nat_lt, List, [], ◌∷◌, map, length, get_or}
use Rattle.std.specs.List.{list_all, list_any}
use Rattle.jl_model.specs.declared.ty.Ty.{Ty}
use Rattle.jl_model.specs.declared.ty.Ty.TheViews as V
use Rattle.jl_model.specs.declared.ty.Ty.TheVariants as W
use Rattle.jl_model.specs.declared.ty.Bound.{Bound}
use Rattle.jl_model.specs.declared.ty.Written.{Written}
use Rattle.jl_model.specs.Kinds.{Places, Kind, places, plus, plus_all, below_nominal, kind_of, nowhere, unused, once, diagonal, bound}
use Rattle.jl_model.specs.Rows.{bound_places, free, kind, part_places, vars_in}
use Rattle.jl_model.specs.Refusals.{bound_types}
use Rattle.jl_model.specs.Usable.{stands_in, is_met}
use Rattle.jl_model.specs.Valid.{is_closed}
use Rattle.jl_model.proofs.TypeInduction.{Each, by_cases}
use Rattle.jl_model.proofs.PutLemmas.{and_l, and_r}
use Rattle.jl_sig.specs.Flags.{is_below}
use Rattle.jl_sig.proofs.KindLemmas.{places-any, places-union, places-tuple, places-nominal, places-var}
use Rattle.jl_sig.proofs.UsableLemmas.{stands-union, stands-tuple, stands-nominal, stands-var}
use Rattle.jl_sig.proofs.LiveLemmas.{has_place}

-- a variable that stands nowhere has no place
none_place : (v : ℕ) (ts : List Ty) → Each (λ t. stands_in v t ≡ false → ((places v t).covariant ≡ 0) × ((places v t).invariant ≡ 0)) ts → list_any (stands_in v) ts ≡ false
    → ((plus_all (map (places v) ts)).covariant ≡ 0) × ((plus_all (map (places v) ts)).invariant ≡ 0)
none_place v [] e h = (refl, refl)
none_place v (t ∷ ts) e h =
    let a = e.0 (or_l (stands_in v t) (list_any (stands_in v) ts) h) in
    let b = none_place v ts e.1 (or_r (stands_in v t) (list_any (stands_in v) ts) h) in
    (omega (arith, a.0, b.0), omega (arith, a.1, b.1))
  where
    or_l : (x y : Bool) → (x || y) ≡ false → x ≡ false
    or_l true y g = g
    or_l false y g = refl

    or_r : (x y : Bool) → (x || y) ≡ false → y ≡ false
    or_r true y g = absurd (let f : true ≡ false = g in cc)
    or_r false y g = g

abbrev Hidden : ℕ → Ty → Type 0
Hidden v t = stands_in v t ≡ false → ((places v t).covariant ≡ 0) × ((places v t).invariant ≡ 0)

moved : (p q : Places) → p ≡ q → (q.covariant ≡ 0) × (q.invariant ≡ 0) → (p.covariant ≡ 0) × (p.invariant ≡ 0)
moved p q e h = (ap (λ z. z.covariant) e ∙ h.0, ap (λ z. z.invariant) e ∙ h.1)

hidden : (v : ℕ) (t : Ty) → Hidden v t
hidden v = by_cases (Hidden v) (record {
  any = λ h. moved (places v W.Any) nowhere (places-any v) (refl, refl);
  union = λ ts e h. moved (places v (V.Union ts)) (plus_all (map (places v) ts)) (places-union v ts) (none_place v ts e (sym (stands-union v ts) ∙ h));
  tuple = λ ts e h. moved (places v (V.Tuple ts)) (plus_all (map (places v) ts)) (places-tuple v ts) (none_place v ts e (sym (stands-tuple v ts) ∙ h));
  nominal = λ k ts e h.
      let g = none_place v ts e (sym (stands-nominal v k ts) ∙ h) in
      let p = places-nominal v k ts in
      (ap (λ z. z.covariant) p, (let q = ap (λ z. z.invariant) p in omega (arith, q, g.0, g.1)));
  var = λ w h. moved (places v (W.Var w)) (cond (nat_eq v w) (record { covariant = 1; invariant = 0 }) nowhere) (places-var v w) (off (nat_eq v w) (sym (stands-var v w) ∙ h));
})
  where
    off : (b : Bool) → b ≡ false → ((cond b (record { covariant = 1; invariant = 0 }) nowhere).covariant ≡ 0) × ((cond b (record { covariant = 1; invariant = 0 }) nowhere).invariant ≡ 0)
    off true e = absurd (let f : true ≡ false = e in cc)
    off false e = (refl, refl)

pub all_hidden : (v : ℕ) (ts : List Ty) → list_any (stands_in v) ts ≡ false → ((plus_all (map (places v) ts)).covariant ≡ 0) × ((plus_all (map (places v) ts)).invariant ≡ 0)
all_hidden v ts h = none_place v ts (each ts) h
  where
    each : (us : List Ty) → Each (Hidden v) us
    each [] = tt
    each (u ∷ us) = (hidden v u, each us)

-- and one that stands somewhere has one
pub all_had : (v : ℕ) (ts : List Ty) → list_any (stands_in v) ts ≡ true → 1 ≤ (plus_all (map (places v) ts)).covariant + (plus_all (map (places v) ts)).invariant
all_had v ts h = subst (λ (z : Places). 1 ≤ z.covariant + z.invariant) (places-tuple v ts) (has_place v (V.Tuple ts) (stands-tuple v ts ∙ h))

-- INVARIANT PLACES
zero_sum : (a b : ℕ) → not (nat_eq (a + b) 0) ≡ (not (nat_eq a 0) || not (nat_eq b 0))
zero_sum zero b = let e : nat_eq 0 0 ≡ true = grind arith in let f : 0 + b ≡ b = omega arith in ap (λ z. not (nat_eq z 0)) f ∙ sym (ap (λ z. not z || not (nat_eq b 0)) e)
zero_sum (suc a) b =
    let e : nat_eq (suc a) 0 ≡ false = grind arith in
    let f : nat_eq (suc a + b) 0 ≡ false = grind arith in
    ap not f ∙ sym (ap (λ z. not z || not (nat_eq b 0)) e)

not_zero : not (nat_eq 0 0) ≡ false
not_zero = let e : nat_eq 0 0 ≡ true = grind arith in ap not e

pub all_below : (v : ℕ) (ts : List Ty) → list_any (is_below v) ts ≡ not (nat_eq (plus_all (map (places v) ts)).invariant 0)
all_below v [] = sym not_zero
all_below v (t ∷ ts) = ap (λ z. is_below v t || z) (all_below v ts) ∙ sym (zero_sum (places v t).invariant (plus_all (map (places v) ts)).invariant)

abbrev of_places : Places → Bool
of_places p = not (nat_eq p.invariant 0)

pub below-any : (v : ℕ) → is_below v W.Any ≡ false
below-any v = ap of_places (places-any v) ∙ not_zero

pub below-union : (v : ℕ) (ts : List Ty) → is_below v (V.Union ts) ≡ list_any (is_below v) ts
below-union v ts = ap of_places (places-union v ts) ∙ sym (all_below v ts)

pub below-tuple : (v : ℕ) (ts : List Ty) → is_below v (V.Tuple ts) ≡ list_any (is_below v) ts
below-tuple v ts = ap of_places (places-tuple v ts) ∙ sym (all_below v ts)

pub below-nominal : (v k : ℕ) (ts : List Ty) → is_below v (V.Nominal k ts) ≡ list_any (stands_in v) ts
below-nominal v k ts = ap of_places (places-nominal v k ts) ∙ by (list_any (stands_in v) ts) refl
  where
    by : (b : Bool) → list_any (stands_in v) ts ≡ b → not (nat_eq ((plus_all (map (places v) ts)).covariant + (plus_all (map (places v) ts)).invariant) 0) ≡ list_any (stands_in v) ts
    by true e =
        let p = all_had v ts e in
        let f : nat_eq ((plus_all (map (places v) ts)).covariant + (plus_all (map (places v) ts)).invariant) 0 ≡ false = grind (arith, p) in
        ap not f ∙ sym e
    by false e =
        let p = all_hidden v ts e in
        let f : nat_eq ((plus_all (map (places v) ts)).covariant + (plus_all (map (places v) ts)).invariant) 0 ≡ true = grind (arith, p.0, p.1) in
        ap not f ∙ sym e

pub below-var : (v w : ℕ) → is_below v (W.Var w) ≡ false
below-var v w = ap of_places (places-var v w) ∙ by (nat_eq v w)
  where
    by : (b : Bool) → not (nat_eq (cond b (record { covariant = 1; invariant = 0 }) nowhere).invariant 0) ≡ false
    by true = not_zero
    by false = not_zero

-- BOUNDS
bound_sum : (v : ℕ) (bs : List Bound) → ((bound_places v bs).covariant ≡ (plus_all (map (places v) (bound_types bs))).covariant) × ((bound_places v bs).invariant ≡ (plus_all (map (places v) (bound_types bs))).invariant)
bound_sum v [] = (refl, refl)
bound_sum v (b ∷ bs) = let r = bound_sum v bs in (omega (arith, r.0), omega (arith, r.1))

pub high_stands : (v w : ℕ) (bs : List Bound) → v < length bs → stands_in w (get_or bs v free).high ≡ true → list_any (stands_in w) (bound_types bs) ≡ true
high_stands v w [] l h = absurd (omega (arith, l))
high_stands zero w (b ∷ bs) l h = ap (λ z. stands_in w b.low || (z || list_any (stands_in w) (bound_types bs))) h ∙ right (stands_in w b.low)
  where
    right : (x : Bool) → (x || true) ≡ true
    right true = refl
    right false = refl
high_stands (suc v) w (b ∷ bs) l h = ap (λ z. stands_in w b.low || (stands_in w b.high || z)) (high_stands v w bs (omega (arith, l)) h) ∙ right (stands_in w b.low) (stands_in w b.high)
  where
    right : (x y : Bool) → (x || (y || true)) ≡ true
    right true y = refl
    right false true = refl
    right false false = refl

-- where bounds have no variables, none stands in them
pub closed_stand : (v : ℕ) (ts : List Ty) → list_all is_closed ts ≡ true → list_any (stands_in v) ts ≡ false
closed_stand v [] h = refl
closed_stand v (t ∷ ts) h =
    ap (λ z. z || list_any (stands_in v) ts) (none (vars_in t) (and_l (is_closed t) (list_all is_closed ts) h)) ∙ closed_stand v ts (and_r (is_closed t) (list_all is_closed ts) h)
  where
    none : (ns : List ℕ) → nat_eq (length ns) 0 ≡ true → list_any (nat_eq v) ns ≡ false
    none [] e = refl
    none (m ∷ ms) e = absurd (let f : nat_eq (length (m ∷ ms)) 0 ≡ false = grind arith in let g : true ≡ false = sym e ∙ f in cc)

-- KINDS
abbrev by_numbers : ℕ → ℕ → Kind
by_numbers c i = cond (nat_eq i 0) (cond (nat_eq c 0) unused (cond (nat_eq c 1) once diagonal)) bound

kind_same : (p : Places) (c i : ℕ) → p.covariant ≡ c → p.invariant ≡ i → kind_of p ≡ by_numbers c i
kind_same p c i e f = ap (λ z. by_numbers z p.invariant) e ∙ ap (λ z. by_numbers c z) f

bound_numbers : (c i : ℕ) → 1 ≤ i → by_numbers c i ≡ bound
bound_numbers c i l = let e : nat_eq i 0 ≡ false = grind (arith, l) in ap (λ z. cond z (cond (nat_eq c 0) unused (cond (nat_eq c 1) once diagonal)) bound) e

pub unused_places : (p : Places) → p.covariant ≡ 0 → p.invariant ≡ 0 → kind_of p ≡ unused
unused_places p c i = rw (i, c) refl

module _ (w : Written) (v : ℕ) where
  abbrev pp : Places
  pp = part_places w v

  abbrev bp : Places
  bp = bound_places v w.vars

  -- one that stands in a bound, or has an invariant place in a component, is bound
  pub kind_stands : list_any (stands_in v) (bound_types w.vars) ≡ true → kind w v ≡ bound
  kind_stands h =
      let p = all_had v (bound_types w.vars) h in
      let q = bound_sum v w.vars in
      kind_same (plus pp (below_nominal bp)) (pp.covariant + 0) (pp.invariant + (bp.covariant + bp.invariant)) refl refl
      ∙ bound_numbers (pp.covariant + 0) (pp.invariant + (bp.covariant + bp.invariant)) (omega (arith, p, q.0, q.1))

  pub kind_below : 1 ≤ pp.invariant → kind w v ≡ bound
  kind_below l =
      kind_same (plus pp (below_nominal bp)) (pp.covariant + 0) (pp.invariant + (bp.covariant + bp.invariant)) refl refl
      ∙ bound_numbers (pp.covariant + 0) (pp.invariant + (bp.covariant + bp.invariant)) (omega (arith, l))

  -- one that stands in no bound has the kind that the components give
  pub kind_parts : list_any (stands_in v) (bound_types w.vars) ≡ false → kind w v ≡ kind_of pp
  kind_parts h =
      let p = all_hidden v (bound_types w.vars) h in
      let q = bound_sum v w.vars in
      kind_same (plus pp (below_nominal bp)) pp.covariant pp.invariant (omega arith) (omega (arith, p.0, p.1, q.0, q.1)) ∙ sym (kind_same pp pp.covariant pp.invariant refl refl)

  -- as the code tells it, which counts to two
  pub told_below : (i : ℕ) → i ≡ min pp.invariant 2 → 0 < i → bound ≡ kind w v
  told_below i e l = sym (kind_below (omega (arith, e, l)))

  told : (c i : ℕ) → c ≡ min pp.covariant 2 → i ≡ min pp.invariant 2 → i ≤ 0 → list_any (stands_in v) (bound_types w.vars) ≡ false → kind w v ≡ by_numbers pp.covariant 0
  told c i e f l h = kind_parts h ∙ kind_same pp pp.covariant 0 refl (omega (arith, f, l))

  pub told_unused : (c i : ℕ) → c ≡ min pp.covariant 2 → i ≡ min pp.invariant 2 → i ≤ 0 → list_any (stands_in v) (bound_types w.vars) ≡ false → c ≡ 0 → unused ≡ kind w v
  told_unused c i e f l h k =
      let z : nat_eq 0 0 ≡ true = grind arith in
      let y : nat_eq pp.covariant 0 ≡ true = grind (arith, e, k) in
      sym (told c i e f l h ∙ ap (λ b. cond b (cond (nat_eq pp.covariant 0) unused (cond (nat_eq pp.covariant 1) once diagonal)) bound) z ∙ ap (λ b. cond b unused (cond (nat_eq pp.covariant 1) once diagonal)) y)

  pub told_once : (c i : ℕ) → c ≡ min pp.covariant 2 → i ≡ min pp.invariant 2 → i ≤ 0 → list_any (stands_in v) (bound_types w.vars) ≡ false → c ≡ 1 → once ≡ kind w v
  told_once c i e f l h k =
      let z : nat_eq 0 0 ≡ true = grind arith in
      let y : nat_eq pp.covariant 0 ≡ false = grind (arith, e, k) in
      let x : nat_eq pp.covariant 1 ≡ true = grind (arith, e, k) in
      sym (told c i e f l h ∙ ap (λ b. cond b (cond (nat_eq pp.covariant 0) unused (cond (nat_eq pp.covariant 1) once diagonal)) bound) z ∙ ap (λ b. cond b unused (cond (nat_eq pp.covariant 1) once diagonal)) y
      ∙ ap (λ b. cond b once diagonal) x)

  pub told_diagonal : (c i : ℕ) → c ≡ min pp.covariant 2 → i ≡ min pp.invariant 2 → i ≤ 0 → list_any (stands_in v) (bound_types w.vars) ≡ false → (c ≡ 0 → ⊥) → (c ≡ 1 → ⊥) → diagonal ≡ kind w v
  told_diagonal c i e f l h k j =
      let m : 2 ≤ pp.covariant = most pp.covariant e in
      let z : nat_eq 0 0 ≡ true = grind arith in
      let y : nat_eq pp.covariant 0 ≡ false = grind (arith, m) in
      let x : nat_eq pp.covariant 1 ≡ false = grind (arith, m) in
      sym (told c i e f l h ∙ ap (λ b. cond b (cond (nat_eq pp.covariant 0) unused (cond (nat_eq pp.covariant 1) once diagonal)) bound) z ∙ ap (λ b. cond b unused (cond (nat_eq pp.covariant 1) once diagonal)) y
      ∙ ap (λ b. cond b once diagonal) x)
    where
      most : (x : ℕ) → c ≡ min x 2 → 2 ≤ x
      most zero q = absurd (k (omega (arith, q)))
      most (suc zero) q = absurd (j (omega (arith, q)))
      most (suc (suc x)) q = omega arith

  -- WHAT in_parts MATCH FINDS
  abbrev in_parts : Bool
  in_parts = list_any (stands_in v) w.parts

  abbrev in_bounds : Bool
  in_bounds = list_any (stands_in v) (bound_types w.vars)

  abbrev has_below : Bool
  has_below = list_any (is_below v) w.parts

  below_stands : has_below ≡ true → in_parts ≡ true
  below_stands h = by in_parts refl
    where
      by : (a : Bool) → in_parts ≡ a → in_parts ≡ true
      by true e = e
      by false e =
          let p = all_hidden v w.parts e in
          let f : nat_eq (plus_all (map (places v) w.parts)).invariant 0 ≡ true = grind (arith, p.1) in
          absurd (let g : false ≡ true = sym (ap not f) ∙ sym (all_below v w.parts) ∙ h in cc)

  met_bound : (c : Bool) → has_below ≡ c → not (nat_eq pp.invariant 0) ≡ cond c true false
  met_bound true e = sym (all_below v w.parts) ∙ e
  met_bound false e = sym (all_below v w.parts) ∙ e

  met_parts : (a c : Bool) → in_parts ≡ a → has_below ≡ c → is_met (kind_of pp) pp ≡ cond c true a
  met_parts a true e f =
      let g : not (nat_eq pp.invariant 0) ≡ true = sym (all_below v w.parts) ∙ f in
      let h : nat_eq pp.invariant 0 ≡ false = not_true (nat_eq pp.invariant 0) g in
      ap (λ z. is_met (cond z (cond (nat_eq pp.covariant 0) unused (cond (nat_eq pp.covariant 1) once diagonal)) bound) pp) h ∙ g
    where
      not_true : (b : Bool) → not b ≡ true → b ≡ false
      not_true true q = absurd (let r : false ≡ true = q in cc)
      not_true false q = refl
  met_parts true false e f =
      let g : not (nat_eq pp.invariant 0) ≡ false = sym (all_below v w.parts) ∙ f in
      let h : nat_eq pp.invariant 0 ≡ true = not_false (nat_eq pp.invariant 0) g in
      let p = all_had v w.parts e in
      let i : nat_eq pp.covariant 0 ≡ false = grind (arith, p, h) in
      ap (λ z. is_met (cond z (cond (nat_eq pp.covariant 0) unused (cond (nat_eq pp.covariant 1) once diagonal)) bound) pp) h
      ∙ ap (λ z. is_met (cond z unused (cond (nat_eq pp.covariant 1) once diagonal)) pp) i ∙ any (nat_eq pp.covariant 1)
    where
      not_false : (b : Bool) → not b ≡ false → b ≡ true
      not_false true q = refl
      not_false false q = absurd (let r : true ≡ false = q in cc)

      any : (b : Bool) → is_met (cond b once diagonal) pp ≡ true
      any true = refl
      any false = refl
  met_parts false false e f = let p = all_hidden v w.parts e in ap (λ z. is_met z pp) (unused_places pp p.0 p.1)

  pub met : is_met (kind w v) pp ≡ cond has_below true (cond in_bounds false in_parts)
  met = by in_bounds refl
    where
      by : (b : Bool) → in_bounds ≡ b → is_met (kind w v) pp ≡ cond has_below true (cond b false in_parts)
      by true e = ap (λ z. is_met z pp) (kind_stands e) ∙ met_bound has_below refl
      by false e = ap (λ z. is_met z pp) (kind_parts e) ∙ met_parts in_parts has_below refl refl

  -- it stands in no component
  pub met_none : in_parts ≡ false → false ≡ is_met (kind w v) pp
  met_none h = sym (met ∙ by has_below refl)
    where
      by : (c : Bool) → has_below ≡ c → cond has_below true (cond in_bounds false in_parts) ≡ false
      by true e = absurd (let f : true ≡ false = sym (below_stands e) ∙ h in cc)
      by false e = ap (λ z. cond z true (cond in_bounds false in_parts)) e ∙ ap (λ z. cond in_bounds false z) h ∙ same in_bounds
        where
          same : (b : Bool) → cond b false false ≡ false
          same true = refl
          same false = refl

  -- it stands in a component and in no bound
  pub met_free : in_parts ≡ true → in_bounds ≡ false → true ≡ is_met (kind w v) pp
  met_free h k = sym (met ∙ ap (λ z. cond has_below true (cond z false in_parts)) k ∙ ap (λ z. cond has_below true z) h ∙ same has_below)
    where
      same : (b : Bool) → cond b true true ≡ true
      same true = refl
      same false = refl

  -- it stands in a bound
  pub met_below : (i : ℕ) → in_bounds ≡ true → i ≡ min pp.invariant 2 → nat_lt 0 i ≡ is_met (kind w v) pp
  met_below i h e = by (nat_eq pp.invariant 0) refl ∙ sym (ap (λ z. is_met z pp) (kind_stands h))
    where
      by : (c : Bool) → nat_eq pp.invariant 0 ≡ c → nat_lt 0 i ≡ not (nat_eq pp.invariant 0)
      by true q = let r : nat_lt 0 i ≡ false = grind (arith, e, q) in r ∙ sym (ap not q)
      by false q = let r : nat_lt 0 i ≡ true = grind (arith, e, q) in r ∙ sym (ap not q)

  -- what is met, where no variable stands in bounds
  pub met_closed : in_bounds ≡ false → is_met (kind w v) pp ≡ in_parts
  met_closed h = met ∙ ap (λ z. cond has_below true (cond z false in_parts)) h ∙ by has_below refl
    where
      by : (c : Bool) → has_below ≡ c → cond has_below true in_parts ≡ in_parts
      by true e = ap (λ z. cond z true in_parts) e ∙ sym (below_stands e)
      by false e = ap (λ z. cond z true in_parts) e
