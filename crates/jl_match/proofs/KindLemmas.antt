-- The kinds of the variables at the places of a component.
use Rattle.std.proofs.Common.{◌≡◌, ◌∙◌, sym, ap, subst, refl, ℕ, zero, suc, ◌+◌, ◌<◌, ◌≤◌, arith, Bool, true, false, cond, nat_eq, eqb-true, nat_lt, List, [], ◌∷◌, ◌++◌, map, get_or, inl, inr}
use Rattle.std.specs.List.{flat_map, list_all}
use Rattle.jl_model.specs.declared.ty.Ty.{Ty}
use Rattle.jl_model.specs.declared.ty.Ty.TheOpen.{Any, Union, Tuple, Nominal, Var}
use Rattle.jl_model.specs.declared.ty.Ty.TheViews.{out-Ty, rolls-Any, rolls-Union, rolls-Tuple, rolls-Nominal, rolls-Var}
use Rattle.jl_model.specs.declared.ty.Ty.TheViews as V
use Rattle.jl_model.specs.declared.ty.Ty.TheVariants as W
use Rattle.jl_model.specs.declared.ty.Ty.TheFolds.{fold-roll-Ty}
use Rattle.jl_model.specs.declared.ty.Bound.{Bound}
use Rattle.jl_model.specs.declared.ty.Written.{Written}
use Rattle.jl_model.specs.Kinds.{Places, Kind, places, places_step, plus, plus_all, below_nominal, kind_of, bound, unused}
use Rattle.jl_model.specs.Rows.{free, width, high, kind, part_places, bound_places, vars_in}
use Rattle.jl_model.specs.Refusals.{bound_types}
use Rattle.jl_model.proofs.TypeInduction.{Each, by_cases}
use Rattle.jl_model.proofs.FormLemmas.{is_union, is_tuple, is_nominal, is_var, vars-any, vars-union, vars-tuple, vars-nominal, vars-var}
use Rattle.jl_model.proofs.PutLemmas.{and_l, and_r}
use Rattle.jl_sig.specs.Prepared.{HasOwnVariables}
use Rattle.jl_sig.proofs.OwnLemmas.{own_bounds, own_parts}
use Rattle.jl_match.specs.KeptRow.{IsComponent, AreComponents, any, variable, union, tuple, nominal, components_end, components_more, with_bounds}
use Rattle.jl_search.specs.Open.{EachVar, AreOpen}
use Rattle.jl_match.proofs.ListLemmas.{In, in_left, in_right, in_either, each_of}

-- equations
pub places-any : (v : ℕ) → places v W.Any ≡ record { covariant = 0; invariant = 0 }
places-any v = ap (places v) (sym rolls-Any) ∙ fold-roll-Ty Places (places_step v) Any

pub places-union : (v : ℕ) (ts : List Ty) → places v (V.Union ts) ≡ plus_all (map (places v) ts)
places-union v ts = ap (places v) (sym (rolls-Union ts)) ∙ fold-roll-Ty Places (places_step v) (Union ts)

pub places-tuple : (v : ℕ) (ts : List Ty) → places v (V.Tuple ts) ≡ plus_all (map (places v) ts)
places-tuple v ts = ap (places v) (sym (rolls-Tuple ts)) ∙ fold-roll-Ty Places (places_step v) (Tuple ts)

pub places-nominal : (v k : ℕ) (ts : List Ty) → places v (V.Nominal k ts) ≡ below_nominal (plus_all (map (places v) ts))
places-nominal v k ts = ap (places v) (sym (rolls-Nominal k ts)) ∙ fold-roll-Ty Places (places_step v) (Nominal k ts)

pub places-var : (v w : ℕ) → places v (W.Var w) ≡ cond (nat_eq v w) (record { covariant = 1; invariant = 0 }) (record { covariant = 0; invariant = 0 })
places-var v w = ap (places v) (sym (rolls-Var w)) ∙ fold-roll-Ty Places (places_step v) (Var w)

abbrev pub size : Places → ℕ
size p = p.covariant + p.invariant

-- a variable that stands in a type has a place there
module _ (v : ℕ) where
  abbrev Counted : Ty → Type 0
  Counted t = In v (vars_in t) → 0 < size (places v t)

  count_all : (ts : List Ty) → Each Counted ts → In v (flat_map vars_in ts) → 0 < size (plus_all (map (places v) ts))
  count_all [] e i = absurd i
  count_all (t ∷ ts) e i = elim (in_either v (vars_in t) (flat_map vars_in ts) i) [
    | inl j ↦ let h = e.0 j in omega (arith, h)
    | inr j ↦ let h = count_all ts e.1 j in omega (arith, h)
  ]

  one_place : (w : ℕ) → In v (w ∷ []) → 0 < size (places v (W.Var w))
  one_place w (inl e) =
      let h : nat_eq v w ≡ true = grind (arith, e) in
      let q : places v (W.Var w) ≡ record { covariant = 1; invariant = 0 } = places-var v w ∙ ap (λ b. cond b (record { covariant = 1; invariant = 0 }) (record { covariant = 0; invariant = 0 })) h in
      omega (arith, ap size q)
  one_place w (inr i) = absurd i

  counted : (t : Ty) → Counted t
  counted = by_cases Counted (record {
    any = λ i. absurd (subst (In v) vars-any i);
    union = λ ts e i. omega (arith, count_all ts e (subst (In v) (vars-union ts) i), ap size (places-union v ts));
    tuple = λ ts e i. omega (arith, count_all ts e (subst (In v) (vars-tuple ts) i), ap size (places-tuple v ts));
    nominal = λ k ts e i. omega (arith, count_all ts e (subst (In v) (vars-nominal k ts) i), ap size (places-nominal v k ts));
    var = λ w i. one_place w (subst (In v) (vars-var w) i);
  })

  each_counted : (ts : List Ty) → Each Counted ts
  each_counted [] = tt
  each_counted (t ∷ ts) = (counted t, each_counted ts)

  pub below_nominal_place : (k : ℕ) (ts : List Ty) → In v (flat_map vars_in ts) → 0 < (places v (V.Nominal k ts)).invariant
  below_nominal_place k ts i = omega (arith, count_all ts (each_counted ts) i, ap (λ p. p.invariant) (places-nominal v k ts))

abbrev one_if : Bool → ℕ
one_if true = 1
one_if false = 0

-- how often a number stands among some
abbrev pub count : ℕ → List ℕ → ℕ
count v [] = 0
count v (n ∷ ns) = one_if (nat_eq v n) + count v ns

count_append : (v : ℕ) (ms ns : List ℕ) → count v (ms ++ ns) ≡ count v ms + count v ns
count_append v [] ns = omega arith
count_append v (m ∷ ms) ns = let h = count_append v ms ns in omega (arith, h)

in_count : (v : ℕ) (ns : List ℕ) → In v ns → 0 < count v ns
in_count v [] i = absurd i
in_count v (n ∷ ns) (inl e) =
    let h : nat_eq v n ≡ true = grind (arith, e) in
    let c = ap one_if h in
    omega (arith, c)
in_count v (n ∷ ns) (inr i) = let h = in_count v ns i in omega (arith, h)

count_none : (v : ℕ) (ns : List ℕ) → (In v ns → ⊥) → count v ns ≡ 0
count_none v [] h = refl
count_none v (n ∷ ns) h = let c = off (nat_eq v n) refl in let r = count_none v ns (λ i. h (inr i)) in omega (arith, c, r)
  where
    off : (b : Bool) → nat_eq v n ≡ b → one_if (nat_eq v n) ≡ 0
    off true e = absurd (h (inl (eqb-true v n e)))
    off false e = ap one_if e

-- a variable has as many places in a type as it stands there
module _ (v : ℕ) where
  abbrev Sized : Ty → Type 0
  Sized t = size (places v t) ≡ count v (vars_in t)

  sizes : (ts : List Ty) → Each Sized ts → size (plus_all (map (places v) ts)) ≡ count v (flat_map vars_in ts)
  sizes [] e = refl
  sizes (t ∷ ts) e = let a = e.0 in let b = sizes ts e.1 in let c = count_append v (vars_in t) (flat_map vars_in ts) in omega (arith, a, b, c)

  one_size : (b : Bool) → size (cond b (record { covariant = 1; invariant = 0 }) (record { covariant = 0; invariant = 0 })) ≡ one_if b + 0
  one_size true = refl
  one_size false = refl

  sized : (t : Ty) → Sized t
  sized = by_cases Sized (record {
    any = ap size (places-any v) ∙ sym (ap (count v) vars-any);
    union = λ ts e. ap size (places-union v ts) ∙ sizes ts e ∙ sym (ap (count v) (vars-union ts));
    tuple = λ ts e. ap size (places-tuple v ts) ∙ sizes ts e ∙ sym (ap (count v) (vars-tuple ts));
    nominal = λ k ts e. (let a = sizes ts e in let p = ap size (places-nominal v k ts) in let q = ap (count v) (vars-nominal k ts) in omega (arith, a, p, q));
    var = λ w. ap size (places-var v w) ∙ one_size (nat_eq v w) ∙ sym (ap (count v) (vars-var w));
  })

  each_sized : (ts : List Ty) → Each Sized ts
  each_sized [] = tt
  each_sized (t ∷ ts) = (sized t, each_sized ts)

  bounds_size : (bs : List Bound) → size (bound_places v bs) ≡ count v (flat_map vars_in (bound_types bs))
  bounds_size [] = refl
  bounds_size (b ∷ bs) =
      let a = sized b.low in
      let c = sized b.high in
      let r = bounds_size bs in
      let p = count_append v (vars_in b.low) (vars_in b.high ++ flat_map vars_in (bound_types bs)) in
      let q = count_append v (vars_in b.high) (flat_map vars_in (bound_types bs)) in
      omega (arith, a, c, r, p, q)

  high_in : (w : ℕ) (bs : List Bound) → In v (vars_in (get_or bs w free).high) → In v (flat_map vars_in (bound_types bs))
  high_in zero [] i = subst (In v) vars-any i
  high_in (suc w) [] i = subst (In v) vars-any i
  high_in zero (b ∷ bs) i = in_right v (vars_in b.low) (vars_in b.high ++ flat_map vars_in (bound_types bs)) (in_left v (vars_in b.high) (flat_map vars_in (bound_types bs)) i)
  high_in (suc w) (b ∷ bs) i =
      in_right v (vars_in b.low) (vars_in b.high ++ flat_map vars_in (bound_types bs)) (in_right v (vars_in b.high) (flat_map vars_in (bound_types bs)) (high_in w bs i))

-- the kind where the components have the places p, and the bounds so many
abbrev kind_with : Places → ℕ → Kind
kind_with p i = kind_of (plus p (record { covariant = 0; invariant = i }))

-- bounds with the same variables give the same kinds
pub same_kind : (s : Written) (bs : List Bound) → flat_map vars_in (bound_types bs) ≡ flat_map vars_in (bound_types s.vars) → (v : ℕ) → kind (with_bounds s bs) v ≡ kind s v
same_kind s bs e v = ap (kind_with (part_places s v)) (bounds_size v bs ∙ ap (count v) e ∙ sym (bounds_size v s.vars))

module _ (s : Written) where
  -- a variable of the signature with an invariant place
  abbrev pub Inner : ℕ → Type 0
  Inner v = (v < width s) × (kind s v ≡ bound)

  mutual
    -- a component, with the kinds of its variables
    pub data Comp : Ty → Type 0 where
      comp_any : (t : Ty) → out-Ty t ≡ Any → Comp t
      comp_var : (t : Ty) (v : ℕ) → out-Ty t ≡ Var v → v < width s → Comp t
      comp_union : (t : Ty) (ts : List Ty) → out-Ty t ≡ Union ts → Comps ts → Comp t
      comp_tuple : (t : Ty) (ts : List Ty) → out-Ty t ≡ Tuple ts → Comps ts → Comp t
      comp_nominal : (t : Ty) (k : ℕ) (ts : List Ty) → out-Ty t ≡ Nominal k ts → AreOpen ts → EachVar Inner (flat_map vars_in ts) → Comp t

    pub data Comps : List Ty → Type 0 where
      comps_end : Comps []
      comps_more : (t : Ty) (ts : List Ty) → Comp t → Comps ts → Comps (t ∷ ts)

  -- what is known of the variables of a type
  pub record Kinds (us : List Ty) : Type 0 where
    pub low : (v : ℕ) → In v (flat_map vars_in us) → v < width s
    pub inner : (v : ℕ) → 0 < (plus_all (map (places v) us)).invariant → kind s v ≡ bound

  head_kinds : (u : Ty) (us ws : List Ty) → ((v : ℕ) → vars_in u ≡ flat_map vars_in ws) → ((v : ℕ) → places v u ≡ plus_all (map (places v) ws)) → Kinds (u ∷ us) → Kinds ws
  head_kinds u us ws e f h = record {
    low = λ v i. h.low v (in_left v (vars_in u) (flat_map vars_in us) (subst (In v) (sym (e v)) i));
    inner = λ v l. h.inner v (omega (arith, l, ap (λ p. p.invariant) (f v)));
  }

  tail_kinds : (u : Ty) (us : List Ty) → Kinds (u ∷ us) → Kinds us
  tail_kinds u us h = record { low = λ v i. h.low v (in_right v (vars_in u) (flat_map vars_in us) i); inner = λ v l. h.inner v (omega (arith, l)) }

  mutual
    comps_of : (us : List Ty) → AreComponents us → Kinds us → Comps us
    comps_of us components_end h = comps_end
    comps_of us (components_more u ws p q) h = comps_more u ws (comp_of u p ws h) (comps_of ws q (tail_kinds u ws h))

    comp_of : (u : Ty) → IsComponent u → (ws : List Ty) → Kinds (u ∷ ws) → Comp u
    comp_of u (any t o) ws h = comp_any u o
    comp_of u (variable t v o) ws h =
        let i = is_var u v o in
        comp_var u v o (h.low v (in_left v (vars_in u) (flat_map vars_in ws) (subst (In v) (sym (ap vars_in i ∙ vars-var v)) (inl refl))))
    comp_of u (union t ts o p) ws h =
        let i = is_union u ts o in
        comp_union u ts o (comps_of ts p (head_kinds u ws ts (λ v. ap vars_in i ∙ vars-union ts) (λ v. ap (places v) i ∙ places-union v ts) h))
    comp_of u (tuple t ts o p) ws h =
        let i = is_tuple u ts o in
        comp_tuple u ts o (comps_of ts p (head_kinds u ws ts (λ v. ap vars_in i ∙ vars-tuple ts) (λ v. ap (places v) i ∙ places-tuple v ts) h))
    comp_of u (nominal t k ts o p) ws h =
        let i = is_nominal u k ts o in
        comp_nominal u k ts o p (each_of Inner (flat_map vars_in ts) (λ v j. (
          h.low v (in_left v (vars_in u) (flat_map vars_in ws) (subst (In v) (sym (ap vars_in i ∙ vars-nominal k ts)) j)),
          h.inner v (omega (arith, below_nominal_place v k ts j, ap (λ z. (places v z).invariant) i)),
        )))

  low_in : (ns : List ℕ) → list_all (λ v. nat_lt v (width s)) ns ≡ true → (v : ℕ) → In v ns → v < width s
  low_in [] h v i = absurd i
  low_in (n ∷ ns) h v (inl e) = let a : nat_lt n (width s) ≡ true = and_l (nat_lt n (width s)) (list_all (λ v. nat_lt v (width s)) ns) h in grind (arith, a, e)
  low_in (n ∷ ns) h v (inr i) = low_in ns (and_r (nat_lt n (width s)) (list_all (λ v. nat_lt v (width s)) ns) h) v i

  bound_kind : (p : Places) → 0 < p.invariant → kind_of p ≡ bound
  bound_kind p l = let e : nat_eq p.invariant 0 ≡ false = grind (arith, l) in rw e refl

  abbrev all_places : ℕ → Places
  all_places v = plus (part_places s v) (below_nominal (bound_places v s.vars))

  pub comps : list_all (λ v. nat_lt v (width s)) (flat_map vars_in s.parts) ≡ true → AreComponents s.parts → Comps s.parts
  comps own placed = comps_of s.parts placed (record { low = low_in (flat_map vars_in s.parts) own; inner = λ v l. bound_kind (all_places v) (omega (arith, l)) })

  -- a variable in an upper bound is bound
  pub bound_in : (v w : ℕ) → In v (vars_in (high s w)) → kind s v ≡ bound
  bound_in v w i =
      let a = in_count v (flat_map vars_in (bound_types s.vars)) (high_in v w s.vars i) in
      let b = bounds_size v s.vars in
      bound_kind (all_places v) (omega (arith, a, b))

  -- a variable past the own ones has no place
  abbrev pub Lacking : ℕ → Ty → Type 0
  Lacking v t = (In v (vars_in t) → ⊥) → size (places v t) ≡ 0

  pub lack_all : (v : ℕ) (ts : List Ty) → Each (Lacking v) ts → (In v (flat_map vars_in ts) → ⊥) → size (plus_all (map (places v) ts)) ≡ 0
  lack_all v [] e h = refl
  lack_all v (t ∷ ts) e h =
      omega (arith, e.0 (λ i. h (in_left v (vars_in t) (flat_map vars_in ts) i)), lack_all v ts e.1 (λ i. h (in_right v (vars_in t) (flat_map vars_in ts) i)))

  other_var : (v w : ℕ) → (In v (w ∷ []) → ⊥) → size (places v (W.Var w)) ≡ 0
  other_var v w h =
      let d : nat_eq v w ≡ false = differs (nat_eq v w) refl in
      ap size (places-var v w ∙ ap (λ b. cond b (record { covariant = 1; invariant = 0 }) (record { covariant = 0; invariant = 0 })) d)
    where
      differs : (b : Bool) → nat_eq v w ≡ b → b ≡ false
      differs true e = absurd (h (inl (eqb-true v w e)))
      differs false e = refl

  pub lacking : (v : ℕ) (t : Ty) → Lacking v t
  lacking v = by_cases (Lacking v) (record {
    any = λ h. ap size (places-any v);
    union = λ ts e h. ap size (places-union v ts) ∙ lack_all v ts e (λ i. h (subst (In v) (sym (vars-union ts)) i));
    tuple = λ ts e h. ap size (places-tuple v ts) ∙ lack_all v ts e (λ i. h (subst (In v) (sym (vars-tuple ts)) i));
    nominal = λ k ts e h. omega (arith, lack_all v ts e (λ i. h (subst (In v) (sym (vars-nominal k ts)) i)), ap size (places-nominal v k ts));
    var = λ w h. other_var v w (λ i. h (subst (In v) (sym (vars-var w)) i));
  })

  pub each_lacking : (v : ℕ) (ts : List Ty) → Each (Lacking v) ts
  each_lacking v [] = tt
  each_lacking v (t ∷ ts) = (lacking v t, each_lacking v ts)

  no_kind : (p : Places) → size p ≡ 0 → kind_of p ≡ unused
  no_kind p e =
      let a : nat_eq p.invariant 0 ≡ true = grind (arith, e) in
      let b : nat_eq p.covariant 0 ≡ true = grind (arith, e) in
      rw (a, b) refl

  pub own_only : HasOwnVariables s → (v : ℕ) → width s ≤ v → kind s v ≡ unused
  own_only own v l =
      let a = sizes v s.parts (each_sized v s.parts) ∙ count_none v (flat_map vars_in s.parts) (λ i. (let h = low_in (flat_map vars_in s.parts) (own_parts s own) v i in omega (arith, h, l))) in
      let b = bounds_size v s.vars ∙ count_none v (flat_map vars_in (bound_types s.vars)) (λ i. (let h = low_in (flat_map vars_in (bound_types s.vars)) (own_bounds s own) v i in omega (arith, h, l))) in
      no_kind (all_places v) (omega (arith, a, b))
