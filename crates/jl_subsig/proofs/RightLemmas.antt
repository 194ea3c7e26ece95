-- What holds of a right row by its making.
use Rattle.std.proofs.Common.{◌≡◌, ◌∙◌, sym, ap, subst, refl, ℕ, zero, suc, ◌+◌, ◌<◌, ◌≤◌, arith, true, false, cond, nat_eq, List, [], ◌∷◌, map, length, get_or, ◌⊎◌, inl, inr}
use Rattle.std.specs.List.{flat_map, list_all}
use Rattle.jl_model.specs.declared.ty.Ty.{Ty}
use Rattle.jl_model.specs.declared.ty.Ty.TheOpen.{Ty-F, Any, Union, Tuple, Nominal, Var}
use Rattle.jl_model.specs.declared.ty.Ty.TheViews.{out-Ty, outs-Any, outs-Nominal, outs-Var}
use Rattle.jl_model.specs.declared.ty.Ty.TheViews as V
use Rattle.jl_model.specs.declared.ty.Ty.TheVariants as W
use Rattle.jl_model.specs.declared.ty.Written.{Written}
use Rattle.jl_model.specs.declared.ty.Bound.{Bound}
use Rattle.jl_model.specs.Kinds.{Places, Kind, unused, once, diagonal, bound, nowhere, plus, plus_all, below_nominal, places, kind_of}
use Rattle.jl_model.specs.Rows.{forms, alts, free, width, low, high, kind, part_places, bound_places, atom, root, place_of, components, vars_in, Stands, Occurs, standing, bounding}
use Rattle.jl_model.specs.Subtype.{Table}
use Rattle.jl_model.specs.Signature.{Row, IsRow, top, by_kind}
use Rattle.jl_model.specs.Valid.{is_closed}
use Rattle.jl_model.proofs.TypeInduction.{Each, by_cases}
use Rattle.jl_model.proofs.FormLemmas.{is_any, is_union, is_tuple, is_nominal, is_var, alts-nominal, vars-any, vars-union, vars-tuple, vars-nominal, vars-var}
use Rattle.jl_model.proofs.PutLemmas.{and_l, and_r}
use Rattle.jl_model.specs.Found.{outer, inner}
use Rattle.jl_sig.proofs.FitLemmas.{argument-union, argument-tuple, argument-nominal, component-union, component-tuple, component-nominal}
use Rattle.jl_subsume.specs.Scoped.{IsScoped, IsPlaced}
use Rattle.jl_model.specs.SigRefusals.{is_argument, is_component, bottom_form}
use Rattle.jl_search.proofs.HasLemmas.{Has, Picks, has_left, has_right, has_split, has_map, map_has, has_flat, flat_has, has_of, of_has, all_has, none_has, has_none}
use Rattle.jl_subsume.proofs.FormsLemmas.{any_form, union_form, tuple_form, nominal_form, var_form}
use Rattle.jl_search.proofs.PickLemmas.{choices_has}
use Rattle.jl_search.proofs.PartLemmas.{Plain, plain_any, plain_tuple, plain_nominal, plain_var, AllPlain, all_end, all_more, all_map}
use Rattle.jl_subsume.proofs.MadeLemmas.{Seeds}
use Rattle.jl_search.proofs.LiftLemmas.{each_has}
use Rattle.jl_subsume.proofs.ScopeLemmas.{IsSlot, slot_diagonal, slot_atom, SmallN, row_plain_n, own_shape, is_less, root_own, root_atom, at_atoms, alts_within, diagonal_small, bound_small, occurs_small, high_before, low_none, top_within, top_other, top_diagonal, which, has_or, places-union, places-tuple, places-nominal, places-var}
use Rattle.jl_search.proofs.FindLemmas as L
use Rattle.jl_search.specs.Open.{IsOpen, AreOpen, closed, variable, applied, open_end, open_more}
use Rattle.jl_search.proofs.MeetLemmas.{AnyNumber}
use Rattle.jl_search.proofs.FoundLemmas.{RightRow}
use Rattle.jl_search.proofs.ValueLaw.{IsNamed, IsBare, IsOut}

-- allowed places
no_length : (ns : List ℕ) → nat_eq (length ns) 0 ≡ true → ns ≡ []
no_length [] h = refl
no_length (n ∷ ns) h = let e : length (n ∷ ns) ≡ 0 = grind (arith, h) in absurd (omega arith)

flat_none : (ts : List Ty) → list_all is_closed ts ≡ true → flat_map vars_in ts ≡ []
flat_none ts h = none_has (flat_map vars_in ts) (λ v i. let r = flat_has vars_in ts v i in has_none (vars_in r.0) v (no_length (vars_in r.0) (all_has is_closed ts r.0 h r.1)) r.2)

abbrev Told : Ty → Type 0
Told t = is_argument t ≡ true → IsOpen t

all_told : (ts : List Ty) → Each Told ts → list_all is_argument ts ≡ true → AreOpen ts
all_told [] e h = open_end
all_told (t ∷ ts) e h = open_more t ts (e.0 (and_l (is_argument t) (list_all is_argument ts) h)) (all_told ts e.1 (and_r (is_argument t) (list_all is_argument ts) h))

argument_of : (t : Ty) → is_argument t ≡ true → IsOpen t
argument_of = by_cases Told (record {
  any = λ h. closed W.Any vars-any;
  union = λ ts e h. closed (V.Union ts) (vars-union ts ∙ flat_none ts (sym (argument-union ts) ∙ h));
  tuple = λ ts e h. closed (V.Tuple ts) (vars-tuple ts ∙ flat_none ts (sym (argument-tuple ts) ∙ h));
  nominal = λ k ts e h. applied (V.Nominal k ts) k ts (outs-Nominal k ts) (all_told ts e (sym (argument-nominal k ts) ∙ h));
  var = λ v h. variable (W.Var v) v (outs-Var v);
})

pub arguments_of : (ts : List Ty) → list_all is_argument ts ≡ true → AreOpen ts
arguments_of [] h = open_end
arguments_of (t ∷ ts) h = open_more t ts (argument_of t (and_l (is_argument t) (list_all is_argument ts) h)) (arguments_of ts (and_r (is_argument t) (list_all is_argument ts) h))

closed_arguments : (ts : List Ty) → flat_map vars_in ts ≡ [] → AreOpen ts
closed_arguments [] h = open_end
closed_arguments (t ∷ ts) h =
    open_more t ts (closed t (none_has (vars_in t) (λ v i. has_none (flat_map vars_in (t ∷ ts)) v h (has_left (vars_in t) (flat_map vars_in ts) v i))))
    (closed_arguments ts (none_has (flat_map vars_in ts) (λ v i. has_none (flat_map vars_in (t ∷ ts)) v h (has_right (vars_in t) (flat_map vars_in ts) v i))))

-- a component, or a type without variables
abbrev pub Allowed : Ty → Type 0
Allowed t = (is_component t ≡ true) ⊎ (vars_in t ≡ [])

allowed_member : (t : Ty) (ts : List Ty) → is_component t ≡ list_all is_component ts → vars_in t ≡ flat_map vars_in ts → Allowed t → (u : Ty) → Has ts u → Allowed u
allowed_member t ts c e (inl a) u h = inl (all_has is_component ts u (sym c ∙ a) h)
allowed_member t ts c e (inr a) u h = inr (none_has (vars_in u) (λ v i. has_none (vars_in t) v a (subst (λ z. Has z v) (sym e) (has_flat vars_in ts u v h i))))

allowed_nominal : (k : ℕ) (ts : List Ty) → Allowed (V.Nominal k ts) → AreOpen ts
allowed_nominal k ts (inl a) = arguments_of ts (sym (component-nominal k ts) ∙ a)
allowed_nominal k ts (inr a) = closed_arguments ts (sym (vars-nominal k ts) ∙ a)

pub allowed_seeds : Seeds Allowed AreOpen
allowed_seeds = record {
  union = λ ts a u h. allowed_member (V.Union ts) ts (component-union ts) (vars-union ts) a u h;
  tuple = λ ts a u h. allowed_member (V.Tuple ts) ts (component-tuple ts) (vars-tuple ts) a u h;
  nominal = allowed_nominal;
}

-- variables at invariant and at covariant places
inner_within : (x : Ty) (v : ℕ) → Has (inner x) v → Has (vars_in x) v
inner_within x v = by_cases (λ x. Has (inner x) v → Has (vars_in x) v) (record {
  any = λ h. absurd (subst (λ z. Has z v) L.inner-any h);
  union = λ ts e h. absurd (subst (λ z. Has z v) (L.inner-union ts) h);
  tuple = λ ts e h. subst (λ z. Has z v) (sym (vars-tuple ts)) (flat_in ts e (subst (λ z. Has z v) (L.inner-tuple ts) h));
  nominal = λ k ts e h. subst (λ z. Has z v) (sym (vars-nominal k ts)) (subst (λ z. Has z v) (L.inner-nominal k ts) h);
  var = λ w h. absurd (subst (λ z. Has z v) (L.inner-var w) h);
}) x
  where
    flat_in : (ts : List Ty) → Each (λ x. Has (inner x) v → Has (vars_in x) v) ts → Has (flat_map inner ts) v → Has (flat_map vars_in ts) v
    flat_in ts e h = let r = flat_has inner ts v h in has_flat vars_in ts r.0 v r.1 (each_has (λ x. Has (inner x) v → Has (vars_in x) v) ts e r.0 r.1 r.2)

abbrev total : Places → ℕ
total p = p.covariant + p.invariant

module _ (v : ℕ) where
  sum_total : (ts : List Ty) (t : Ty) → Has ts t → total (places v t) ≤ total (plus_all (map (places v) ts))
  sum_total [] t h = absurd h
  sum_total (u ∷ us) t (inl e) = let d : total (places v u) ≡ total (places v t) = ap (λ z. total (places v z)) e in omega (arith, d)
  sum_total (u ∷ us) t (inr h) = let d = sum_total us t h in omega (arith, d)

  sum_invariant : (ts : List Ty) (t : Ty) → Has ts t → (places v t).invariant ≤ (plus_all (map (places v) ts)).invariant
  sum_invariant [] t h = absurd h
  sum_invariant (u ∷ us) t (inl e) = let d : (places v u).invariant ≡ (places v t).invariant = ap (λ z. (places v z).invariant) e in omega (arith, d)
  sum_invariant (u ∷ us) t (inr h) = let d = sum_invariant us t h in omega (arith, d)

  abbrev Placed : Ty → Type 0
  Placed t = Has (vars_in t) v → 1 ≤ total (places v t)

  placed_each : (ts : List Ty) → Each Placed ts → Has (flat_map vars_in ts) v → 1 ≤ total (plus_all (map (places v) ts))
  placed_each ts e h =
      let r = flat_has vars_in ts v h in
      let a = each_has Placed ts e r.0 r.1 r.2 in
      let b = sum_total ts r.0 r.1 in omega (arith, a, b)

  own_place : (w : ℕ) → w ≡ v → 1 ≤ total (cond (nat_eq v w) (record { covariant = 1; invariant = 0 }) nowhere)
  own_place w e = let g : nat_eq v w ≡ true = grind (arith, e) in let i : 1 ≤ 1 = omega arith in rw g i

  has_place : (t : Ty) → Placed t
  has_place = by_cases Placed (record {
    any = λ h. absurd (subst (λ z. Has z v) vars-any h);
    union = λ ts e h. subst (λ z. 1 ≤ total z) (sym (places-union v ts)) (placed_each ts e (subst (λ z. Has z v) (vars-union ts) h));
    tuple = λ ts e h. subst (λ z. 1 ≤ total z) (sym (places-tuple v ts)) (placed_each ts e (subst (λ z. Has z v) (vars-tuple ts) h));
    nominal = λ k ts e h.
        let a = placed_each ts e (subst (λ z. Has z v) (vars-nominal k ts) h) in
        let c : 1 ≤ total (below_nominal (plus_all (map (places v) ts))) = omega (arith, a) in
        subst (λ z. 1 ≤ total z) (sym (places-nominal v k ts)) c;
    var = λ w h. subst (λ z. 1 ≤ total z) (sym (places-var v w)) (elim (subst (λ z. Has z v) (vars-var w) h) [ inl e ↦ own_place w e | inr b ↦ absurd b ]);
  })

module _ (b : Written) (scope : IsScoped b) where
  abbrev places_in : ℕ → List Ty
  places_in v = place_of b v (kind b v)

  -- at a covariant place of a variable there is no invariant one
  abbrev InBound : ℕ → Type 0
  InBound v = (w : ℕ) × Has (vars_in (high b w)) v

  bare_place : (w : ℕ) (k : Kind) (x : Ty) → Has (place_of b w k) x → (v : ℕ) → Has (inner x) v → InBound v
  bare_place w unused x h v i = absurd h
  bare_place w once x h v i = (w, alts_within (high b w) x h v (inner_within x v i))
  bare_place w diagonal x (inl e) v i = absurd (subst (λ z. Has z v) (ap inner (sym e) ∙ L.inner-var w) i)
  bare_place w diagonal x (inr h) v i = absurd h
  bare_place w bound x h v i = let r = at_atoms b w (alts (high b w)) x h in absurd (subst (λ z. Has z v) (ap inner r.1 ∙ L.inner-var (atom b w r.0)) i)

  abbrev Counted : ℕ → Ty → Type 0
  Counted v p = (x : Ty) → Has (forms places_in p) x → Has (inner x) v → (1 ≤ (places v p).invariant) ⊎ InBound v

  counted_picks : (v : ℕ) (ps : List Ty) → Each (Counted v) ps → (us : List Ty) → Picks us (map (forms places_in) ps) → Has (flat_map inner us) v → (1 ≤ (plus_all (map (places v) ps)).invariant) ⊎ InBound v
  counted_picks v [] e [] p h = absurd h
  counted_picks v [] e (u ∷ us) p h = absurd p
  counted_picks v (q ∷ qs) e [] p h = absurd h
  counted_picks v (q ∷ qs) e (u ∷ us) p h = elim (has_split (inner u) (flat_map inner us) v h) [
    | inl i ↦ elim (e.0 u p.0 i) [ inl a ↦ inl (omega (arith, a)) | inr a ↦ inr a ]
    | inr i ↦ elim (counted_picks v qs e.1 us p.1 i) [ inl a ↦ inl (omega (arith, a)) | inr a ↦ inr a ]
  ]

  counted_nominal : (v k : ℕ) (ts : List Ty) → Has (flat_map vars_in ts) v → 1 ≤ (below_nominal (plus_all (map (places v) ts))).invariant
  counted_nominal v k ts h =
      let r = flat_has vars_in ts v h in
      let a = has_place v r.0 r.2 in
      let c = sum_total v ts r.0 r.1 in omega (arith, a, c)

  counted : (v : ℕ) (p : Ty) → Counted v p
  counted v = by_cases (Counted v) (record {
    any = λ x h i. absurd (subst (λ z. Has z v) (ap inner (sym (any_form places_in x h)) ∙ L.inner-any) i);
    union = λ ts e x h i.
        let r = union_form places_in ts x h in
        let c = sum_invariant v ts r.0 r.1 in
        elim (each_has (Counted v) ts e r.0 r.1 x r.2 i) [
          | inl a ↦ let d : 1 ≤ (plus_all (map (places v) ts)).invariant = omega (arith, a, c) in inl (subst (λ z. 1 ≤ z.invariant) (sym (places-union v ts)) d)
          | inr a ↦ inr a
        ];
    tuple = λ ts e x h i.
        let r = tuple_form places_in ts x h in
        elim (counted_picks v ts e r.0 r.1 (subst (λ z. Has z v) (ap inner (sym r.2) ∙ L.inner-tuple r.0) i)) [
          | inl a ↦ inl (subst (λ z. 1 ≤ z.invariant) (sym (places-tuple v ts)) a)
          | inr a ↦ inr a
        ];
    nominal = λ k ts e x h i.
        inl (subst (λ z. 1 ≤ z.invariant) (sym (places-nominal v k ts)) (counted_nominal v k ts (subst (λ z. Has z v) (ap inner (sym (nominal_form places_in k ts x h)) ∙ L.inner-nominal k ts) i)));
    var = λ w x h i. inr (bare_place w (kind b w) x (var_form places_in w x h) v i);
  })

  each_counted : (v : ℕ) (ps : List Ty) → Each (Counted v) ps
  each_counted v [] = tt
  each_counted v (p ∷ ps) = (counted v p, each_counted v ps)

  bound_of : (p : Places) → 1 ≤ p.invariant → kind_of p ≡ bound
  bound_of p h = let g : nat_eq p.invariant 0 ≡ false = grind (arith, h) in rw g refl

  -- a variable in a bound is a bound one
  bound_total : (v : ℕ) (bs : List Bound) (i : ℕ) → Has (vars_in (get_or bs i free).high) v → 1 ≤ total (bound_places v bs)
  bound_total v [] i h = absurd (has_none (vars_in W.Any) v vars-any h)
  bound_total v (c ∷ bs) zero h = let a = has_place v c.high h in omega (arith, a)
  bound_total v (c ∷ bs) (suc i) h = let a = bound_total v bs i h in omega (arith, a)

  pub high_kind : (w v : ℕ) → Has (vars_in (high b w)) v → kind b v ≡ bound
  high_kind w v h =
      let a = bound_total v b.vars w h in
      bound_of (plus (part_places b v) (below_nominal (bound_places v b.vars))) (omega (arith, a))

  part_kind : (v : ℕ) → 1 ≤ (part_places b v).invariant → kind b v ≡ bound
  part_kind v a = bound_of (plus (part_places b v) (below_nominal (bound_places v b.vars))) (omega (arith, a))

-- each variable of a part stands at an invariant or at a covariant place
module _ (D : ℕ → Type 0) (Q : List Ty → Type 0) where
  mutual
    stands : (u : Ty) → Plain D Q u → (w : ℕ) → Has (vars_in u) w → Has (inner u) w ⊎ Has (outer u) w
    stands u (plain_any t j) w i = absurd (subst (λ z. Has z w) (ap vars_in (is_any u j) ∙ vars-any) i)
    stands u (plain_var t v j d) w i =
        let m = is_var u v j in
        inr (subst (λ z. Has z w) (sym (ap outer m ∙ L.outer-var v)) (subst (λ z. Has z w) (ap vars_in m ∙ vars-var v) i))
    stands u (plain_tuple t ts j k) w i =
        let m = is_tuple u ts j in
        elim (all_stand ts k w (subst (λ z. Has z w) (ap vars_in m ∙ vars-tuple ts) i)) [
          | inl x ↦ inl (subst (λ z. Has z w) (sym (ap inner m ∙ L.inner-tuple ts)) x)
          | inr x ↦ inr (subst (λ z. Has z w) (sym (ap outer m ∙ L.outer-tuple ts)) x)
        ]
    stands u (plain_nominal t m ts j k) w i =
        let e = is_nominal u m ts j in
        inl (subst (λ z. Has z w) (sym (ap inner e ∙ L.inner-nominal m ts)) (subst (λ z. Has z w) (ap vars_in e ∙ vars-nominal m ts) i))

    all_stand : (us : List Ty) → AllPlain D Q us → (w : ℕ) → Has (flat_map vars_in us) w → Has (flat_map inner us) w ⊎ Has (flat_map outer us) w
    all_stand us all_end w i = absurd i
    all_stand us (all_more u vs p q) w i = elim (has_split (vars_in u) (flat_map vars_in vs) w i) [
      | inl x ↦ elim (stands u p w x) [ inl y ↦ inl (has_left (inner u) (flat_map inner vs) w y) | inr y ↦ inr (has_left (outer u) (flat_map outer vs) w y) ]
      | inr x ↦ elim (all_stand vs q w x) [ inl y ↦ inl (has_right (inner u) (flat_map inner vs) w y) | inr y ↦ inr (has_right (outer u) (flat_map outer vs) w y) ]
    ]

  mutual
    outer_slot : (u : Ty) → Plain D Q u → (w : ℕ) → Has (outer u) w → D w × Has (vars_in u) w
    outer_slot u (plain_any t j) w i = absurd (subst (λ z. Has z w) (ap outer (is_any u j) ∙ L.outer-any) i)
    outer_slot u (plain_var t v j d) w i =
        let m = is_var u v j in
        let k = subst (λ z. Has z w) (ap outer m ∙ L.outer-var v) i in
        (elim k [ inl e ↦ subst D e d | inr x ↦ absurd x ], subst (λ z. Has z w) (sym (ap vars_in m ∙ vars-var v)) k)
    outer_slot u (plain_tuple t ts j k) w i =
        let m = is_tuple u ts j in
        let r = outer_slots ts k w (subst (λ z. Has z w) (ap outer m ∙ L.outer-tuple ts) i) in
        (r.0, subst (λ z. Has z w) (sym (ap vars_in m ∙ vars-tuple ts)) r.1)
    outer_slot u (plain_nominal t m ts j k) w i = absurd (subst (λ z. Has z w) (ap outer (is_nominal u m ts j) ∙ L.outer-nominal m ts) i)

    outer_slots : (us : List Ty) → AllPlain D Q us → (w : ℕ) → Has (flat_map outer us) w → D w × Has (flat_map vars_in us) w
    outer_slots us all_end w i = absurd i
    outer_slots us (all_more u vs p q) w i = elim (has_split (outer u) (flat_map outer vs) w i) [
      | inl x ↦ let r = outer_slot u p w x in (r.0, has_left (vars_in u) (flat_map vars_in vs) w r.1)
      | inr x ↦ let r = outer_slots vs q w x in (r.0, has_right (vars_in u) (flat_map vars_in vs) w r.1)
    ]

-- a bound with variables is a nominal type
pub allowed_bound : (b : Written) (scope : IsScoped b) (v : ℕ) → Allowed (high b v)
allowed_bound b scope v = elim (own_shape b scope v).high [
  | inl e ↦ inr e
  | inr r ↦ inl (ap is_component (is_nominal (high b v) r.0 r.1 r.2) ∙ component-nominal r.0 r.1 ∙ r.5)
]

module _ (n : Table) (b : Written) (scope : IsScoped b) (placed : IsPlaced b) (r : Row) (row : IsRow n b r) where
  abbrev Shape : List Ty → Type 0
  Shape = SmallN b scope AreOpen Allowed allowed_seeds (allowed_bound b scope)

  plains : AllPlain (IsSlot b) Shape r.parts
  plains = row_plain_n b scope AreOpen Allowed allowed_seeds (allowed_bound b scope) n r row (λ t h. inl (all_has is_component b.parts t placed h))

  kind_bound : (v : ℕ) → Has (flat_map inner r.parts) v → kind b v ≡ bound
  kind_bound v h = elim (counted_picks b scope v b.parts (each_counted b scope v b.parts) r.parts (choices_has (map (forms (places_in b scope)) b.parts) r.parts (has_of (components b) r.parts row.parts)) h) [
    | inl a ↦ part_kind b scope v a
    | inr a ↦ high_kind b scope a.0 v a.1
  ]

  inner_root : (v : ℕ) → Has (flat_map inner r.parts) v → root b v ≡ v
  inner_root v h = root_own b v (bound_small b scope v (kind_bound v h))

  occurs_of : (w : ℕ) → Has (flat_map vars_in r.parts) w → Stands b (root b w) r.parts
  occurs_of w i = of_has (map (root b) (flat_map vars_in r.parts)) (root b w) (has_map (root b) (flat_map vars_in r.parts) w i)

  abbrev AtOuter : ℕ → Type 0
  AtOuter v = (w : ℕ) × Has (flat_map outer r.parts) w × (root b w ≡ v)

  place_at : (v w : ℕ) → Has (flat_map vars_in r.parts) w → root b w ≡ v → Has (flat_map inner r.parts) v ⊎ AtOuter v
  place_at v w i e = elim (all_stand (IsSlot b) Shape r.parts plains w i) [
    | inl x ↦ let q : w ≡ v = sym (inner_root w x) ∙ e in inl (subst (λ z. Has (flat_map inner r.parts) z) q x)
    | inr x ↦ inr (w, x, e)
  ]

  find_place : (v : ℕ) → Stands b v r.parts → Has (flat_map inner r.parts) v ⊎ AtOuter v
  find_place v o = let m = map_has (root b) (flat_map vars_in r.parts) v (has_of (map (root b) (flat_map vars_in r.parts)) v o) in place_at v m.0 m.1 m.2

  inner_in : (v : ℕ) → Has (flat_map inner r.parts) v → Has (flat_map vars_in r.parts) v
  inner_in v h = let m = flat_has inner r.parts v h in has_flat vars_in r.parts m.0 v m.1 (inner_within m.0 v m.2)

  slot_root : (w : ℕ) → IsSlot b w → kind b (root b w) ≡ diagonal → root b w ≡ w
  slot_root w (slot_diagonal v l e) d = root_own b v l
  slot_root w (slot_atom v i l e h) d = let c : bound ≡ diagonal = sym (ap (kind b) (root_atom b v i l) ∙ e) ∙ d in cc

  pub right_row : RightRow b r
  right_row = record {
    forms = all_map (IsSlot b) AnyNumber Shape AreOpen (λ k d. tt) (λ xs q. q.1) r.parts plains;
    inner_kind = λ v h. (kind_bound v h, inner_root v h);
    places = find_place;
    occur = λ w h. occurs_of w (outer_slots (IsSlot b) Shape r.parts plains w h).1;
    occur_inner = λ v h. subst (λ z. Stands b z r.parts) (inner_root v h) (occurs_of v (inner_in v h));
    outer_kind = λ w h d. slot_root w (outer_slots (IsSlot b) Shape r.parts plains w h).0 d;
    diagonal_root = λ w h d. root_own b w (diagonal_small b scope w d);
    range = λ v o. is_less v (width b) (occurs_small b scope n r row v o);
  }

  -- THE UPPER BOUNDS.
  one_alternative : (v k : ℕ) (ts : List Ty) → out-Ty (high b v) ≡ Nominal k ts → alts (high b v) ≡ high b v ∷ []
  one_alternative v k ts e = let i = is_nominal (high b v) k ts e in ap alts i ∙ alts-nominal k ts ∙ ap (λ z. z ∷ []) (sym i)

  not_any : (v k : ℕ) (ts : List Ty) → out-Ty (high b v) ≡ Nominal k ts → (i : ℕ) → Has (alts (high b v)) (get_or (alts (high b v)) i W.Any) → i ≡ 0
  not_any v k ts e zero h = refl
  not_any v k ts e (suc i) h =
      let s = one_alternative v k ts e in
      let j : get_or (alts (high b v)) (suc i) W.Any ≡ W.Any = ap (λ z. get_or z (suc i) W.Any) s in
      let a : Has (high b v ∷ []) W.Any = subst (λ z. Has z W.Any) s (subst (λ z. Has (alts (high b v)) z) j h) in
      elim a [ inl q ↦ (let c : Nominal k ts ≡ Any = sym e ∙ ap out-Ty q ∙ outs-Any in cc) | inr q ↦ absurd q ]

  top_is : (v k : ℕ) (ts : List Ty) → out-Ty (high b v) ≡ Nominal k ts → Occurs b v r.parts → (kind b v ≡ diagonal → Stands b v r.parts) → top b r v ≡ high b v
  top_is v k ts e o st = elim (which (kind b v)) [
    | inl d ↦
        let c = row.chosen v d (st d) in
        let h : Has (high b v ∷ []) (r.chosen v) = subst (λ z. Has z (r.chosen v)) (one_alternative v k ts e) (has_of (alts (high b v)) (r.chosen v) c.0) in
        top_diagonal n b r v d ∙ elim h [ inl q ↦ sym q | inr q ↦ absurd q ]
    | inr f ↦ top_other n b r v f
  ]

  -- a diagonal variable of the row stands there
  stands_in : (v : ℕ) (row : List Ty) → row ≡ r.parts → kind b v ≡ diagonal → Occurs b v row → Stands b v r.parts
  stands_in v row e d (standing x y o) = subst (λ z. Stands b v z) e o
  stands_in v row e d (bounding x w y o c) = let k : diagonal ≡ bound = sym d ∙ high_kind b scope w v (has_of (vars_in (high b w)) v c) in cc

  named_at : (v : ℕ) → v < width b → (k : ℕ) (ts : List Ty) → out-Ty (high b v) ≡ Nominal k ts → list_all is_argument ts ≡ true → low b v ≡ V.Union [] → top b r v ≡ high b v → IsNamed b r v
  named_at v l k ts e g low_is t =
      let i = is_nominal (high b v) k ts e in
      let vs : vars_in (high b v) ≡ flat_map vars_in ts = ap vars_in i ∙ vars-nominal k ts in
      record {
        number = k;
        args = ts;
        is_high = i;
        is_top = t;
        is_low = low_is;
        opened = arguments_of ts g;
        before = λ w h. high_before b scope v w (subst (λ z. Has z w) (sym vs) h);
        kinds = λ w h. high_kind b scope v w (subst (λ z. Has z w) (sym vs) h);
        atom_root = root_atom b v 0 l;
        atom_kind = λ d. (let a = diagonal_small b scope (atom b v 0) d in let c : width b ≤ atom b v 0 = omega arith in absurd (omega (arith, a, c)));
        one_atom = λ w h q d. one_at v l k ts e w (outer_slots (IsSlot b) Shape r.parts plains w h).0 q d;
      }
    where
      one_at : (v : ℕ) → v < width b → (k : ℕ) (ts : List Ty) → out-Ty (high b v) ≡ Nominal k ts → (w : ℕ) → IsSlot b w → root b w ≡ v → kind b v ≡ bound → w ≡ atom b v 0
      one_at v l k ts e w (slot_diagonal x y z) q d =
          let i : x ≡ v = sym (root_own b x y) ∙ q in
          let c : diagonal ≡ bound = sym z ∙ ap (kind b) i ∙ d in cc
      one_at v l k ts e w (slot_atom x j y z h) q d =
          let i : x ≡ v = sym (root_atom b x j y) ∙ q in
          let c : j ≡ 0 = not_any v k ts e j (subst (λ m. Has (alts (high b m)) (get_or (alts (high b m)) j W.Any)) i h) in
          ap (λ m. atom b m j) i ∙ ap (atom b v) c

  bottom_is : (t : Ty) (x : Ty-F Ty) → out-Ty t ≡ x → bottom_form x ≡ true → t ≡ V.Union []
  bottom_is t Any e h = let c : false ≡ true = h in cc
  bottom_is t (Union []) e h = is_union t [] e
  bottom_is t (Union (u ∷ us)) e h = let c : false ≡ true = h in cc
  bottom_is t (Tuple us) e h = let c : false ≡ true = h in cc
  bottom_is t (Nominal k us) e h = let c : false ≡ true = h in cc
  bottom_is t (Var v) e h = let c : false ≡ true = h in cc

  top_bare : (v : ℕ) → vars_in (high b v) ≡ [] → vars_in (top b r v) ≡ []
  top_bare v e = none_has (vars_in (top b r v)) (λ w h. has_none (vars_in (high b v)) w e (top_within n b r scope row v w h))

  -- of a diagonal variable that stands nowhere
  out_at : (v : ℕ) → v < width b → kind b v ≡ diagonal → (Stands b v r.parts → ⊥) → IsOut b r v
  out_at v l d f = record {
    absent = λ o. f (stands_in v r.parts refl d o);
    top_none = ap vars_in (top_diagonal n b r v d ∙ row.other v f) ∙ vars-any;
    low_none = low_none b scope v;
    atom_root = root_atom b v 0 l;
  }

  stands_or : (v : ℕ) → Stands b v r.parts ⊎ (Stands b v r.parts → ⊥)
  stands_or v = elim (has_or (map (root b) (flat_map vars_in r.parts)) v) [
    | inl h ↦ inl (of_has (map (root b) (flat_map vars_in r.parts)) v h)
    | inr f ↦ inr (λ o. f (has_of (map (root b) (flat_map vars_in r.parts)) v o))
  ]

  pub right_bounds : (v : ℕ) → v < width b → (IsNamed b r v ⊎ IsBare b r v) ⊎ IsOut b r v
  right_bounds v l = elim (own_shape b scope v).high [
    | inl e ↦ inl (inr (record { high_none = e; top_none = top_bare v e; low_none = low_none b scope v }))
    | inr k ↦ by_kind_of k.0 k.1 k.2 k.5 (bottom_is (low b v) (out-Ty (low b v)) refl k.4) (which (kind b v))
  ]
    where
      by_kind_of : (k : ℕ) (ts : List Ty) → out-Ty (high b v) ≡ Nominal k ts → list_all is_argument ts ≡ true → low b v ≡ V.Union [] → (kind b v ≡ diagonal) ⊎ ((t u : Ty) → by_kind (kind b v) t u ≡ u)
          → (IsNamed b r v ⊎ IsBare b r v) ⊎ IsOut b r v
      by_kind_of k ts e g low_is (inr f) = inl (inl (named_at v l k ts e g low_is (top_other n b r v f)))
      by_kind_of k ts e g low_is (inl d) = elim (stands_or v) [
        | inl o ↦ inl (inl (named_at v l k ts e g low_is (top_is v k ts e (standing v r.parts o) (λ x. o))))
        | inr f ↦ inr (out_at v l d f)
      ]
