-- What holds of a kept row and of concrete types.
use Rattle.std.proofs.Common.{◌≡◌, ◌∙◌, sym, ap, subst, refl, ℕ, zero, suc, ◌<◌, ◌≤◌, arith, Bool, true, false, nat_eq, nat_lt, List, [], ◌∷◌, map, Some, ◌⊎◌, inl, inr}
use Rattle.std.proofs.Math.Nat.{mod-eq_of_lt}
use Rattle.std.specs.List.{flat_map}
use Rattle.jl_model.specs.declared.ty.Ty.{Ty}
use Rattle.jl_model.specs.declared.ty.Ty.TheViews.{out-Ty, outs-Tuple, outs-Nominal}
use Rattle.jl_model.specs.declared.ty.Ty.TheViews as V
use Rattle.jl_model.specs.declared.ty.Ty.TheVariants as W
use Rattle.jl_model.specs.declared.ty.Decl.{Decl}
use Rattle.jl_model.specs.declared.ty.Written.{Written}
use Rattle.jl_model.specs.Ancestors.{table_of}
use Rattle.jl_model.specs.Kinds.{unused, diagonal, bound}
use Rattle.jl_model.specs.Rows.{width, kind, root, vars_in, Stands, Occurs, standing, bounding}
use Rattle.jl_model.specs.Subtype.{Table, opaque, lifted, is_concrete}
use Rattle.jl_model.specs.Signature.{Row, Serves, Meet}
use Rattle.jl_model.specs.Normal.{IsNormal, AllNormal, none, more}
use Rattle.jl_model.specs.Refusals.{Declared}
use Rattle.jl_model.proofs.TypeInduction.{Each}
use Rattle.jl_model.proofs.FormLemmas.{is_any, is_tuple, is_nominal, is_var, vars-any, vars-tuple, vars-nominal, vars-var}
use Rattle.jl_model.proofs.AncestorLemmas.{true_each}
use Rattle.jl_model.proofs.TransLemmas.{far, near}
use Rattle.jl_model.proofs.NormalLemmas.{kids_nominal, kids_tuple}
use Rattle.jl_model.proofs.FillLemmas.{ancestors_normal}
use Rattle.jl_model.proofs.DeclaredLemmas.{declared_lawful}
use Rattle.jl_model.specs.Found.{outer, inner}
use Rattle.jl_match.specs.KeptRow.{IsPart, AreParts, any as part_any, variable as part_variable, tuple as part_tuple, nominal as part_nominal, parts_end, parts_more, AreKeptParts, IsKeptRow, AreConcrete, Fits}
use Rattle.jl_search.specs.Serving.{IsPlace}
use Rattle.jl_search.specs.Open.{EachVar}
use Rattle.jl_search.proofs.HasLemmas.{Has}
use Rattle.jl_search.proofs.MeetLemmas.{LeftForms}
use Rattle.jl_search.proofs.FoundLemmas.{RightRow}
use Rattle.jl_match.proofs.ListLemmas.{In, in_of, of_in, in_left, in_right, in_either, in_map, map_in, each_of, has_in, in_has}
use Rattle.jl_match.proofs.PartLemmas.{forms_of}
use Rattle.jl_search.proofs.FindLemmas as L
use Rattle.jl_match.proofs.ConcreteLemmas.{Concrete, concrete-var, parts_concrete}
use Rattle.jl_match.proofs.FitLemmas.{meet_below}

-- each variable of a part stands at a covariant or at an invariant place
module _ (n : Table) where
  mutual
    stands : (u : Ty) → IsPart n u → (w : ℕ) → In w (vars_in u) → In w (inner u) ⊎ In w (outer u)
    stands u (part_any t j) w i = absurd (subst (In w) (ap vars_in (is_any u j) ∙ vars-any) i)
    stands u (part_variable t v j) w i =
        let m = is_var u v j in
        inr (subst (In w) (sym (ap outer m ∙ L.outer-var v)) (subst (In w) (ap vars_in m ∙ vars-var v) i))
    stands u (part_tuple t ts j k) w i =
        let m = is_tuple u ts j in
        elim (all_stand ts k w (subst (In w) (ap vars_in m ∙ vars-tuple ts) i)) [
          | inl x ↦ inl (subst (In w) (sym (ap inner m ∙ L.inner-tuple ts)) x)
          | inr x ↦ inr (subst (In w) (sym (ap outer m ∙ L.outer-tuple ts)) x)
        ]
    stands u (part_nominal t m ts j k) w i =
        let e = is_nominal u m ts j in
        inl (subst (In w) (sym (ap inner e ∙ L.inner-nominal m ts)) (subst (In w) (ap vars_in e ∙ vars-nominal m ts) i))

    all_stand : (us : List Ty) → AreParts n us → (w : ℕ) → In w (flat_map vars_in us) → In w (flat_map inner us) ⊎ In w (flat_map outer us)
    all_stand us parts_end w i = absurd i
    all_stand us (parts_more u vs p q) w i = elim (in_either w (vars_in u) (flat_map vars_in vs) i) [
      | inl x ↦ elim (stands u p w x) [ inl y ↦ inl (in_left w (inner u) (flat_map inner vs) y) | inr y ↦ inr (in_left w (outer u) (flat_map outer vs) y) ]
      | inr x ↦ elim (all_stand vs q w x) [ inl y ↦ inl (in_right w (inner u) (flat_map inner vs) y) | inr y ↦ inr (in_right w (outer u) (flat_map outer vs) y) ]
    ]

  mutual
    inner_var : (u : Ty) → IsPart n u → (w : ℕ) → In w (inner u) → In w (vars_in u)
    inner_var u (part_any t j) w i = absurd (subst (In w) (ap inner (is_any u j) ∙ L.inner-any) i)
    inner_var u (part_variable t v j) w i = absurd (subst (In w) (ap inner (is_var u v j) ∙ L.inner-var v) i)
    inner_var u (part_tuple t ts j k) w i =
        let m = is_tuple u ts j in subst (In w) (sym (ap vars_in m ∙ vars-tuple ts)) (inner_vars ts k w (subst (In w) (ap inner m ∙ L.inner-tuple ts) i))
    inner_var u (part_nominal t m ts j k) w i =
        let e = is_nominal u m ts j in subst (In w) (sym (ap vars_in e ∙ vars-nominal m ts)) (subst (In w) (ap inner e ∙ L.inner-nominal m ts) i)

    inner_vars : (us : List Ty) → AreParts n us → (w : ℕ) → In w (flat_map inner us) → In w (flat_map vars_in us)
    inner_vars us parts_end w i = absurd i
    inner_vars us (parts_more u vs p q) w i = elim (in_either w (inner u) (flat_map inner vs) i) [
      | inl x ↦ in_left w (vars_in u) (flat_map vars_in vs) (inner_var u p w x)
      | inr x ↦ in_right w (vars_in u) (flat_map vars_in vs) (inner_vars vs q w x)
    ]

  mutual
    outer_var : (u : Ty) → IsPart n u → (w : ℕ) → In w (outer u) → In w (vars_in u)
    outer_var u (part_any t j) w i = absurd (subst (In w) (ap outer (is_any u j) ∙ L.outer-any) i)
    outer_var u (part_variable t v j) w i = let m = is_var u v j in subst (In w) (sym (ap vars_in m ∙ vars-var v)) (subst (In w) (ap outer m ∙ L.outer-var v) i)
    outer_var u (part_tuple t ts j k) w i =
        let m = is_tuple u ts j in subst (In w) (sym (ap vars_in m ∙ vars-tuple ts)) (outer_vars ts k w (subst (In w) (ap outer m ∙ L.outer-tuple ts) i))
    outer_var u (part_nominal t m ts j k) w i = absurd (subst (In w) (ap outer (is_nominal u m ts j) ∙ L.outer-nominal m ts) i)

    outer_vars : (us : List Ty) → AreParts n us → (w : ℕ) → In w (flat_map outer us) → In w (flat_map vars_in us)
    outer_vars us parts_end w i = absurd i
    outer_vars us (parts_more u vs p q) w i = elim (in_either w (outer u) (flat_map outer vs) i) [
      | inl x ↦ in_left w (vars_in u) (flat_map vars_in vs) (outer_var u p w x)
      | inr x ↦ in_right w (vars_in u) (flat_map vars_in vs) (outer_vars vs q w x)
    ]

pub below_or : (a b : ℕ) → (a < b) ⊎ (b ≤ a)
below_or zero zero = inr (omega arith)
below_or zero (suc b) = inl (omega arith)
below_or (suc a) zero = inr (omega arith)
below_or (suc a) (suc b) = elim (below_or a b) [ inl h ↦ inl (omega arith) | inr h ↦ inr (omega arith) ]

-- a kept row
module _ (ds : List Decl) (s : Written) (r : Row) (kept : IsKeptRow ds s r) where
  abbrev n : Table
  n = table_of ds

  diagonal_low : (v : ℕ) → kind s v ≡ diagonal → v < width s
  diagonal_low v d = elim (below_or v (width s)) [ inl l ↦ l | inr g ↦ let e : unused ≡ diagonal = sym (kept.own v g) ∙ d in cc ]

  pub inner_low : (v : ℕ) → In v (flat_map inner r.parts) → v < width s
  inner_low v i = (kept.invariant v (of_in (flat_map inner r.parts) v i)).0

  pub own_root : (v : ℕ) → v < width s → root s v ≡ v
  own_root v l = mod-eq_of_lt l

  inner_root : (v : ℕ) → In v (flat_map inner r.parts) → root s v ≡ v
  inner_root v i = own_root v (inner_low v i)

  stands_of : (w : ℕ) → In w (flat_map vars_in r.parts) → Stands s (root s w) r.parts
  stands_of w i = of_in (map (root s) (flat_map vars_in r.parts)) (root s w) (in_map (root s) w (flat_map vars_in r.parts) i)

  place_of : (v w : ℕ) → In w (flat_map vars_in r.parts) → root s w ≡ v → In v (flat_map inner r.parts) ⊎ ((w : ℕ) × In w (flat_map outer r.parts) × (root s w ≡ v))
  place_of v w i e = elim (all_stand n r.parts kept.parts w i) [
    | inl x ↦ let q : w ≡ v = sym (inner_root w x) ∙ e in inl (subst (λ z. In z (flat_map inner r.parts)) q x)
    | inr x ↦ inr (w, x, e)
  ]

  places : (v : ℕ) → Stands s v r.parts → In v (flat_map inner r.parts) ⊎ ((w : ℕ) × In w (flat_map outer r.parts) × (root s w ≡ v))
  places v o =
      let m = map_in (root s) v (flat_map vars_in r.parts) (in_of (map (root s) (flat_map vars_in r.parts)) v o) in
      place_of v m.0 m.1 m.2

  outer_kind : (w : ℕ) → In w (flat_map outer r.parts) → kind s (root s w) ≡ diagonal → root s w ≡ w
  outer_kind w i d = elim (kept.covariant w (of_in (flat_map outer r.parts) w i)).1 [ inl e ↦ e.1 | inr b ↦ let e : diagonal ≡ bound = sym d ∙ b in cc ]

  stands_low : (v : ℕ) → Stands s v r.parts → v < width s
  stands_low v o = elim (places v o) [
    | inl i ↦ inner_low v i
    | inr z ↦ subst (λ k. k < width s) z.2 (kept.covariant z.0 (of_in (flat_map outer r.parts) z.0 z.1)).0
  ]

  -- a variable in the bound of one of the row has a smaller number
  occurs_low : (v : ℕ) (row : List Ty) → row ≡ r.parts → Occurs s v row → v < width s
  occurs_low v row e (standing x y c) = stands_low v (subst (λ z. Stands s v z) e c)
  occurs_low v row e (bounding x w y o c) =
      let l = occurs_low w row e o in
      let b = kept.before w v l c in omega (arith, l, b)

  pub low_of : (v : ℕ) → Occurs s v r.parts → v < width s
  low_of v o = occurs_low v r.parts refl o

  is_low : (v : ℕ) → v < width s → nat_lt v (width s) ≡ true
  is_low v l = grind (arith, l)

  inner_in : (v : ℕ) → Has (flat_map inner r.parts) v → In v (flat_map inner r.parts)
  inner_in v h = in_has v (flat_map inner r.parts) h

  outer_in : (w : ℕ) → Has (flat_map outer r.parts) w → In w (flat_map outer r.parts)
  outer_in w h = in_has w (flat_map outer r.parts) h

  occur : (w : ℕ) → In w (flat_map outer r.parts) → Stands s (root s w) r.parts
  occur w i = stands_of w (outer_vars n r.parts kept.parts w i)

  pub right_row : RightRow s r
  right_row = record {
    forms = forms_of n r.parts kept.parts;
    inner_kind = λ v h. (let i = inner_in v h in ((kept.invariant v (of_in (flat_map inner r.parts) v i)).1, inner_root v i));
    places = λ v o. elim (places v o) [
      | inl i ↦ inl (has_in v (flat_map inner r.parts) i)
      | inr z ↦ inr (z.0, has_in z.0 (flat_map outer r.parts) z.1, z.2)
    ];
    occur = λ w h. occur w (outer_in w h);
    occur_inner = λ v h. (let i = inner_in v h in subst (λ z. Stands s z r.parts) (inner_root v i) (stands_of v (inner_vars n r.parts kept.parts v i)));
    outer_kind = λ w h. outer_kind w (outer_in w h);
    diagonal_root = λ w i d. own_root w (diagonal_low w d);
    range = λ v o. is_low v (low_of v o);
  }

  pub own_places : (f : ℕ → Ty) → EachVar (λ v. f (root s v) ≡ f v) (flat_map inner r.parts)
  own_places f = each_of (λ v. f (root s v) ≡ f v) (flat_map inner r.parts) (λ v i. ap f (inner_root v i))

  diagonals : (f : ℕ → Ty) → EachVar (λ w. kind s w ≡ diagonal → f (root s w) ≡ f w) (flat_map outer r.parts)
  diagonals f = each_of (λ w. kind s w ≡ diagonal → f (root s w) ≡ f w) (flat_map outer r.parts) (λ w i d. ap f (own_root w (diagonal_low w d)))

  pub placed : (f : ℕ → Ty) → Serves n opaque s r f → EachVar (λ w. ((kind s w ≡ diagonal) × (f (root s w) ≡ f w) × Concrete n (f w)) ⊎ (kind s (root s w) ≡ bound)) (flat_map outer r.parts)
  placed f serves =
      each_of (λ w. ((kind s w ≡ diagonal) × (f (root s w) ≡ f w) × Concrete n (f w)) ⊎ (kind s (root s w) ≡ bound)) (flat_map outer r.parts)
      (λ w i. elim (kept.covariant w (of_in (flat_map outer r.parts) w i)).1 [
        | inl e ↦
            let o : Occurs s w r.parts = standing w r.parts (subst (λ z. Stands s z r.parts) e.1 (occur w i)) in
            inl (e.0, ap f e.1, serves.sure w o e.0)
        | inr b ↦ inr b
      ])

  place_at : (w : ℕ) → In w (flat_map outer r.parts) → IsPlace s w
  place_at w i =
      let k = kept.covariant w (of_in (flat_map outer r.parts) w i) in (
        k.0,
        elim k.1 [
          | inl e ↦ inl e
          | inr b ↦ inr (b, (λ d. let e : diagonal ≡ bound = sym d ∙ ap (kind s) (sym (own_root w (diagonal_low w d))) ∙ b in cc))
        ],
      )

  pub kept_parts : AreKeptParts ds s r.parts
  kept_parts = record { parts = kept.parts; covariant = each_of (IsPlace s) (flat_map outer r.parts) place_at }

-- concrete normal types
pub record IsLeft (n : Table) (t : Ty) : Type 0 where
  pub concrete : Concrete n t
  pub normal : IsNormal n t

pub each_unit : (ts : List Ty) → Each (λ t. Unit {0}) ts
each_unit [] = tt
each_unit (t ∷ ts) = (tt, each_unit ts)

pub each_normal : (n : Table) (ts : List Ty) → Each (Concrete n) ts → AllNormal n ts → Each (IsLeft n) ts
each_normal n ts c none = tt
each_normal n ts c (more t us p q) = (record { concrete = c.0; normal = p }, each_normal n us c.1 q)

module _ (ds : List Decl) (declared : Declared ds) where
  abbrev o : Table
  o = table_of ds

  lifted_at : (k m : ℕ) (xs zs : List Ty) (b : Bool) → nat_eq k m ≡ b → AllNormal o xs → lifted o k xs m ≡ Some zs → AllNormal o zs
  unfolding table_of
  lifted_at k m xs zs true e g l = subst (AllNormal o) (near o (declared_lawful ds declared) k m xs zs e l) g
  lifted_at k m xs zs false e g l =
      let r = far o (declared_lawful ds declared) k m xs zs e l in
      subst (AllNormal o) r.2 (ancestors_normal ds declared k m r.0 xs r.1 g)

  pub lifted_normal : (k m : ℕ) (xs zs : List Ty) → AllNormal o xs → lifted o k xs m ≡ Some zs → AllNormal o zs
  lifted_normal k m xs zs g l = lifted_at k m xs zs (nat_eq k m) refl g l

  no_variable : (v : ℕ) (P : Type 0) → IsLeft o (W.Var v) → P
  no_variable v P h = let e : true ≡ false = sym h.concrete ∙ concrete-var o v in cc

  pub left_forms : LeftForms o opaque (IsLeft o) (λ t. Unit {0})
  left_forms = record {
    part = λ xs h. each_normal o xs (parts_concrete o xs h.concrete) (kids_tuple o (declared_lawful ds declared) (V.Tuple xs) xs h.normal (outs-Tuple xs));
    raise = λ v h. no_variable v _ h;
    argument = λ k m xs zs h l. (lifted_normal k m xs zs (kids_nominal o (declared_lawful ds declared) (V.Nominal k xs) k xs h.normal (outs-Nominal k xs)) l, each_unit zs);
    inside = λ m xs h. each_unit xs;
    sure = λ t u h e c. (h.concrete, tt);
  }

  module _ (s : Written) (r : Row) (ts : List Ty) (kept : IsKeptRow ds s r) (types : AreConcrete ds ts) where
    concrete : Each (Concrete o) ts
    concrete = true_each (is_concrete o opaque) ts types.concrete

    -- what serves and meets fits
    pub fits_of : (f : ℕ → Ty) → Serves o opaque s r f → Meet o opaque s f ts r.parts → Fits o s r ts f
    fits_of f serves meet = record {
      serves = serves;
      below = meet_below ds declared s f ts r.parts kept.parts (own_places ds s r kept f) (diagonals ds s r kept f) concrete meet;
    }
