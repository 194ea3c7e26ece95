-- What is below a nominal type, of the types that are found and of the parts of a left row.
use Rattle.std.proofs.Common.{◌≡◌, ◌∙◌, sym, ap, subst, refl, ℕ, List, [], ◌∷◌, ◌++◌, Some, ◌⊎◌, inl, inr}
use Rattle.std.specs.List.{flat_map}
use Rattle.jl_model.specs.declared.ty.Ty.{Ty}
use Rattle.jl_model.specs.declared.ty.Ty.TheOpen.{Ty-F, Any, Union, Tuple, Nominal, Var}
use Rattle.jl_model.specs.declared.ty.Ty.TheViews.{out-Ty, outs-Nominal}
use Rattle.jl_model.specs.declared.ty.Ty.TheViews as V
use Rattle.jl_model.specs.Rows.{alts}
use Rattle.jl_model.specs.Subtype.{Table, Fixed, opaque, lifted, Below, Covered, Found, Part, Equals, below, none, more, here, there, raise, any, tuple, nominal, self, own, under}
use Rattle.jl_model.specs.Normal.{AllNormal}
use Rattle.jl_model.specs.Found.{risen, risen_form, rising, first_form, ancestor, or_none}
use Rattle.jl_model.proofs.TypeInduction.{Each}
use Rattle.jl_model.proofs.FormLemmas.{is_nominal, is_var, alts-nominal, alts-var}
use Rattle.jl_search.proofs.HasLemmas.{Has, has_flat, flat_has, has_none, none_has}
use Rattle.jl_search.proofs.LiftLemmas.{below_found, alt_fine, by_alts}
use Rattle.jl_search.proofs.MeetLemmas.{LeftForms}
use Rattle.jl_search.proofs.ValueLaw.{Leads, IsEmpty, BoundForms}

-- what is asked of the first alternative of a type: it is no variable, and its arguments are good
abbrev pub IsGood : Table → (Ty → Type 0) → Ty → Type 0
IsGood n q c = ((v : ℕ) → out-Ty c ≡ Var v → ⊥) × ((k m : ℕ) (xs zs : List Ty) → out-Ty c ≡ Nominal k xs → lifted n k xs m ≡ Some zs → AllNormal n zs × Each q zs)

module _ (n : Table) (g : Fixed) where
  abbrev B : Ty → Ty → Type 0
  B = Below n g

  -- of one alternative: a nominal type, or a variable by its bound
  data Way (t : Ty) (m : ℕ) (us : List Ty) : Type 0 where
    by_nominal : (k : ℕ) (xs zs : List Ty) → out-Ty t ≡ Nominal k xs → lifted n k xs m ≡ Some zs → Equals n zs us → Way t m us
    by_raise : (v : ℕ) → out-Ty t ≡ Var v → Covered n g (alts (g.high v)) (V.Nominal m us ∷ []) → Way t m us

  part_way : (t u : Ty) (m : ℕ) (us : List Ty) → u ≡ V.Nominal m us → Part n g t u → Way t m us
  part_way t u m us i (any h a b e) = let c : Nominal m us ≡ Any = sym (ap out-Ty i ∙ outs-Nominal m us) ∙ e in cc
  part_way t u m us i (tuple h a b xs ys d e p) = let c : Nominal m us ≡ Tuple ys = sym (ap out-Ty i ∙ outs-Nominal m us) ∙ e in cc
  part_way t u m us i (nominal h a b k j xs zs ys d e l p) =
      let c : Nominal j ys ≡ Nominal m us = sym e ∙ ap out-Ty i ∙ outs-Nominal m us in
      let x : j ≡ m = cc in
      let y : ys ≡ us = cc in
      by_nominal k xs zs d (subst (λ z. lifted n k xs z ≡ Some zs) x l) (subst (λ z. Equals n zs z) y p)
  part_way t u m us i (self h a b v d e) = let c : Nominal m us ≡ Var v = sym (ap out-Ty i ∙ outs-Nominal m us) ∙ e in cc
  part_way t u m us i (own h a b v d e) = let c : Nominal m us ≡ Var (g.root v) = sym (ap out-Ty i ∙ outs-Nominal m us) ∙ e in cc
  part_way t u m us i (under h a b w e p) = let c : Nominal m us ≡ Var w = sym (ap out-Ty i ∙ outs-Nominal m us) ∙ e in cc

  found_way : (t : Ty) (ws : List Ty) (m : ℕ) (us : List Ty) → ws ≡ V.Nominal m us ∷ [] → Found n g t ws → Way t m us
  found_way t ws m us i (here h a u vs p) = let e : u ≡ V.Nominal m us = cc in part_way t u m us e p
  found_way t ws m us i (there h a u vs f) = let e : vs ≡ [] = cc in none_found vs e f
    where
      none_found : (vs : List Ty) → vs ≡ [] → Found n g t vs → Way t m us
      none_found vs e (here h a u ws p) = let c : u ∷ ws ≡ [] = e in cc
      none_found vs e (there h a u ws f) = let c : u ∷ ws ≡ [] = e in cc
      none_found vs e (raise h a v ws d c) = by_raise v d (widen (alts (g.high v)) vs e c)
        where
          widen_found : (x : Ty) (ws : List Ty) → ws ≡ [] → Found n g x ws → Found n g x (V.Nominal m us ∷ [])
          widen_found x ws e f = subst (λ z. Found n g x (V.Nominal m us ∷ z)) e (there g x (V.Nominal m us) ws f)

          widen : (ts ws : List Ty) → ws ≡ [] → Covered n g ts ws → Covered n g ts (V.Nominal m us ∷ [])
          widen ts ws e (none h vs) = none g (V.Nominal m us ∷ [])
          widen ts ws e (more h x ts2 vs f c) = more g x ts2 (V.Nominal m us ∷ []) (widen_found x ws e f) (widen ts2 ws e c)
  found_way t ws m us i (raise h a v vs e c) = by_raise v e (subst (λ z. Covered n g (alts (g.high v)) z) i c)

  covered_way : (t : Ty) (ts ws : List Ty) (m : ℕ) (us : List Ty) → ws ≡ V.Nominal m us ∷ [] → (rest : List Ty) → ts ≡ t ∷ rest → Covered n g ts ws → Way t m us
  covered_way t ts ws m us i rest e (none h vs) = let c : [] ≡ t ∷ rest = e in cc
  covered_way t ts ws m us i rest e (more h x ss vs f c) = let d : x ≡ t = cc in subst (λ z. Way z m us) d (found_way x ws m us i f)

  -- the first alternative of what is below a nominal type
  first_way : (t c : Ty) (rest : List Ty) (m : ℕ) (us : List Ty) → alts t ≡ c ∷ rest → B t (V.Nominal m us) → Way c m us
  first_way t c rest m us e (below h x y d) = covered_way c (alts t) (alts y) m us (alts-nominal m us) rest e d

  -- nothing is below where no alternative is
  empty_below : (t z : Ty) → alts t ≡ [] → B t z
  empty_below t z e = below g t z (subst (λ w. Covered n g w (alts z)) (sym e) (none g (alts z)))

  raise_empty : (t z : Ty) (v : ℕ) → out-Ty t ≡ Var v → alts (g.high v) ≡ [] → B t z
  raise_empty t z v e d =
      let i : alts t ≡ t ∷ [] = ap alts (is_var t v e) ∙ alts-var v ∙ ap (λ w. w ∷ []) (sym (is_var t v e)) in
      below g t z (subst (λ w. Covered n g w (alts z)) (sym i) (more g t [] (alts z) (raise g t v (alts z) e (subst (λ w. Covered n g w (alts z)) (sym d) (none g (alts z)))) (none g (alts z))))

  way_of : (t c : Ty) (m : ℕ) (us : List Ty) → Has (alts t) c → B t (V.Nominal m us) → Way c m us
  way_of t c m us h b = found_way c (alts (V.Nominal m us)) m us (alts-nominal m us) (below_found n g t (V.Nominal m us) c b h)

  -- a type that is no variable stands for itself
  steady : (a : Ty) (x : Ty-F Ty) → out-Ty a ≡ x → ((v : ℕ) → x ≡ Var v → ⊥) → risen g a ≡ a
  steady a Any i k = ap (risen_form g a) i
  steady a (Union ts) i k = ap (risen_form g a) i
  steady a (Tuple ts) i k = ap (risen_form g a) i
  steady a (Nominal j ts) i k = ap (risen_form g a) i
  steady a (Var v) i k = absurd (k v refl)

  var_or : (x : Ty-F Ty) → ((v : ℕ) × (x ≡ Var v)) ⊎ ((v : ℕ) → x ≡ Var v → ⊥)
  var_or Any = inr (λ v e. (let c : Any ≡ Var v = e in cc))
  var_or (Union ts) = inr (λ v e. (let c : Union ts ≡ Var v = e in cc))
  var_or (Tuple ts) = inr (λ v e. (let c : Tuple ts ≡ Var v = e in cc))
  var_or (Nominal j ts) = inr (λ v e. (let c : Nominal j ts ≡ Var v = e in cc))
  var_or (Var v) = inl (v, refl)

  high_below : (a : Ty) (v m : ℕ) (us : List Ty) → out-Ty a ≡ Var v → Way a m us → B (g.high v) (V.Nominal m us)
  high_below a v m us i (by_nominal k xs zs e l d) = let c : Nominal k xs ≡ Var v = sym e ∙ i in cc
  high_below a v m us i (by_raise w e c) =
      let j : Var w ≡ Var v = sym e ∙ i in
      let k : w ≡ v = cc in
      below g (g.high v) (V.Nominal m us) (subst (λ z. Covered n g (alts (g.high v)) z) (sym (alts-nominal m us)) (subst (λ z. Covered n g (alts (g.high z)) (V.Nominal m us ∷ [])) k c))

  -- what is below a nominal type, by the first of its alternatives
  module _ (q : Ty → Type 0) where
    abbrev Ends : Ty → ℕ → List Ty → Type 0
    Ends t m us = Leads n g q t m us ⊎ IsEmpty n g t m

    one_leads : (t c : Ty) (rest : List Ty) (m : ℕ) (us : List Ty) → rising g t ≡ c ∷ rest → IsGood n q c → Way c m us → Leads n g q t m us
    one_leads t c rest m us e a (by_raise v d x) = absurd (a.0 v d)
    one_leads t c rest m us e a (by_nominal k xs zs d l p) =
        let r = a.1 k m xs zs d l in
        (zs, ap (λ z. ancestor n m (first_form z)) e ∙ ap (ancestor n m) d ∙ ap or_none l, p, r.0, r.1)

    -- the way of what is found among the alternatives
    rising_way : (t c : Ty) (m : ℕ) (us : List Ty) → B t (V.Nominal m us) → Has (rising g t) c → Way c m us
    rising_way t c m us b h =
        let r = flat_has (λ a. alts (risen g a)) (alts t) c h in
        let w = way_of t r.0 m us r.1 b in
        elim (var_or (out-Ty r.0)) [
          | inl v ↦ way_of (g.high v.0) c m us (subst (λ z. Has (alts z) c) (ap (risen_form g r.0) v.1) r.2) (high_below r.0 v.0 m us v.1 w)
          | inr k ↦
              let e : risen g r.0 ≡ r.0 = steady r.0 (out-Ty r.0) refl k in
              let s : Has (r.0 ∷ []) c = subst (λ z. Has z c) (ap alts e ∙ (alt_fine n opaque t r.0 r.1).0) r.2 in
              elim s [ inl i ↦ subst (λ z. Way z m us) i w | inr i ↦ absurd i ]
        ]

    -- without alternatives it is below all
    nothing_below : (t z : Ty) → rising g t ≡ [] → B t z
    nothing_below t z e = by_alts n g t z (λ a h.
        elim (var_or (out-Ty a)) [
          | inl v ↦
              let d : alts (g.high v.0) ≡ [] = none_has (alts (g.high v.0)) (λ c i. has_none (rising g t) c e (has_flat (λ a. alts (risen g a)) (alts t) a c h (subst (λ y. Has (alts y) c) (sym (ap (risen_form g a) v.1)) i))) in
              raise_empty a z v.0 v.1 d
          | inr k ↦
              let s : alts (risen g a) ≡ a ∷ [] = ap alts (steady a (out-Ty a) refl k) ∙ (alt_fine n opaque t a h).0 in
              absurd (has_none (rising g t) a e (has_flat (λ a. alts (risen g a)) (alts t) a a h (subst (λ y. Has y a) (sym s) (inl refl))))
        ])

    by_list : (t : Ty) (m : ℕ) (us : List Ty) → B t (V.Nominal m us) → ((c : Ty) → Has (rising g t) c → IsGood n q c) → (ts : List Ty) → rising g t ≡ ts → Ends t m us
    by_list t m us b k [] e = inr (e, λ z. nothing_below t z e)
    by_list t m us b k (c ∷ rest) e =
        let h : Has (rising g t) c = subst (λ z. Has z c) (sym e) (inl refl) in
        inl (one_leads t c rest m us e (k c h) (rising_way t c m us b h))

    pub value_form : (t : Ty) → ((c : Ty) → Has (rising g t) c → IsGood n q c) → (m : ℕ) (us : List Ty) → B t (V.Nominal m us) → Ends t m us
    value_form t k m us b = by_list t m us b k (rising g t) refl

  -- LEFT PARTS have an alternative
  module _ (p q : Ty → Type 0) (left : LeftForms n g p q) (single : (t : Ty) → p t → alts t ≡ t ∷ []) where
    risen_left : (t : Ty) → p t → p (risen g t) × ((v : ℕ) → out-Ty (risen g t) ≡ Var v → ⊥)
    risen_left t a = elim (var_or (out-Ty t)) [
      | inl w ↦
          let e : risen g t ≡ g.high w.0 = ap (risen_form g t) w.1 in
          let r = left.raise w.0 (subst p (is_var t w.0 w.1) a) in
          (subst p (sym e) r.0, λ v d. r.1 v (ap out-Ty (sym e) ∙ d))
      | inr k ↦ let e = steady t (out-Ty t) refl k in (subst p (sym e) a, λ v d. k v (ap out-Ty (sym e) ∙ d))
    ]

    left_alternative : (t : Ty) → p t → rising g t ≡ risen g t ∷ []
    left_alternative t a = ap (flat_map (λ a. alts (risen g a))) (single t a) ∙ ap (λ z. z ++ []) (single (risen g t) (risen_left t a).0)

    good_left : (t : Ty) → p t → (c : Ty) → Has (rising g t) c → IsGood n q c
    good_left t a c h =
        let r = risen_left t a in
        elim (subst (λ z. Has z c) (left_alternative t a) h) [
          | inl i ↦ ((λ v d. r.1 v (ap out-Ty i ∙ d)), λ k m xs zs d l. left.argument k m xs zs (subst p (i ∙ is_nominal c k xs d) r.0) l)
          | inr i ↦ absurd i
        ]

    pub part_form : (t : Ty) → p t → (m : ℕ) (us : List Ty) → B t (V.Nominal m us) → Leads n g q t m us
    part_form t a m us b = elim (value_form q t (good_left t a) m us b) [
      | inl r ↦ r
      | inr r ↦ absurd (some_list (risen g t) (sym (left_alternative t a) ∙ r.0))
    ]
      where
        some_list : (u : Ty) → u ∷ [] ≡ [] → ⊥
        some_list u e = cc

-- both together
pub bound_forms : (n : Table) (g : Fixed) (p q : Ty → Type 0) → LeftForms n g p q → ((t : Ty) → p t → alts t ≡ t ∷ []) → ((t : Ty) → q t → (c : Ty) → Has (rising g t) c → IsGood n q c) → BoundForms n g p q
bound_forms n g p q left single forms = record { part = λ t a m us b. part_form n g p q left single t a m us b; value = λ t a m us b. value_form n g q t (forms t a) m us b }
