-- Below goes on: before and after what is below with nothing known of the variables, and over fixed variables and atoms whose
-- bounds are in order.
use Rattle.std.proofs.Common.{◌≡◌, ◌∙◌, sym, ap, subst, refl, ℕ, List, [], ◌∷◌, Some, ◌⊎◌, inl, inr}
use Rattle.jl_model.specs.declared.ty.Ty.{Ty}
use Rattle.jl_model.specs.declared.ty.Ty.TheOpen.{Any, Tuple, Nominal, Var}
use Rattle.jl_model.specs.declared.ty.Ty.TheViews.{out-Ty}
use Rattle.jl_model.specs.declared.ty.Ty.TheViews as V
use Rattle.jl_model.specs.Rows.{alts, vars_in}
use Rattle.jl_model.specs.Signature.{Both, both_end, both_more}
use Rattle.jl_model.specs.Subtype.{Table, Fixed, opaque, lifted, Below, Covered, Found, Part, Parts, Equals, below, none, more, here, there, raise, any, tuple, nominal, self, own, under, parts_end, parts_more}
use Rattle.jl_model.proofs.FormLemmas.{is_tuple, is_nominal, is_var, alts-nominal, vars-tuple, vars-var}
use Rattle.jl_model.proofs.AncestorLemmas.{Lawful}
use Rattle.jl_model.proofs.HeightLemmas.{PartBy, by_any, by_tuple, by_nominal, by_self, part_of}
use Rattle.jl_model.proofs.BelowLemmas.{below_part, part_below, equals_both}
use Rattle.jl_model.proofs.TransLemmas.{below_trans}
use Rattle.jl_search.proofs.HasLemmas.{Has, has_flat}
use Rattle.jl_search.proofs.LiftLemmas.{lift_part, covered_from, covered_at, found_in, found_single, alt_fine, alt_below}
use Rattle.jl_subsume.proofs.ScopeLemmas.{alts_within}
use Rattle.jl_subsume.proofs.PutBelowLemmas.{alt_some, none_below}

module _ (n : Table) (law : Lawful n) where
  abbrev B : Ty → Ty → Type 0
  B = Below n opaque

  abbrev By : Ty → Ty → Type 0
  By = PartBy n B

  abbrev Single : Ty → Type 0
  Single t = alts t ≡ t ∷ []

  nominal_single : (t : Ty) (k : ℕ) (xs : List Ty) → out-Ty t ≡ Nominal k xs → Single t
  nominal_single t k xs e = let i = is_nominal t k xs e in ap alts i ∙ alts-nominal k xs ∙ ap (λ z. z ∷ []) (sym i)

  compose : (t u w : Ty) → Single t → Single u → Single w → By t u → By u w → Part n opaque t w
  compose t u w a b c p q = part_of n t w (below_part n t w a c (below_trans n law t u w (part_below n t u a b p) (part_below n u w b c q)))

  -- what is above a variable, a tuple or a nominal type with nothing known
  over_var : (u w : Ty) (v : ℕ) → out-Ty u ≡ Var v → By u w → (out-Ty w ≡ Any) ⊎ (u ≡ w)
  over_var u w v e (by_any a b f) = inl f
  over_var u w v e (by_tuple a b xs ys d f p) = let i : Var v ≡ Tuple xs = sym e ∙ d in cc
  over_var u w v e (by_nominal a b k m xs zs ys d f l p) = let i : Var v ≡ Nominal k xs = sym e ∙ d in cc
  over_var u w v e (by_self a b x d f) = inr (is_var u x d ∙ sym (is_var w x f))

  over_any : (u w : Ty) → out-Ty u ≡ Any → By u w → out-Ty w ≡ Any
  over_any u w e (by_any a b f) = f
  over_any u w e (by_tuple a b xs ys d f p) = let i : Any ≡ Tuple xs = sym e ∙ d in cc
  over_any u w e (by_nominal a b k m xs zs ys d f l p) = let i : Any ≡ Nominal k xs = sym e ∙ d in cc
  over_any u w e (by_self a b x d f) = let i : Any ≡ Var x = sym e ∙ d in cc

  over_tuple : (u w : Ty) (us : List Ty) → out-Ty u ≡ Tuple us → By u w → (out-Ty w ≡ Any) ⊎ ((ws : List Ty) × (out-Ty w ≡ Tuple ws) × Both B us ws)
  over_tuple u w us e (by_any a b f) = inl f
  over_tuple u w us e (by_tuple a b xs ys d f p) = let i : Tuple xs ≡ Tuple us = sym d ∙ e in let c : xs ≡ us = cc in inr (ys, f, subst (λ z. Both B z ys) c p)
  over_tuple u w us e (by_nominal a b k m xs zs ys d f l p) = let i : Tuple us ≡ Nominal k xs = sym e ∙ d in cc
  over_tuple u w us e (by_self a b x d f) = let i : Tuple us ≡ Var x = sym e ∙ d in cc

  over_nominal : (u w : Ty) (k : ℕ) (us : List Ty) → out-Ty u ≡ Nominal k us → By u w → (out-Ty w ≡ Any) ⊎ ((m : ℕ) × (ws : List Ty) × (out-Ty w ≡ Nominal m ws))
  over_nominal u w k us e (by_any a b f) = inl f
  over_nominal u w k us e (by_tuple a b xs ys d f p) = let i : Nominal k us ≡ Tuple xs = sym e ∙ d in cc
  over_nominal u w k us e (by_nominal a b j m xs zs ys d f l p) = inr (m, ys, f)
  over_nominal u w k us e (by_self a b x d f) = let i : Nominal k us ≡ Var x = sym e ∙ d in cc

  -- what is below them
  under_var : (t u : Ty) (v : ℕ) → out-Ty u ≡ Var v → By t u → t ≡ u
  under_var t u v e (by_any a b f) = let i : Var v ≡ Any = sym e ∙ f in cc
  under_var t u v e (by_tuple a b xs ys d f p) = let i : Var v ≡ Tuple ys = sym e ∙ f in cc
  under_var t u v e (by_nominal a b k m xs zs ys d f l p) = let i : Var v ≡ Nominal m ys = sym e ∙ f in cc
  under_var t u v e (by_self a b x d f) = is_var t x d ∙ sym (is_var u x f)

  under_tuple : (t u : Ty) (us : List Ty) → out-Ty u ≡ Tuple us → By t u → (ts : List Ty) × (out-Ty t ≡ Tuple ts) × Both B ts us
  under_tuple t u us e (by_any a b f) = let i : Tuple us ≡ Any = sym e ∙ f in cc
  under_tuple t u us e (by_tuple a b xs ys d f p) = let i : Tuple ys ≡ Tuple us = sym f ∙ e in let c : ys ≡ us = cc in (xs, d, subst (λ z. Both B xs z) c p)
  under_tuple t u us e (by_nominal a b k m xs zs ys d f l p) = let i : Tuple us ≡ Nominal m ys = sym e ∙ f in cc
  under_tuple t u us e (by_self a b x d f) = let i : Tuple us ≡ Var x = sym e ∙ f in cc

  under_nominal : (t u : Ty) (m : ℕ) (us : List Ty) → out-Ty u ≡ Nominal m us → By t u → (k : ℕ) × (ts : List Ty) × (out-Ty t ≡ Nominal k ts)
  under_nominal t u m us e (by_any a b f) = let i : Nominal m us ≡ Any = sym e ∙ f in cc
  under_nominal t u m us e (by_tuple a b xs ys d f p) = let i : Nominal m us ≡ Tuple ys = sym e ∙ f in cc
  under_nominal t u m us e (by_nominal a b k j xs zs ys d f l p) = (k, xs, d)
  under_nominal t u m us e (by_self a b x d f) = let i : Nominal m us ≡ Var x = sym e ∙ f in cc

  module _ (g : Fixed) where
    part_by : (t u : Ty) (k m : ℕ) (ts zs us : List Ty) → out-Ty t ≡ Nominal k ts → out-Ty u ≡ Nominal m us → lifted n k ts m ≡ Some zs → Equals n zs us → By t u
    part_by t u k m ts zs us d e l q = by_nominal t u k m ts zs us d e l (equals_both n zs us q)

    nominal_on : (t u w : Ty) (k m : ℕ) (ts zs us : List Ty) → out-Ty t ≡ Nominal k ts → out-Ty u ≡ Nominal m us → lifted n k ts m ≡ Some zs → Equals n zs us → By u w → Part n g t w
    nominal_on t u w k m ts zs us d e l q p = elim (over_nominal u w m us e p) [
      | inl a ↦ any g t w a
      | inr r ↦ lift_part n g t w (compose t u w (nominal_single t k ts d) (nominal_single u m us e) (nominal_single w r.0 r.1 r.2) (part_by t u k m ts zs us d e l q) p)
    ]

    -- each alternative is below one of the others
    abbrev pub Up : List Ty → List Ty → Type 0
    Up us ws = (x : Ty) → Has us x → (y : Ty) × Has ws y × By x y

    pub up_of : (u w : Ty) → B u w → Up (alts u) (alts w)
    up_of u w b x h =
        let e = (alt_fine n opaque u x h).0 in
        let r = alt_some n x w e (below_trans n law x u w (alt_below n opaque u x h) b) in
        (r.0, r.1, below_part n x r.0 e (alt_fine n opaque w r.0 r.1).0 r.2)

    mutual
      pub after : (t u w : Ty) → Below n g t u → B u w → Below n g t w
      after t u w (below h a b c) q = below g t w (after_covered (alts t) (alts u) (alts w) c (up_of u w q))

      after_covered : (ts us ws : List Ty) → Covered n g ts us → Up us ws → Covered n g ts ws
      after_covered ts us ws (none h vs) k = none g ws
      after_covered ts us ws (more h t ss vs f c) k = more g t ss ws (after_found t us ws f k) (after_covered ss us ws c k)

      after_found : (t : Ty) (us ws : List Ty) → Found n g t us → Up us ws → Found n g t ws
      after_found t us ws (here h a u vs p) k = let r = k u (inl refl) in found_in n g ws t r.0 r.1 (after_part t u r.0 p r.2)
      after_found t us ws (there h a u vs f) k = after_found t vs ws f (λ x i. k x (inr i))
      after_found t us ws (raise h a v vs e c) k = raise g t v ws e (after_covered (alts (g.high v)) us ws c k)

      after_part : (t u w : Ty) → Part n g t u → By u w → Part n g t w
      after_part t u w (any h a b e) q = any g t w (over_any u w e q)
      after_part t u w (tuple h a b ts us d e p) q = elim (over_tuple u w us e q) [
        | inl f ↦ any g t w f
        | inr r ↦ tuple g t w ts r.0 d r.1 (after_parts ts us r.0 p r.2)
      ]
      after_part t u w (nominal h a b k m ts zs us d e l p) q = nominal_on t u w k m ts zs us d e l p q
      after_part t u w (self h a b v d e) q = elim (over_var u w v e q) [ inl f ↦ any g t w f | inr i ↦ self g t w v d (ap out-Ty (sym i) ∙ e) ]
      after_part t u w (own h a b v d e) q = elim (over_var u w (g.root v) e q) [ inl f ↦ any g t w f | inr i ↦ own g t w v d (ap out-Ty (sym i) ∙ e) ]
      after_part t u w (under h a b z e p) q = elim (over_var u w z e q) [ inl f ↦ any g t w f | inr i ↦ under g t w z (ap out-Ty (sym i) ∙ e) p ]

      after_parts : (ts us ws : List Ty) → Parts n g ts us → Both B us ws → Parts n g ts ws
      after_parts ts us ws (parts_end h) both_end = parts_end g
      after_parts ts us ws (parts_more h x y xs ys p r) (both_more i w js vs q s) = parts_more g x w xs vs (after x y w p q) (after_parts xs ys vs r s)

    mutual
      pub before : (t u w : Ty) → B t u → Below n g u w → Below n g t w
      before t u w q (below h a b c) = below g t w (covered_from n g (alts t) (alts w) (λ x i.
          let r = up_of t u q x i in
          before_covered x r.0 (alts u) (alts w) c (alt_fine n opaque t x i).0 (alt_fine n opaque u r.0 r.1).0 r.2 r.1))

      pub before_covered : (x u : Ty) (us ws : List Ty) → Covered n g us ws → Single x → Single u → By x u → Has us u → Found n g x ws
      before_covered x u us ws (none h vs) s r p i = absurd i
      before_covered x u us ws (more h y ys vs f c) s r p (inl e) = before_found x y ws f s (subst Single (sym e) r) (subst (λ z. By x z) (sym e) p)
      before_covered x u us ws (more h y ys vs f c) s r p (inr i) = before_covered x u ys ws c s r p i

      before_found : (x u : Ty) (ws : List Ty) → Found n g u ws → Single x → Single u → By x u → Found n g x ws
      before_found x u ws (here h a w vs p) s r q = here g x w vs (before_part x u w p s r q)
      before_found x u ws (there h a w vs f) s r q = there g x w vs (before_found x u vs f s r q)
      before_found x u ws (raise h a v vs e c) s r q = let i = under_var x u v e q in subst (λ z. Found n g z ws) (sym i) (raise g u v ws e c)

      before_part : (x u w : Ty) → Part n g u w → Single x → Single u → By x u → Part n g x w
      before_part x u w (any h a b e) s r q = any g x w e
      before_part x u w (tuple h a b us ws d e p) s r q = let i = under_tuple x u us d q in tuple g x w i.0 ws i.1 e (before_parts i.0 us ws p i.2)
      before_part x u w (nominal h a b k m us zs ws d e l p) s r q =
          let i = under_nominal x u k us d q in
          lift_part n g x w (compose x u w s r (nominal_single w m ws e) q (part_by u w k m us zs ws d e l p))
      before_part x u w (self h a b v d e) s r q = let i = under_var x u v d q in subst (λ z. Part n g z w) (sym i) (self g u w v d e)
      before_part x u w (own h a b v d e) s r q = let i = under_var x u v d q in subst (λ z. Part n g z w) (sym i) (own g u w v d e)
      before_part x u w (under h a b z e p) s r q = under g x w z e (before x u (g.low z) (part_below n x u s r q) p)

      before_parts : (xs us ws : List Ty) → Parts n g us ws → Both B xs us → Parts n g xs ws
      before_parts xs us ws (parts_end h) both_end = parts_end g
      before_parts xs us ws (parts_more h u w vs zs p r) (both_more x i ys js q s) = parts_more g x w ys zs (before x u w q p) (before_parts ys vs zs r s)

    -- what is asked of the fixed variables and of those that stand in the left type
    pub record Ordered (Ok : ℕ → Type 0) : Type 0 where
      pub root_root : (k : ℕ) → Ok k → g.root (g.root k) ≡ g.root k
      pub high_root : (k : ℕ) → Ok k → (c : Ty) → Has (alts (g.high k)) c → Has (alts (g.high (g.root k))) c
      pub low_root : (z : ℕ) → (g.root z ≡ z) ⊎ (g.low z ≡ V.Union [])
      pub low_high : (z : ℕ) → B (g.low z) (g.high z)
      pub high_ok : (k : ℕ) → Ok k → (j : ℕ) → Has (vars_in (g.high k)) j → Ok j

    module _ (Ok : ℕ → Type 0) (order : Ordered Ok) where
      abbrev pub Fine : Ty → Type 0
      Fine t = (k : ℕ) → Has (vars_in t) k → Ok k

      fine_alts : (t : Ty) → Fine t → (c : Ty) → Has (alts t) c → Fine c
      fine_alts t f c h k i = f k (alts_within t c h k i)

      fine_var : (t : Ty) (k : ℕ) → out-Ty t ≡ Var k → Fine t → Ok k
      fine_var t k e f = f k (subst (λ z. Has z k) (sym (ap vars_in (is_var t k e) ∙ vars-var k)) (inl refl))

      fine_high : (k : ℕ) → Ok k → (c : Ty) → Has (alts (g.high k)) c → Fine c
      fine_high k o c h j i = order.high_ok k o j (alts_within (g.high k) c h j i)

      fine_member : (t : Ty) (ts : List Ty) → out-Ty t ≡ Tuple ts → Fine t → (c : Ty) → Has ts c → Fine c
      fine_member t ts e f c h k i = f k (subst (λ z. Has z k) (sym (ap vars_in (is_tuple t ts e) ∙ vars-tuple ts)) (has_flat vars_in ts c k h i))

      -- from what a type is a part of to what that is found among
      abbrev Step : List Ty → List Ty → Type 0
      Step us ws = (u t : Ty) → Has us u → Fine t → Single t → Part n g t u → Found n g t ws

      mutual
        first_covered : (ts us ws : List Ty) → ((c : Ty) → Has ts c → Fine c × Single c) → Step us ws → Covered n g ts us → Covered n g ts ws
        first_covered ts us ws f k (none h vs) = none g ws
        first_covered ts us ws f k (more h t ss vs p c) = let i = f t (inl refl) in more g t ss ws (first_found t us ws i.0 i.1 k p) (first_covered ss us ws (λ x j. f x (inr j)) k c)

        first_found : (t : Ty) (us ws : List Ty) → Fine t → Single t → Step us ws → Found n g t us → Found n g t ws
        first_found t us ws f s k (here h a u vs p) = k u t (inl refl) f s p
        first_found t us ws f s k (there h a u vs p) = first_found t vs ws f s (λ x y i. k x y (inr i)) p
        first_found t us ws f s k (raise h a v vs e c) =
            raise g t v ws e (first_covered (alts (g.high v)) us ws (λ x i. (fine_high v (fine_var t v e f) x i, (alt_fine n opaque (g.high v) x i).0)) k c)

      -- through a fixed variable
      through_var : (t u : Ty) (v : ℕ) (ws : List Ty) → out-Ty u ≡ Var v → Fine t → Single t → Part n g t u → Covered n g (alts (g.high v)) ws → Step (alts (g.high v)) ws → Found n g t ws
      through_var t u v ws e f s (any h a b d) c k = let i : Var v ≡ Any = sym e ∙ d in cc
      through_var t u v ws e f s (tuple h a b ts us d o p) c k = let i : Var v ≡ Tuple us = sym e ∙ o in cc
      through_var t u v ws e f s (nominal h a b j m ts zs us d o l p) c k = let i : Var v ≡ Nominal m us = sym e ∙ o in cc
      through_var t u v ws e f s (self h a b w d o) c k =
          let i : Var w ≡ Var v = sym o ∙ e in let j : w ≡ v = cc in
          raise g t v ws (d ∙ ap (λ (z : ℕ). Var z) j) c
      through_var t u v ws e f s (own h a b w d o) c k =
          let i : Var (g.root w) ≡ Var v = sym o ∙ e in let j : g.root w ≡ v = cc in
          raise g t w ws d (covered_from n g (alts (g.high w)) ws (λ x m. covered_at n g (alts (g.high v)) ws x c (subst (λ z. Has (alts (g.high z)) x) j (order.high_root w (fine_var t w d f) x m))))
      through_var t u v ws e f s (under h a b z d p) c k =
          let i : Var z ≡ Var v = sym d ∙ e in let j : z ≡ v = cc in
          let q : Below n g t (g.high v) = subst (λ y. Below n g t (g.high y)) j (after t (g.low z) (g.high z) p (order.low_high z)) in
          by_below q
        where
          by_below : Below n g t (g.high v) → Found n g t ws
          by_below (below h a b r) = covered_at n g (alts t) ws t (first_covered (alts t) (alts (g.high v)) ws (λ x i. (fine_alts t f x i, (alt_fine n opaque t x i).0)) k r) (subst (λ z. Has z t) (sym s) (inl refl))

      through_own : (t u w : Ty) (v : ℕ) → out-Ty u ≡ Var v → out-Ty w ≡ Var (g.root v) → Fine t → Part n g t u → Part n g t w
      through_own t u w v e o f (any h a b d) = let i : Var v ≡ Any = sym e ∙ d in cc
      through_own t u w v e o f (tuple h a b ts us d q p) = let i : Var v ≡ Tuple us = sym e ∙ q in cc
      through_own t u w v e o f (nominal h a b j m ts zs us d q l p) = let i : Var v ≡ Nominal m us = sym e ∙ q in cc
      through_own t u w v e o f (self h a b x d q) = let i : Var x ≡ Var v = sym q ∙ e in let j : x ≡ v = cc in own g t w v (d ∙ ap (λ (z : ℕ). Var z) j) o
      through_own t u w v e o f (own h a b x d q) =
          let i : Var (g.root x) ≡ Var v = sym q ∙ e in let j : g.root x ≡ v = cc in
          let m : g.root v ≡ g.root x = ap g.root (sym j) ∙ order.root_root x (fine_var t x d f) in
          own g t w x d (o ∙ ap (λ (z : ℕ). Var z) m)
      through_own t u w v e o f (under h a b z d p) =
          let i : Var z ≡ Var v = sym d ∙ e in let j : z ≡ v = cc in
          elim (order.low_root z) [
            | inl r ↦ under g t w z (o ∙ ap (λ (y : ℕ). Var y) (ap g.root (sym j) ∙ r)) p
            | inr r ↦ under g t w (g.root v) o (after t (V.Union []) (g.low (g.root v)) (subst (λ y. Below n g t y) r p) (none_below n (g.low (g.root v))))
          ]

      pub tuple_part : (t u : Ty) (us : List Ty) → out-Ty u ≡ Tuple us → Part n g t u → (ts : List Ty) × (out-Ty t ≡ Tuple ts) × Parts n g ts us
      tuple_part t u us e (any h a b d) = let i : Tuple us ≡ Any = sym e ∙ d in cc
      tuple_part t u us e (tuple h a b ts vs d q p) = let i : Tuple vs ≡ Tuple us = sym q ∙ e in let c : vs ≡ us = cc in (ts, d, subst (λ z. Parts n g ts z) c p)
      tuple_part t u us e (nominal h a b j m ts zs vs d q l p) = let i : Tuple us ≡ Nominal m vs = sym e ∙ q in cc
      tuple_part t u us e (self h a b x d q) = let i : Tuple us ≡ Var x = sym e ∙ q in cc
      tuple_part t u us e (own h a b x d q) = let i : Tuple us ≡ Var (g.root x) = sym e ∙ q in cc
      tuple_part t u us e (under h a b x d q) = let i : Tuple us ≡ Var x = sym e ∙ d in cc

      nominal_part : (t u w : Ty) (m : ℕ) (us : List Ty) → out-Ty u ≡ Nominal m us → By u w → Part n g t u → Part n g t w
      nominal_part t u w m us e r (any h a b d) = let i : Nominal m us ≡ Any = sym e ∙ d in cc
      nominal_part t u w m us e r (tuple h a b ts vs d q p) = let i : Nominal m us ≡ Tuple vs = sym e ∙ q in cc
      nominal_part t u w m us e r (nominal h a b j k ts zs vs d q l p) = nominal_on t u w j k ts zs vs d q l p r
      nominal_part t u w m us e r (self h a b x d q) = let i : Nominal m us ≡ Var x = sym e ∙ q in cc
      nominal_part t u w m us e r (own h a b x d q) = let i : Nominal m us ≡ Var (g.root x) = sym e ∙ q in cc
      nominal_part t u w m us e r (under h a b x d q) = let i : Nominal m us ≡ Var x = sym e ∙ d in cc

      mutual
        -- what is below a type is below all that this is below
        pub trans : (t u w : Ty) → Fine t → Below n g t u → Below n g u w → Below n g t w
        trans t u w f (below h a b c) (below i d e r) =
            below g t w (first_covered (alts t) (alts u) (alts w) (λ x j. (fine_alts t f x j, (alt_fine n opaque t x j).0))
            (λ x y j k s p. at_covered y x (alts u) (alts w) r j (alt_fine n opaque u x j).0 k s p) c)

        at_covered : (t u : Ty) (us ws : List Ty) → Covered n g us ws → Has us u → Single u → Fine t → Single t → Part n g t u → Found n g t ws
        at_covered t u us ws (none h vs) j r f s p = absurd j
        at_covered t u us ws (more h y ys vs q c) (inl e) r f s p = at_found t y ws q (subst Single (sym e) r) f s (subst (λ z. Part n g t z) (sym e) p)
        at_covered t u us ws (more h y ys vs q c) (inr j) r f s p = at_covered t u ys ws c j r f s p

        at_found : (t u : Ty) (ws : List Ty) → Found n g u ws → Single u → Fine t → Single t → Part n g t u → Found n g t ws
        at_found t u ws (here h a w vs q) r f s p = here g t w vs (at_part t u w q r f s p)
        at_found t u ws (there h a w vs q) r f s p = there g t w vs (at_found t u vs q r f s p)
        at_found t u ws (raise h a v vs e c) r f s p =
            through_var t u v ws e f s p c (λ x y j k i q. at_covered y x (alts (g.high v)) ws c j (alt_fine n opaque (g.high v) x j).0 k i q)

        at_part : (t u w : Ty) → Part n g u w → Single u → Fine t → Single t → Part n g t u → Part n g t w
        at_part t u w (any h a b e) r f s p = any g t w e
        at_part t u w (tuple h a b us ws d e q) r f s p =
            let i = tuple_part t u us d p in tuple g t w i.0 ws i.1 e (at_parts i.0 us ws q (fine_member t i.0 i.1 f) i.2)
        at_part t u w (nominal h a b k m us zs ws d e l q) r f s p = nominal_part t u w k us d (part_by u w k m us zs ws d e l q) p
        at_part t u w (self h a b v d e) r f s p = let i = is_var u v d ∙ sym (is_var w v e) in subst (λ z. Part n g t z) i p
        at_part t u w (own h a b v d e) r f s p = through_own t u w v d e f p
        at_part t u w (under h a b z e q) r f s p = under g t w z e (at_below t u (g.low z) q r f s p)

        at_below : (t u w : Ty) → Below n g u w → Single u → Fine t → Single t → Part n g t u → Below n g t w
        at_below t u w (below h a b c) r f s p = found_single n g t w s (at_covered t u (alts u) (alts w) c (subst (λ z. Has z u) (sym r) (inl refl)) r f s p)

        at_parts : (ts us ws : List Ty) → Parts n g us ws → ((c : Ty) → Has ts c → Fine c) → Parts n g ts us → Parts n g ts ws
        at_parts ts us ws (parts_end h) f (parts_end i) = parts_end g
        at_parts ts us ws (parts_more h u w vs zs q r) f (parts_more i t y ss ys p k) =
            parts_more g t w ss zs (trans t u w (f t (inl refl)) p q) (at_parts ss vs zs r (λ c j. f c (inr j)) k)
