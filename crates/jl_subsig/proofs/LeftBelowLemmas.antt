-- What a part of a left row is below. A rigid form has no variable at a covariant place: the upper bound of what stands in the row is one.
use Rattle.std.proofs.Common.{◌≡◌, ◌∙◌, sym, ap, subst, refl, ℕ, Bool, true, false, nat_eq, List, [], ◌∷◌, map, Some, ◌⊎◌, inl, inr}
use Rattle.jl_model.specs.declared.ty.Ty.{Ty}
use Rattle.jl_model.specs.declared.ty.Ty.TheOpen.{Any, Tuple, Nominal, Var}
use Rattle.jl_model.specs.declared.ty.Ty.TheViews.{out-Ty, outs-Tuple}
use Rattle.jl_model.specs.declared.ty.Ty.TheViews as V
use Rattle.jl_model.specs.declared.ty.Ty.TheVariants as W
use Rattle.jl_model.specs.declared.ty.Written.{Written}
use Rattle.jl_model.specs.Rows.{alts, root}
use Rattle.jl_model.specs.Signature.{Row, IsRow, fixed, Both, both_end, both_more}
use Rattle.jl_model.specs.Subtype.{Table, Fixed, opaque, lifted, Below, Covered, Found, Part, Parts, Equals, below, here, there, raise, any, tuple, nominal, self, own, under, parts_end, parts_more, Equal}
use Rattle.jl_model.proofs.FormLemmas.{is_tuple, is_nominal, is_var, alts-var}
use Rattle.jl_model.proofs.AncestorLemmas.{Lawful, eq_of}
use Rattle.jl_model.proofs.TransLemmas.{near, far}
use Rattle.jl_subsume.specs.Scoped.{IsScoped}
use Rattle.jl_search.proofs.HasLemmas.{Has, Picks}
use Rattle.jl_subsume.proofs.FormsLemmas.{form_tuple}
use Rattle.jl_search.proofs.PartLemmas.{Plain, plain_tuple, AllPlain, plain_single, tuple_parts, var_number, head_plain, tail_plain}
use Rattle.jl_search.proofs.LiftLemmas.{covered_from, covered_at, found_in, single_found, found_single, part_single, alt_fine}
use Rattle.jl_subsume.proofs.ScopeLemmas.{IsSlot, Never, Small, rigid_plain, slot_high}
use Rattle.jl_subsume.proofs.PutBelowLemmas.{tuple_below}
use Rattle.jl_search.proofs.EqualLemmas.{nominals}
use Rattle.jl_subsume.proofs.SureLemmas.{Sure, AllSure, sure_more, sure_tuple, sure_nominal, sure_var, sure_equal}

module _ (n : Table) (a : Written) (scope : IsScoped a) (l : Row) (row : IsRow n a l) where
  abbrev pub G : Fixed
  G = fixed a l

  abbrev pub B : Ty → Ty → Type 0
  B = Below n G

  abbrev pub Left : Ty → Type 0
  Left = Plain (IsSlot a) (Small a scope)

  abbrev pub Lefts : List Ty → Type 0
  Lefts = AllPlain (IsSlot a) (Small a scope)

  abbrev pub Rigid : Ty → Type 0
  Rigid = Plain Never (Small a scope)

  abbrev pub Rigids : List Ty → Type 0
  Rigids = AllPlain Never (Small a scope)

  pub left_of : (c : Ty) → Rigid c → Left c
  left_of c p = rigid_plain a scope c p

  pub high_rigid : (x : Ty) (k : ℕ) → out-Ty x ≡ Var k → Left x → Rigid (G.high k)
  high_rigid x k e p = slot_high n a l scope row k (var_number (IsSlot a) (Small a scope) x k e p)

  covered_of : (t u : Ty) → B t u → Covered n G (alts t) (alts u)
  covered_of t u (below h x y c) = c

  -- a variable is below what its upper bound is below
  pub raise_below : (x : Ty) (k : ℕ) (w : Ty) → out-Ty x ≡ Var k → B (G.high k) w → B x w
  raise_below x k w e b =
      let i = is_var x k e in
      let s : alts x ≡ x ∷ [] = ap alts i ∙ alts-var k ∙ ap (λ z. z ∷ []) (sym i) in
      found_single n G x w s (raise G x k (alts w) e (covered_of (G.high k) w b))

  -- below as a part, or through the upper bound
  abbrev Shape : Ty → List Ty → Type 0
  Shape x us = ((u : Ty) × Has us u × Part n G x u) ⊎ ((k : ℕ) × (out-Ty x ≡ Var k) × Covered n G (alts (G.high k)) us)

  weaker : (ts us : List Ty) (u : Ty) → Covered n G ts us → Covered n G ts (u ∷ us)
  weaker ts us u c = covered_from n G ts (u ∷ us) (λ x i. there G x u us (covered_at n G ts us x c i))

  shape : (x : Ty) (us : List Ty) → Found n G x us → Shape x us
  shape x us (here g t u vs p) = inl (u, inl refl, p)
  shape x us (there g t u vs f) = elim (shape x vs f) [
    | inl r ↦ inl (r.0, inr r.1, r.2)
    | inr r ↦ inr (r.0, r.1, weaker (alts (G.high r.0)) vs u r.2)
  ]
  shape x us (raise g t v vs e c) = inr (v, e, c)

  left_single : (x : Ty) → Left x → alts x ≡ x ∷ []
  left_single x p = plain_single (IsSlot a) (Small a scope) x p

  rigid_single : (c : Ty) → Rigid c → alts c ≡ c ∷ []
  rigid_single c p = plain_single Never (Small a scope) c p

  rigid_some : (c : Ty) (us : List Ty) → Rigid c → Found n G c us → (u : Ty) × Has us u × Part n G c u
  rigid_some c us p f = elim (shape c us f) [ inl r ↦ r | inr r ↦ absurd (var_number Never (Small a scope) c r.0 r.1 p) ]

  -- what a part of the left row is below it is below by one alternative
  pub alt_of_left : (x w : Ty) → Left x → B x w → (u : Ty) × Has (alts w) u × B x u
  alt_of_left x w p b = elim (shape x (alts w) (single_found n G x w (left_single x p) b)) [
    | inl r ↦ (r.0, r.1, part_single n G x r.0 (left_single x p) (alt_fine n G w r.0 r.1).0 r.2)
    | inr r ↦
        let q = high_rigid x r.0 r.1 p in
        let c = G.high r.0 in
        let s = rigid_some c (alts w) q (covered_at n G (alts c) (alts w) c r.2 (subst (λ z. Has z c) (sym (rigid_single c q)) (inl refl))) in
        (s.0, s.1, raise_below x r.0 s.0 r.1 (part_single n G c s.0 (rigid_single c q) (alt_fine n G w s.0 s.1).0 s.2))
  ]

  pub both_of_parts : (xs us : List Ty) → Parts n G xs us → Both B xs us
  both_of_parts xs us (parts_end g) = both_end
  both_of_parts xs us (parts_more g x y vs ws p r) = both_more x y vs ws p (both_of_parts vs ws r)

  pub parts_of_both : (xs us : List Ty) → Both B xs us → Parts n G xs us
  parts_of_both xs us both_end = parts_end G
  parts_of_both xs us (both_more x y vs ws p r) = parts_more G x y vs ws p (parts_of_both vs ws r)

  pick_left : (xs ws : List Ty) → Lefts xs → Both B xs ws → (ds : List Ty) × Picks ds (map alts ws) × Both B xs ds
  pick_left xs ws p both_end = ([], tt, both_end)
  pick_left xs ws p (both_more x w vs ys b r) =
      let u = alt_of_left x w (head_plain (IsSlot a) (Small a scope) x vs p) b in
      let s = pick_left vs ys (tail_plain (IsSlot a) (Small a scope) x vs p) r in
      (u.0 ∷ s.0, (u.1, s.1), both_more x u.0 vs s.0 u.2 s.2)

  -- tuples, part by part
  pub tuple_left : (xs ws : List Ty) → Lefts xs → Both B xs ws → B (V.Tuple xs) (V.Tuple ws)
  tuple_left xs ws p b =
      let r = pick_left xs ws p b in
      let single = left_single (V.Tuple xs) (plain_tuple (V.Tuple xs) xs (outs-Tuple xs) p) in
      found_single n G (V.Tuple xs) (V.Tuple ws) single
      (found_in n G (alts (V.Tuple ws)) (V.Tuple xs) (V.Tuple r.0) (form_tuple (λ v. W.Var v ∷ []) ws r.0 r.1)
      (tuple G (V.Tuple xs) (V.Tuple r.0) xs r.0 (outs-Tuple xs) (outs-Tuple r.0) (parts_of_both xs r.0 r.2)))

  -- one part, or through the upper bound
  pub left_part : (x u : Ty) → Left x → alts u ≡ u ∷ [] → B x u → Part n G x u ⊎ ((k : ℕ) × (out-Ty x ≡ Var k) × B (G.high k) u)
  left_part x u p s b = elim (shape x (alts u) (single_found n G x u (left_single x p) b)) [
    | inl r ↦ inl (subst (λ z. Part n G x z) (elim (subst (λ z. Has z r.0) s r.1) [ inl e ↦ sym e | inr f ↦ absurd f ]) r.2)
    | inr r ↦ inr (r.0, r.1, below G (G.high r.0) u r.2)
  ]

  pub rigid_part : (c u : Ty) → Rigid c → alts u ≡ u ∷ [] → B c u → Part n G c u
  rigid_part c u p s b = elim (left_part c u (left_of c p) s b) [ inl q ↦ q | inr r ↦ absurd (var_number Never (Small a scope) c r.0 r.1 p) ]

  pub at_tuple : (x u : Ty) (us : List Ty) → out-Ty u ≡ Tuple us → Part n G x u → (xs : List Ty) × (out-Ty x ≡ Tuple xs) × Both B xs us
  at_tuple x u us e (any g t w d) = let i : Tuple us ≡ Any = sym e ∙ d in cc
  at_tuple x u us e (tuple g t w xs ys d o p) = let i : Tuple ys ≡ Tuple us = sym o ∙ e in let c : ys ≡ us = cc in (xs, d, subst (λ z. Both B xs z) c (both_of_parts xs ys p))
  at_tuple x u us e (nominal g t w k m xs zs ys d o l p) = let i : Tuple us ≡ Nominal m ys = sym e ∙ o in cc
  at_tuple x u us e (self g t w v d o) = let i : Tuple us ≡ Var v = sym e ∙ o in cc
  at_tuple x u us e (own g t w v d o) = let i : Tuple us ≡ Var (root a v) = sym e ∙ o in cc
  at_tuple x u us e (under g t w v d b) = let i : Tuple us ≡ Var v = sym e ∙ d in cc

  pub record AtNominal (x : Ty) (m : ℕ) (us : List Ty) : Type 0 where
    pub number : ℕ
    pub given : List Ty
    pub raised : List Ty
    pub is : out-Ty x ≡ Nominal number given
    pub lifts : lifted n number given m ≡ Some raised
    pub equals : Equals n raised us

  pub at_nominal : (x u : Ty) (m : ℕ) (us : List Ty) → out-Ty u ≡ Nominal m us → Part n G x u → AtNominal x m us
  at_nominal x u m us e (any g t w d) = let i : Nominal m us ≡ Any = sym e ∙ d in cc
  at_nominal x u m us e (tuple g t w xs ys d o p) = let i : Nominal m us ≡ Tuple ys = sym e ∙ o in cc
  at_nominal x u m us e (nominal g t w k j xs zs ys d o h p) =
      let i : Nominal j ys ≡ Nominal m us = sym o ∙ e in
      let c : ys ≡ us = cc in
      let q : j ≡ m = cc in
      record { number = k; given = xs; raised = zs; is = d; lifts = subst (λ z. lifted n k xs z ≡ Some zs) q h; equals = subst (λ z. Equals n zs z) c p }
  at_nominal x u m us e (self g t w v d o) = let i : Nominal m us ≡ Var v = sym e ∙ o in cc
  at_nominal x u m us e (own g t w v d o) = let i : Nominal m us ≡ Var (root a v) = sym e ∙ o in cc
  at_nominal x u m us e (under g t w v d b) = let i : Nominal m us ≡ Var v = sym e ∙ d in cc

  -- CONCRETE: no ancestor is a struct, and no bound that is raised is concrete
  module _ (law : Lawful n) (no_struct : (k m : ℕ) (zs : List Ty) → nat_eq k m ≡ false → n.up k m ≡ Some zs → n.is_struct m ≡ false) where
    pub only_own : (k m : ℕ) (xs zs : List Ty) → n.is_struct m ≡ true → lifted n k xs m ≡ Some zs → nat_eq k m ≡ true
    only_own k m xs zs s e = by_test (nat_eq k m) refl
      where
        by_test : (b : Bool) → nat_eq k m ≡ b → b ≡ true
        by_test true i = refl
        by_test false i = let r = far n law k m xs zs i e in let c : true ≡ false = sym s ∙ no_struct k m r.0 i r.1 in cc

    pub struct_equal : (x u : Ty) (k m : ℕ) (xs zs us : List Ty) → out-Ty x ≡ Nominal k xs → out-Ty u ≡ Nominal m us → n.is_struct m ≡ true → lifted n k xs m ≡ Some zs → Equals n zs us → Equal n x u
    struct_equal x u k m xs zs us d e s h q =
        let t = only_own k m xs zs s h in
        let i : k ≡ m = eq_of k m t in
        let j : xs ≡ zs = near n law k m xs zs t h in
        let r : Equal n (V.Nominal k xs) (V.Nominal k us) = nominals n k xs us (subst (λ z. Equals n z us) (sym j) q) in
        subst (λ z. Equal n z u) (sym (is_nominal x k xs d)) (subst (λ z. Equal n (V.Nominal k xs) z) (ap (λ z. V.Nominal z us) i ∙ sym (is_nominal u m us e)) r)

    pub tuple_equal : (x u : Ty) (xs us : List Ty) → out-Ty x ≡ Tuple xs → out-Ty u ≡ Tuple us → Both (Equal n) xs us → Equal n x u
    tuple_equal x u xs us d e b =
        let r : Equal n (V.Tuple xs) (V.Tuple us) = (tuple_below n law xs us (firsts xs us b), tuple_below n law us xs (seconds xs us b)) in
        subst (λ z. Equal n z u) (sym (is_tuple x xs d)) (subst (λ z. Equal n (V.Tuple xs) z) (sym (is_tuple u us e)) r)
      where
        firsts : (xs us : List Ty) → Both (Equal n) xs us → Both (Below n opaque) xs us
        firsts xs us both_end = both_end
        firsts xs us (both_more x u vs ws p r) = both_more x u vs ws p.0 (firsts vs ws r)

        seconds : (xs us : List Ty) → Both (Equal n) xs us → Both (Below n opaque) us xs
        seconds xs us both_end = both_end
        seconds xs us (both_more x u vs ws p r) = both_more u x ws vs p.1 (seconds vs ws r)

    mutual
      rigid_sure : (c u : Ty) → Rigid c → Rigid u → Sure n opaque u → B c u → Equal n c u
      rigid_sure c u p q (sure_tuple t us e s) b =
          let r = at_tuple c u us e (rigid_part c u p (rigid_single u q) b) in
          tuple_equal c u r.0 us r.1 e (all_rigid_sure r.0 us (tuple_parts Never (Small a scope) c r.0 r.1 p) (tuple_parts Never (Small a scope) u us e q) s r.2)
      rigid_sure c u p q (sure_nominal t m us e s) b =
          let r = at_nominal c u m us e (rigid_part c u p (rigid_single u q) b) in
          struct_equal c u r.number m r.given r.raised us r.is e s r.lifts r.equals
      rigid_sure c u p q (sure_var t v e s) b = absurd (var_number Never (Small a scope) u v e q)

      all_rigid_sure : (cs us : List Ty) → Rigids cs → Rigids us → AllSure n opaque us → Both B cs us → Both (Equal n) cs us
      all_rigid_sure cs us p q s both_end = both_end
      all_rigid_sure cs us p q (sure_more t ts s ss) (both_more c u vs ws b r) =
          both_more c u vs ws (rigid_sure c u (head_plain Never (Small a scope) c vs p) (head_plain Never (Small a scope) u ws q) s b) (all_rigid_sure vs ws (tail_plain Never (Small a scope) c vs p) (tail_plain Never (Small a scope) u ws q) ss r)

    module _ (open_bounds : (k : ℕ) → IsSlot a k → Sure n opaque (G.high k) → ⊥) where
      -- through the bound nothing concrete is reached
      pub no_raise : (x u : Ty) (k : ℕ) → Left x → out-Ty x ≡ Var k → Rigid u → Sure n opaque u → B (G.high k) u → ⊥
      no_raise x u k p e q s b =
          let c = high_rigid x k e p in
          open_bounds k (var_number (IsSlot a) (Small a scope) x k e p) (sure_equal n law opaque Never (Small a scope) (G.high k) u c (rigid_sure (G.high k) u c q s b) s)

      through : (x u : Ty) → Left x → Rigid u → Sure n opaque u → B x u → Part n G x u
      through x u p q s b = elim (left_part x u p (rigid_single u q) b) [ inl r ↦ r | inr r ↦ absurd (no_raise x u r.0 p r.1 q s r.2) ]

      mutual
        -- a left part below a concrete type equals it
        pub left_sure : (x u : Ty) → Left x → Rigid u → Sure n opaque u → B x u → Equal n x u
        left_sure x u p q (sure_tuple t us e s) b =
            let r = at_tuple x u us e (through x u p q (sure_tuple u us e s) b) in
            tuple_equal x u r.0 us r.1 e (all_left_sure r.0 us (tuple_parts (IsSlot a) (Small a scope) x r.0 r.1 p) (tuple_parts Never (Small a scope) u us e q) s r.2)
        left_sure x u p q (sure_nominal t m us e s) b =
            let r = at_nominal x u m us e (through x u p q (sure_nominal u m us e s) b) in
            struct_equal x u r.number m r.given r.raised us r.is e s r.lifts r.equals
        left_sure x u p q (sure_var t v e s) b = absurd (var_number Never (Small a scope) u v e q)

        all_left_sure : (xs us : List Ty) → Lefts xs → Rigids us → AllSure n opaque us → Both B xs us → Both (Equal n) xs us
        all_left_sure xs us p q s both_end = both_end
        all_left_sure xs us p q (sure_more t ts s ss) (both_more x u vs ws b r) =
            both_more x u vs ws (left_sure x u (head_plain (IsSlot a) (Small a scope) x vs p) (head_plain Never (Small a scope) u ws q) s b)
            (all_left_sure vs ws (tail_plain (IsSlot a) (Small a scope) x vs p) (tail_plain Never (Small a scope) u ws q) ss r)
