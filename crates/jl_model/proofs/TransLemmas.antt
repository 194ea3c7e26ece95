-- Below is transitive in a lawful table. Arguments that are put in may be larger than what they are put in, so the
-- induction is over the heights of two derivations, and speaks of patterns in which equal arguments are put.
use Rattle.std.proofs.Common.{◌≡◌, ◌∙◌, sym, ap, subst, refl, ℕ, zero, suc, ◌+◌, ◌≤◌, arith, Bool, true, false, nat_eq, List, [], ◌∷◌, map, Option, None, Some, ◌⊎◌, inl, inr}
use Rattle.std.specs.List.{list_all}
use Rattle.jl_model.specs.declared.ty.Ty.{Ty}
use Rattle.jl_model.specs.declared.ty.Ty.TheOpen.{Any, Tuple, Nominal, Var}
use Rattle.jl_model.specs.declared.ty.Ty.TheViews.{out-Ty, outs-Any, outs-Nominal}
use Rattle.jl_model.specs.declared.ty.Ty.TheViews as V
use Rattle.jl_model.specs.Rows.{alts}
use Rattle.jl_model.specs.Signature.{Both, both_end, both_more}
use Rattle.jl_model.specs.Subtype.{Table, opaque, put, at, put_in, lifted, Below, Part, Parts, Equals, any, tuple, nominal, self, parts_end, parts_more, equals_end, equals_more, Equal}
use Rattle.jl_model.proofs.FormLemmas.{alts-nominal, put-nominal, put-var}
use Rattle.jl_model.proofs.PutLemmas.{is_pattern, Pattern, closed, variable, applied, pattern_of, put_patterns, put_at-put, and_l, and_r}
use Rattle.jl_model.proofs.AncestorLemmas.{Lawful, eq_of, not_eq}
use Rattle.jl_model.proofs.SelfLemmas.{below_self}
use Rattle.jl_model.proofs.HeightLemmas.{SomeBy, this, that, CoverBy, nothing, another, Ways, PartBy, by_any, by_tuple, by_nominal, by_self, some_map, BelowAt, back, below_of, high, high_equals}

-- one after another, in lists
some_trans : (P Q R : Ty → Ty → Type 0) → ((a b c : Ty) → P a b → Q b c → R a c) → (a : Ty) (ss us : List Ty) → SomeBy P a ss → CoverBy Q ss us → SomeBy R a us
some_trans P Q R f a ss us (this t s vs p) (another x ts ws q c) = some_map Q R s a (λ u r. f a s u p r) us q
some_trans P Q R f a ss us (that t s vs p) (another x ts ws q c) = some_trans P Q R f a vs us p c

cover_trans : (P Q R : Ty → Ty → Type 0) → ((a b c : Ty) → P a b → Q b c → R a c) → (ts ss us : List Ty) → CoverBy P ts ss → CoverBy Q ss us → CoverBy R ts us
cover_trans P Q R f ts ss us (nothing vs) d = nothing us
cover_trans P Q R f ts ss us (another t rs vs p c) d = another t rs us (some_trans P Q R f t ss us p d) (cover_trans P Q R f rs ss us c d)

only : (P : Ty → Ty → Type 0) (t : Ty) (us : List Ty) → CoverBy P (t ∷ []) us → SomeBy P t us
only P t us (another a ts vs s c) = s

only_one : (P : Ty → Ty → Type 0) (t u : Ty) → SomeBy P t (u ∷ []) → P t u
only_one P t u (this a b vs p) = p
only_one P t u (that a b vs s) = elim s [ ]

module _ (n : Table) (law : Lawful n) where
  abbrev B : Ty → Ty → Type 0
  B = Below n opaque

  abbrev Pairs : ℕ → List Ty → List Ty → Type 0
  Pairs h = Both (Ways (BelowAt n h))

  -- what stands under the ancestor of an ancestor
  lifted_far : (k m : ℕ) (xs ys : List Ty) (o : Option (List Ty)) → nat_eq k m ≡ false → n.up k m ≡ o → put_in xs o ≡ Some ys → (zs : List Ty) × (n.up k m ≡ Some zs) × (map (put (at xs)) zs ≡ ys)
  lifted_far k m xs ys None e u h = let f : None ≡ Some ys = h in cc
  lifted_far k m xs ys (Some zs) e u h = let f : Some (map (put (at xs)) zs) ≡ Some ys = h in (zs, u, cc)

  pub far : (k m : ℕ) (xs ys : List Ty) → nat_eq k m ≡ false → lifted n k xs m ≡ Some ys → (zs : List Ty) × (n.up k m ≡ Some zs) × (map (put (at xs)) zs ≡ ys)
  far k m xs ys e l =
      let a : lifted n k xs m ≡ put_in xs (n.up k m) = rw e refl in
      lifted_far k m xs ys (n.up k m) e refl (sym a ∙ l)

  pub near : (k m : ℕ) (xs ys : List Ty) → nat_eq k m ≡ true → lifted n k xs m ≡ Some ys → xs ≡ ys
  near k m xs ys e l =
      let a : lifted n k xs m ≡ Some xs = rw e refl in
      let f : Some xs ≡ Some ys = sym a ∙ l in cc

  same_or : (b : Bool) → (b ≡ true) ⊎ (b ≡ false)
  same_or true = inl refl
  same_or false = inr refl

  -- ancestors compose
  pub lifted_on : (k m q : ℕ) (xs ys zs : List Ty) → lifted n k xs m ≡ Some ys → nat_eq m q ≡ false → n.up m q ≡ Some zs → lifted n k xs q ≡ Some (map (put (at ys)) zs)
  lifted_on k m q xs ys zs l e u = elim (same_or (nat_eq k m)) [
    | inl t ↦
        let s : xs ≡ ys = near k m xs ys t l in
        let i : k ≡ m = eq_of k m t in
        let w : n.up k q ≡ Some zs = ap (λ j. n.up j q) i ∙ u in
        let d : nat_eq k q ≡ false = ap (λ j. nat_eq j q) i ∙ e in
        let a : lifted n k xs q ≡ put_in xs (n.up k q) = rw d refl in
        a ∙ ap (put_in xs) w ∙ ap (λ vs. Some (map (put (at vs)) zs)) s
    | inr f ↦
        let r = far k m xs ys f l in
        let w = law.through k m q r.0 zs f e r.1 u in
        let low = law.falls k m r.0 f r.1 in
        let lower = law.falls m q zs e u in
        let d : nat_eq k q ≡ false = not_eq k q (omega arith) in
        let a : lifted n k xs q ≡ put_in xs (n.up k q) = rw d refl in
        a ∙ ap (put_in xs) w ∙ ap (λ vs. Some vs) (put_at-put xs r.0 zs) ∙ ap (λ vs. Some (map (put (at vs)) zs)) r.2
  ]

  pub lifted_again : (k m q : ℕ) (xs ys zs : List Ty) → lifted n k xs m ≡ Some ys → lifted n m ys q ≡ Some zs → lifted n k xs q ≡ Some zs
  lifted_again k m q xs ys zs l r = elim (same_or (nat_eq m q)) [
    | inl t ↦ let i : q ≡ m = sym (eq_of m q t) in ap (λ j. lifted n k xs j) i ∙ l ∙ ap (λ vs. Some vs) (near m q ys zs t r)
    | inr f ↦ let w = far m q ys zs f r in lifted_on k m q xs ys w.0 l f w.1 ∙ ap (λ vs. Some vs) w.2
  ]

  -- the laws at heights whose sum is bounded
  record Laws (b : ℕ) : Type 0 where
    pub trans : (h k : ℕ) → h + k ≤ b → (x y z : Ty) → BelowAt n h x y → BelowAt n k y z → B x z
    pub left : (h k : ℕ) → h + k ≤ b → (p : Ty) → is_pattern p ≡ true → (xs ys : List Ty) → Pairs h xs ys → (w : Ty) → BelowAt n k (put (at ys) p) w → B (put (at xs) p) w
    pub right : (h k : ℕ) → h + k ≤ b → (p : Ty) → is_pattern p ≡ true → (xs ys : List Ty) → Pairs h xs ys → (w : Ty) → BelowAt n k w (put (at ys) p) → B w (put (at xs) p)

  module _ (b : ℕ) (ih : Laws b) where
    parts_trans : (h k : ℕ) → h + k ≤ b → (xs ys zs : List Ty) → Both (BelowAt n h) xs ys → Both (BelowAt n k) ys zs → Parts n opaque xs zs
    parts_trans h k l xs ys zs both_end both_end = parts_end opaque
    parts_trans h k l xs ys zs (both_more x y vs ws p r) (both_more t z us os q s) = parts_more opaque x z vs os (ih.trans h k l x y z p q) (parts_trans h k l vs ws os r s)

    equals_trans : (h k : ℕ) → h + k ≤ b → (xs ys zs : List Ty) → Pairs h xs ys → Pairs k ys zs → Equals n xs zs
    equals_trans h k l xs ys zs both_end both_end = equals_end
    equals_trans h k l xs ys zs (both_more x y vs ws p r) (both_more t z us os q s) =
        equals_more x z vs os (ih.trans h k l x y z p.0 q.0) (ih.trans k h (omega arith) z y x q.1 p.1) (equals_trans h k l vs ws os r s)

    -- equal arguments put in patterns, on the left and on the right of an equation
    put_left : (h k : ℕ) → h + k ≤ b → (ps : List Ty) → list_all is_pattern ps ≡ true → (xs ys : List Ty) → Pairs h xs ys → (ws : List Ty) → Pairs k (map (put (at ys)) ps) ws → Equals n (map (put (at xs)) ps) ws
    put_left h k l [] g xs ys e [] both_end = equals_end
    put_left h k l [] g xs ys e (w ∷ ws) c = elim c [ ]
    put_left h k l (p ∷ ps) g xs ys e [] c = elim c [ ]
    put_left h k l (p ∷ ps) g xs ys e (w ∷ ws) (both_more t z us os q s) =
        let i = and_l (is_pattern p) (list_all is_pattern ps) g in
        equals_more (put (at xs) p) w (map (put (at xs)) ps) ws (ih.left h k l p i xs ys e w q.0) (ih.right h k l p i xs ys e w q.1)
        (put_left h k l ps (and_r (is_pattern p) (list_all is_pattern ps) g) xs ys e ws s)

    put_right : (h k : ℕ) → h + k ≤ b → (ps : List Ty) → list_all is_pattern ps ≡ true → (xs ys : List Ty) → Pairs h xs ys → (ws : List Ty) → Pairs k ws (map (put (at ys)) ps) → Equals n ws (map (put (at xs)) ps)
    put_right h k l [] g xs ys e [] both_end = equals_end
    put_right h k l [] g xs ys e (w ∷ ws) c = elim c [ ]
    put_right h k l (p ∷ ps) g xs ys e [] c = elim c [ ]
    put_right h k l (p ∷ ps) g xs ys e (w ∷ ws) (both_more t z us os q s) =
        let i = and_l (is_pattern p) (list_all is_pattern ps) g in
        equals_more w (put (at xs) p) ws (map (put (at xs)) ps) (ih.right h k l p i xs ys e w q.0) (ih.left h k l p i xs ys e w q.1)
        (put_right h k l ps (and_r (is_pattern p) (list_all is_pattern ps) g) xs ys e ws s)

    nominal_trans : (h k : ℕ) → h + k ≤ b → (a c : Ty) (i m q : ℕ) (xs zs ys rs vs : List Ty) → out-Ty a ≡ Nominal i xs → out-Ty c ≡ Nominal q vs
        → lifted n i xs m ≡ Some zs → Pairs h zs ys → lifted n m ys q ≡ Some rs → Pairs k rs vs → Part n opaque a c
    nominal_trans h k l a c i m q xs zs ys rs vs d e u p w s = elim (same_or (nat_eq m q)) [
      | inl t ↦
          let j : q ≡ m = sym (eq_of m q t) in
          let r : rs ≡ ys = sym (near m q ys rs t w) in
          nominal opaque a c i q xs zs vs d e (ap (λ z. lifted n i xs z) j ∙ u) (equals_trans h k l zs ys vs p (subst (λ z. Pairs k z vs) r s))
      | inr f ↦
          let g = far m q ys rs f w in
          nominal opaque a c i q xs (map (put (at zs)) g.0) vs d e (lifted_on i m q xs zs g.0 u f g.1)
          (put_left h k l g.0 (law.patterns m q g.0 g.1) zs ys p vs (subst (λ z. Pairs k z vs) (sym g.2) s))
    ]

    part_trans : (h k : ℕ) → h + k ≤ b → (x y z : Ty) → PartBy n (BelowAt n h) x y → PartBy n (BelowAt n k) y z → Part n opaque x z
    part_trans h k l x y z p (by_any t u e) = any opaque x z e
    part_trans h k l x y z (by_any t u e) (by_tuple t2 u2 xs ys f g q) = let i : Tuple xs ≡ Any = sym f ∙ e in cc
    part_trans h k l x y z (by_any t u e) (by_nominal t2 u2 i m xs rs ys f g w q) = let j : Nominal i xs ≡ Any = sym f ∙ e in cc
    part_trans h k l x y z (by_any t u e) (by_self t2 u2 v f g) = let j : Var v ≡ Any = sym f ∙ e in cc
    part_trans h k l x y z (by_tuple t u vs ws d e p) (by_nominal t2 u2 i m xs rs ys f g w q) = let j : Nominal i xs ≡ Tuple ws = sym f ∙ e in cc
    part_trans h k l x y z (by_tuple t u vs ws d e p) (by_self t2 u2 v f g) = let j : Var v ≡ Tuple ws = sym f ∙ e in cc
    part_trans h k l x y z (by_nominal t u i m vs rs ws d e w p) (by_tuple t2 u2 xs ys f g q) = let j : Tuple xs ≡ Nominal m ws = sym f ∙ e in cc
    part_trans h k l x y z (by_nominal t u i m vs rs ws d e w p) (by_self t2 u2 v f g) = let j : Var v ≡ Nominal m ws = sym f ∙ e in cc
    part_trans h k l x y z (by_self t u v d e) (by_tuple t2 u2 xs ys f g q) = let j : Tuple xs ≡ Var v = sym f ∙ e in cc
    part_trans h k l x y z (by_self t u v d e) (by_nominal t2 u2 i m xs rs ys f g w q) = let j : Nominal i xs ≡ Var v = sym f ∙ e in cc
    part_trans h k l x y z (by_self t u v d e) (by_self t2 u2 w f g) =
        let j : Var w ≡ Var v = sym f ∙ e in
        let s : w ≡ v = cc in
        self opaque x z v d (g ∙ ap (λ (i : ℕ). Var i) s)
    part_trans h k l x y z (by_tuple t u vs ws d e p) (by_tuple t2 u2 xs ys f g q) =
        let j : Tuple xs ≡ Tuple ws = sym f ∙ e in
        let s : xs ≡ ws = cc in
        tuple opaque x z vs ys d g (parts_trans h k l vs ws ys p (subst (λ r. Both (BelowAt n k) r ys) s q))
    part_trans h k l x y z (by_nominal t u i m vs rs ws d e w p) (by_nominal t2 u2 j q xs os ys f g r s) =
        let c : Nominal j xs ≡ Nominal m ws = sym f ∙ e in
        let same_name : j ≡ m = cc in
        let same_args : xs ≡ ws = cc in
        let r2 : lifted n m ws q ≡ Some os = rw (← same_name, ← same_args) r in
        nominal_trans h k l x z i m q vs rs ws os ys d g w p r2 s

    trans_step : (h k : ℕ) → h + k ≤ suc b → (x y z : Ty) → BelowAt n h x y → BelowAt n k y z → B x z
    trans_step zero k l x y z p q = absurd p
    trans_step (suc h) zero l x y z p q = absurd q
    trans_step (suc h) (suc k) l x y z p q =
        below_of n x z (cover_trans (PartBy n (BelowAt n h)) (PartBy n (BelowAt n k)) (Part n opaque) (part_trans h k (omega arith)) (alts x) (alts y) (alts z) p q)

    -- a variable of a pattern
    at_pairs : (h : ℕ) (xs ys : List Ty) (v : ℕ) → Pairs h xs ys → Ways (BelowAt n h) (at xs v) (at ys v) ⊎ (at ys v ≡ at xs v)
    at_pairs h xs ys v both_end = inr refl
    at_pairs h xs ys zero (both_more x y vs ws p r) = inl p
    at_pairs h xs ys (suc v) (both_more x y vs ws p r) = at_pairs h vs ws v r

    var_left : (h k : ℕ) → h + k ≤ suc b → (v : ℕ) (xs ys : List Ty) → Pairs h xs ys → (w : Ty) → BelowAt n k (at ys v) w → B (at xs v) w
    var_left h k l v xs ys e w c = elim (at_pairs h xs ys v e) [
      | inl p ↦ trans_step h k l (at xs v) (at ys v) w p.0 c
      | inr s ↦ back n k (at xs v) w (subst (λ z. BelowAt n k z w) s c)
    ]

    var_right : (h k : ℕ) → h + k ≤ suc b → (v : ℕ) (xs ys : List Ty) → Pairs h xs ys → (w : Ty) → BelowAt n k w (at ys v) → B w (at xs v)
    var_right h k l v xs ys e w c = elim (at_pairs h xs ys v e) [
      | inl p ↦ trans_step k h (omega arith) w (at ys v) (at xs v) c p.1
      | inr s ↦ back n k w (at xs v) (subst (λ z. BelowAt n k w z) s c)
    ]

    -- a nominal type on the left, with patterns as arguments
    args_left : (h k : ℕ) → h + k ≤ b → (i m : ℕ) (ps : List Ty) → list_all is_pattern ps ≡ true → (xs ys zs vs : List Ty) → Pairs h xs ys → lifted n i (map (put (at ys)) ps) m ≡ Some zs → Pairs k zs vs
        → (rs : List Ty) × (lifted n i (map (put (at xs)) ps) m ≡ Some rs) × Equals n rs vs
    args_left h k l i m ps g xs ys zs vs e u c = elim (same_or (nat_eq i m)) [
      | inl t ↦
          let s : zs ≡ map (put (at ys)) ps = sym (near i m (map (put (at ys)) ps) zs t u) in
          let a : lifted n i (map (put (at xs)) ps) m ≡ Some (map (put (at xs)) ps) = rw t refl in
          (map (put (at xs)) ps, a, put_left h k l ps g xs ys e vs (subst (λ z. Pairs k z vs) s c))
      | inr f ↦
          let r = far i m (map (put (at ys)) ps) zs f u in
          let os = map (put (at ps)) r.0 in
          let s : zs ≡ map (put (at ys)) os = sym r.2 ∙ sym (put_at-put ys ps r.0) in
          let a : lifted n i (map (put (at xs)) ps) m ≡ put_in (map (put (at xs)) ps) (n.up i m) = rw f refl in
          let w : lifted n i (map (put (at xs)) ps) m ≡ Some (map (put (at xs)) os) = a ∙ ap (put_in (map (put (at xs)) ps)) r.1 ∙ ap (λ z. Some z) (sym (put_at-put xs ps r.0)) in
          (map (put (at xs)) os, w, put_left h k l os (put_patterns ps g r.0 (law.patterns i m r.0 r.1)) xs ys e vs (subst (λ z. Pairs k z vs) s c))
    ]

    part_left : (h k : ℕ) → h + k ≤ b → (i : ℕ) (ps : List Ty) → list_all is_pattern ps ≡ true → (xs ys : List Ty) → Pairs h xs ys → (w : Ty)
        → PartBy n (BelowAt n k) (V.Nominal i (map (put (at ys)) ps)) w → Part n opaque (V.Nominal i (map (put (at xs)) ps)) w
    part_left h k l i ps g xs ys e w (by_any t u d) = any opaque (V.Nominal i (map (put (at xs)) ps)) w d
    part_left h k l i ps g xs ys e w (by_tuple t u vs ws d f p) = let j : Nominal i (map (put (at ys)) ps) ≡ Tuple vs = sym (outs-Nominal i (map (put (at ys)) ps)) ∙ d in cc
    part_left h k l i ps g xs ys e w (by_self t u v d f) = let j : Nominal i (map (put (at ys)) ps) ≡ Var v = sym (outs-Nominal i (map (put (at ys)) ps)) ∙ d in cc
    part_left h k l i ps g xs ys e w (by_nominal t u o m us zs vs d f r c) =
        let j : Nominal i (map (put (at ys)) ps) ≡ Nominal o us = sym (outs-Nominal i (map (put (at ys)) ps)) ∙ d in
        let same_name : o ≡ i = cc in
        let same_args : us ≡ map (put (at ys)) ps = cc in
        let r2 : lifted n i (map (put (at ys)) ps) m ≡ Some zs = rw (← same_name, ← same_args) r in
        let q = args_left h k l i m ps g xs ys zs vs e r2 c in
        nominal opaque (V.Nominal i (map (put (at xs)) ps)) w i m (map (put (at xs)) ps) q.0 vs (outs-Nominal i (map (put (at xs)) ps)) f q.1 q.2

    part_right : (h k : ℕ) → h + k ≤ b → (i : ℕ) (ps : List Ty) → list_all is_pattern ps ≡ true → (xs ys : List Ty) → Pairs h xs ys → (w : Ty)
        → PartBy n (BelowAt n k) w (V.Nominal i (map (put (at ys)) ps)) → Part n opaque w (V.Nominal i (map (put (at xs)) ps))
    part_right h k l i ps g xs ys e w (by_any t u d) = let j : Nominal i (map (put (at ys)) ps) ≡ Any = sym (outs-Nominal i (map (put (at ys)) ps)) ∙ d in cc
    part_right h k l i ps g xs ys e w (by_tuple t u vs ws d f p) = let j : Nominal i (map (put (at ys)) ps) ≡ Tuple ws = sym (outs-Nominal i (map (put (at ys)) ps)) ∙ f in cc
    part_right h k l i ps g xs ys e w (by_self t u v d f) = let j : Nominal i (map (put (at ys)) ps) ≡ Var v = sym (outs-Nominal i (map (put (at ys)) ps)) ∙ f in cc
    part_right h k l i ps g xs ys e w (by_nominal t u o m us zs vs d f r c) =
        let j : Nominal i (map (put (at ys)) ps) ≡ Nominal m vs = sym (outs-Nominal i (map (put (at ys)) ps)) ∙ f in
        let same_name : m ≡ i = cc in
        let same_args : vs ≡ map (put (at ys)) ps = cc in
        let r2 : lifted n o us i ≡ Some zs = rw (← same_name) r in
        nominal opaque w (V.Nominal i (map (put (at xs)) ps)) o i us zs (map (put (at xs)) ps) d (outs-Nominal i (map (put (at xs)) ps)) r2
        (put_right h k l ps g xs ys e zs (subst (λ z. Pairs k zs z) same_args c))

    applied_left : (h k : ℕ) → h + k ≤ suc b → (i : ℕ) (ps : List Ty) → list_all is_pattern ps ≡ true → (xs ys : List Ty) → Pairs h xs ys → (w : Ty)
        → BelowAt n k (V.Nominal i (map (put (at ys)) ps)) w → B (V.Nominal i (map (put (at xs)) ps)) w
    applied_left h zero l i ps g xs ys e w c = absurd c
    applied_left h (suc k) l i ps g xs ys e w c =
        let P : Ty → Ty → Type 0 = PartBy n (BelowAt n k) in
        let t = V.Nominal i (map (put (at ys)) ps) in
        let t2 = V.Nominal i (map (put (at xs)) ps) in
        let s : SomeBy P t (alts w) = only P t (alts w) (subst (λ z. CoverBy P z (alts w)) (alts-nominal i (map (put (at ys)) ps)) c) in
        let s2 : SomeBy (Part n opaque) t2 (alts w) = some_map P (Part n opaque) t t2 (λ u p. part_left h k (omega arith) i ps g xs ys e u p) (alts w) s in
        below_of n t2 w (subst (λ z. CoverBy (Part n opaque) z (alts w)) (sym (alts-nominal i (map (put (at xs)) ps))) (another t2 [] (alts w) s2 (nothing (alts w))))

    applied_right : (h k : ℕ) → h + k ≤ suc b → (i : ℕ) (ps : List Ty) → list_all is_pattern ps ≡ true → (xs ys : List Ty) → Pairs h xs ys → (w : Ty)
        → BelowAt n k w (V.Nominal i (map (put (at ys)) ps)) → B w (V.Nominal i (map (put (at xs)) ps))
    applied_right h zero l i ps g xs ys e w c = absurd c
    applied_right h (suc k) l i ps g xs ys e w c =
        let P : Ty → Ty → Type 0 = PartBy n (BelowAt n k) in
        let t = V.Nominal i (map (put (at ys)) ps) in
        let t2 = V.Nominal i (map (put (at xs)) ps) in
        below_of n w t2 (subst (λ z. CoverBy (Part n opaque) (alts w) z) (sym (alts-nominal i (map (put (at xs)) ps)))
        (each_right P t t2 (λ a p. part_right h k (omega arith) i ps g xs ys e a p) (alts w) (subst (λ z. CoverBy P (alts w) z) (alts-nominal i (map (put (at ys)) ps)) c)))
      where
        each_right : (P : Ty → Ty → Type 0) (t t2 : Ty) → ((a : Ty) → P a t → Part n opaque a t2) → (ts : List Ty) → CoverBy P ts (t ∷ []) → CoverBy (Part n opaque) ts (t2 ∷ [])
        each_right P t t2 f ts (nothing vs) = nothing (t2 ∷ [])
        each_right P t t2 f ts (another a rs vs s c) = another a rs (t2 ∷ []) (this a t2 [] (f a (only_one P a t s))) (each_right P t t2 f rs c)

    left_step : (h k : ℕ) → h + k ≤ suc b → (p : Ty) → is_pattern p ≡ true → (xs ys : List Ty) → Pairs h xs ys → (w : Ty) → BelowAt n k (put (at ys) p) w → B (put (at xs) p) w
    left_step h k l p g xs ys e w c = by_form p (pattern_of p g) c
      where
        by_form : (t : Ty) → Pattern t → BelowAt n k (put (at ys) t) w → B (put (at xs) t) w
        by_form t (closed s f) d = back n k (put (at xs) t) w (subst (λ z. BelowAt n k z w) (f (at ys) ∙ sym (f (at xs))) d)
        by_form t (variable v) d = subst (λ z. B z w) (sym (put-var (at xs) v)) (var_left h k l v xs ys e w (subst (λ z. BelowAt n k z w) (put-var (at ys) v) d))
        by_form t (applied i ps q) d = subst (λ z. B z w) (sym (put-nominal (at xs) i ps)) (applied_left h k l i ps q xs ys e w (subst (λ z. BelowAt n k z w) (put-nominal (at ys) i ps) d))

    right_step : (h k : ℕ) → h + k ≤ suc b → (p : Ty) → is_pattern p ≡ true → (xs ys : List Ty) → Pairs h xs ys → (w : Ty) → BelowAt n k w (put (at ys) p) → B w (put (at xs) p)
    right_step h k l p g xs ys e w c = by_form p (pattern_of p g) c
      where
        by_form : (t : Ty) → Pattern t → BelowAt n k w (put (at ys) t) → B w (put (at xs) t)
        by_form t (closed s f) d = back n k w (put (at xs) t) (subst (λ z. BelowAt n k w z) (f (at ys) ∙ sym (f (at xs))) d)
        by_form t (variable v) d = subst (λ z. B w z) (sym (put-var (at xs) v)) (var_right h k l v xs ys e w (subst (λ z. BelowAt n k w z) (put-var (at ys) v) d))
        by_form t (applied i ps q) d = subst (λ z. B w z) (sym (put-nominal (at xs) i ps)) (applied_right h k l i ps q xs ys e w (subst (λ z. BelowAt n k w z) (put-nominal (at ys) i ps) d))

    step : Laws (suc b)
    step = record { trans = trans_step; left = left_step; right = right_step }

  -- at height zero there is nothing below
  trans_none : (h k : ℕ) → h + k ≤ 0 → (x y z : Ty) → BelowAt n h x y → BelowAt n k y z → B x z
  trans_none zero k l x y z p q = absurd p
  trans_none (suc h) k l x y z p q = absurd (omega arith)

  left_none : (h k : ℕ) → h + k ≤ 0 → (p : Ty) → is_pattern p ≡ true → (xs ys : List Ty) → Pairs h xs ys → (w : Ty) → BelowAt n k (put (at ys) p) w → B (put (at xs) p) w
  left_none h zero l p g xs ys e w c = absurd c
  left_none h (suc k) l p g xs ys e w c = absurd (omega arith)

  right_none : (h k : ℕ) → h + k ≤ 0 → (p : Ty) → is_pattern p ≡ true → (xs ys : List Ty) → Pairs h xs ys → (w : Ty) → BelowAt n k w (put (at ys) p) → B w (put (at xs) p)
  right_none h zero l p g xs ys e w c = absurd c
  right_none h (suc k) l p g xs ys e w c = absurd (omega arith)

  laws : (b : ℕ) → Laws b
  laws zero = record { trans = trans_none; left = left_none; right = right_none }
  laws (suc b) = step b (laws b)

  pub below_trans : (x y z : Ty) → Below n opaque x y → Below n opaque y z → Below n opaque x z
  below_trans x y z p q =
      let r = high n x y p in
      let s = high n y z q in
      (laws (r.0 + s.0)).trans r.0 s.0 (omega arith) x y z r.1 s.1

  pub equal_trans : (x y z : Ty) → Equal n x y → Equal n y z → Equal n x z
  equal_trans x y z p q = (below_trans x y z p.0 q.0, below_trans z y x q.1 p.1)

  pub put_equal : (p : Ty) → is_pattern p ≡ true → (xs ys : List Ty) → Equals n xs ys → Below n opaque (put (at xs) p) (put (at ys) p)
  put_equal p g xs ys e =
      let r = high_equals n xs ys e in
      let w = put (at ys) p in
      let s = high n w w (below_self n w) in
      (laws (r.0 + s.0)).left r.0 s.0 (omega arith) p g xs ys r.1 w s.1
