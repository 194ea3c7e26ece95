-- Below with a bound on the height of its derivation.
use Rattle.std.proofs.Common.{◌≡◌, ◌∙◌, sym, subst, ℕ, zero, suc, ◌≤◌, max, arith, List, [], ◌∷◌, Some}
use Rattle.jl_model.specs.declared.ty.Ty.{Ty}
use Rattle.jl_model.specs.declared.ty.Ty.TheOpen.{Any, Tuple, Nominal, Var}
use Rattle.jl_model.specs.declared.ty.Ty.TheViews.{out-Ty, outs-Any}
use Rattle.jl_model.specs.declared.ty.Ty.TheViews as V
use Rattle.jl_model.specs.declared.ty.Ty.TheVariants as W
use Rattle.jl_model.specs.Rows.{alts}
use Rattle.jl_model.specs.Signature.{Both, both_end, both_more}
use Rattle.jl_model.specs.Subtype.{Table, opaque, lifted, Below, Covered, Found, Part, Parts, Equals, below, none, more, here, there, raise, any, tuple, nominal, self, own, under, parts_end, parts_more, equals_end, equals_more}
use Rattle.jl_model.proofs.TypeInduction.{Each}
use Rattle.jl_model.proofs.FormLemmas.{alts-any, alts-union}
use Rattle.jl_model.proofs.SelfLemmas.{Fine, alts_fine}

-- some of a list, and each of a list
pub data SomeBy (P : Ty → Ty → Type 0) : Ty → List Ty → Type 0 where
  this : (t u : Ty) (us : List Ty) → P t u → SomeBy P t (u ∷ us)
  that : (t u : Ty) (us : List Ty) → SomeBy P t us → SomeBy P t (u ∷ us)

pub data CoverBy (P : Ty → Ty → Type 0) : List Ty → List Ty → Type 0 where
  nothing : (us : List Ty) → CoverBy P [] us
  another : (t : Ty) (ts us : List Ty) → SomeBy P t us → CoverBy P ts us → CoverBy P (t ∷ ts) us

-- both ways
abbrev pub Ways : (Ty → Ty → Type 0) → Ty → Ty → Type 0
Ways R x y = R x y × R y x

module _ (n : Table) where
  -- part below part, where R holds of what stands in them
  pub data PartBy (R : Ty → Ty → Type 0) : Ty → Ty → Type 0 where
    by_any : (t u : Ty) → out-Ty u ≡ Any → PartBy R t u
    by_tuple : (t u : Ty) (xs ys : List Ty) → out-Ty t ≡ Tuple xs → out-Ty u ≡ Tuple ys → Both R xs ys → PartBy R t u
    by_nominal : (t u : Ty) (k m : ℕ) (xs zs ys : List Ty) → out-Ty t ≡ Nominal k xs → out-Ty u ≡ Nominal m ys
        → lifted n k xs m ≡ Some zs → Both (Ways R) zs ys → PartBy R t u
    by_self : (t u : Ty) (v : ℕ) → out-Ty t ≡ Var v → out-Ty u ≡ Var v → PartBy R t u

pub both_map : (P Q : Ty → Ty → Type 0) → ((x y : Ty) → P x y → Q x y) → (xs ys : List Ty) → Both P xs ys → Both Q xs ys
both_map P Q f xs ys both_end = both_end
both_map P Q f xs ys (both_more x y vs ws p r) = both_more x y vs ws (f x y p) (both_map P Q f vs ws r)

pub some_map : (P Q : Ty → Ty → Type 0) (t w : Ty) → ((u : Ty) → P t u → Q w u) → (us : List Ty) → SomeBy P t us → SomeBy Q w us
some_map P Q t w f us (this s u vs p) = this w u vs (f u p)
some_map P Q t w f us (that s u vs r) = that w u vs (some_map P Q t w f vs r)

pub cover_map : (P Q : Ty → Ty → Type 0) → ((x y : Ty) → P x y → Q x y) → (ts us : List Ty) → CoverBy P ts us → CoverBy Q ts us
cover_map P Q f ts us (nothing vs) = nothing us
cover_map P Q f ts us (another t rs vs s c) = another t rs us (some_map P Q t t (f t) us s) (cover_map P Q f rs us c)

module _ (n : Table) where
  pub part_map : (R S : Ty → Ty → Type 0) → ((x y : Ty) → R x y → S x y) → (t u : Ty) → PartBy n R t u → PartBy n S t u
  part_map R S f t u (by_any a b e) = by_any t u e
  part_map R S f t u (by_tuple a b xs ys d e p) = by_tuple t u xs ys d e (both_map R S f xs ys p)
  part_map R S f t u (by_nominal a b k m xs zs ys d e l p) = by_nominal t u k m xs zs ys d e l (both_map (Ways R) (Ways S) (λ x y h. (f x y h.0, f y x h.1)) zs ys p)
  part_map R S f t u (by_self a b v d e) = by_self t u v d e

  abbrev pub BelowAt : ℕ → Ty → Ty → Type 0
  BelowAt zero t u = ⊥
  BelowAt (suc h) t u = CoverBy (PartBy n (BelowAt h)) (alts t) (alts u)

  pub climb : (h k : ℕ) → h ≤ k → (t u : Ty) → BelowAt h t u → BelowAt k t u
  climb zero k l t u b = absurd b
  climb (suc h) zero l t u b = absurd (omega arith)
  climb (suc h) (suc k) l t u b =
      cover_map (PartBy n (BelowAt h)) (PartBy n (BelowAt k)) (part_map (BelowAt h) (BelowAt k) (climb h k (omega arith))) (alts t) (alts u) b

  -- back to the definition
  cover_back : (ts us : List Ty) → CoverBy (Part n opaque) ts us → Covered n opaque ts us
  cover_back ts us (nothing vs) = none opaque us
  cover_back ts us (another t rs vs s c) = more opaque t rs us (some_back t us s) (cover_back rs us c)
    where
      some_back : (t : Ty) (us : List Ty) → SomeBy (Part n opaque) t us → Found n opaque t us
      some_back t us (this a u vs p) = here opaque t u vs p
      some_back t us (that a u vs s) = there opaque t u vs (some_back t vs s)

  pub below_of : (t u : Ty) → CoverBy (Part n opaque) (alts t) (alts u) → Below n opaque t u
  below_of t u c = below opaque t u (cover_back (alts t) (alts u) c)

  pub parts_of : (xs ys : List Ty) → Both (Below n opaque) xs ys → Parts n opaque xs ys
  parts_of xs ys both_end = parts_end opaque
  parts_of xs ys (both_more x y vs ws p r) = parts_more opaque x y vs ws p (parts_of vs ws r)

  pub equals_of : (xs ys : List Ty) → Both (Ways (Below n opaque)) xs ys → Equals n xs ys
  equals_of xs ys both_end = equals_end
  equals_of xs ys (both_more x y vs ws p r) = equals_more x y vs ws p.0 p.1 (equals_of vs ws r)

  pub part_of : (t u : Ty) → PartBy n (Below n opaque) t u → Part n opaque t u
  part_of t u (by_any a b e) = any opaque t u e
  part_of t u (by_tuple a b xs ys d e p) = tuple opaque t u xs ys d e (parts_of xs ys p)
  part_of t u (by_nominal a b k m xs zs ys d e l p) = nominal opaque t u k m xs zs ys d e l (equals_of zs ys p)
  part_of t u (by_self a b v d e) = self opaque t u v d e

  pub back : (h : ℕ) (t u : Ty) → BelowAt h t u → Below n opaque t u
  back zero t u b = absurd b
  back (suc h) t u b = below_of t u (cover_map (PartBy n (BelowAt h)) (Part n opaque) (λ x y p. part_of x y (part_map (BelowAt h) (Below n opaque) (back h) x y p)) (alts t) (alts u) b)

  -- a variable with nothing known of it is below `Any` alone, and nothing is below its lower bound
  any_none : Found n opaque W.Any [] → ⊥
  any_none (raise g t v us e c) = let f : Any ≡ Var v = sym outs-Any ∙ e in cc

  first_found : (us : List Ty) → Covered n opaque (W.Any ∷ []) us → Found n opaque W.Any us
  first_found us (more g t ts vs f c) = f

  pub found_any : (us : List Ty) → Covered n opaque (alts W.Any) us → Found n opaque W.Any us
  found_any us c = first_found us (subst (λ z. Covered n opaque z us) alts-any c)

  none_found : (t : Ty) → Found n opaque t [] → ⊥
  none_found t (raise g a v us e c) = any_none (found_any [] c)

  pub part_any : (u : Ty) → Part n opaque W.Any u → out-Ty u ≡ Any
  part_any u (any g t w e) = e
  part_any u (tuple g t w xs ys d e p) = let f : Any ≡ Tuple xs = sym outs-Any ∙ d in cc
  part_any u (nominal g t w k m xs zs ys d e l p) = let f : Any ≡ Nominal k xs = sym outs-Any ∙ d in cc
  part_any u (self g t w v d e) = let f : Any ≡ Var v = sym outs-Any ∙ d in cc
  part_any u (own g t w v d e) = let f : Any ≡ Var v = sym outs-Any ∙ d in cc
  part_any u (under g t w v e b) = absurd (not_below b)
    where
      no_found : Covered n opaque (W.Any ∷ []) [] → ⊥
      no_found (more g t ts vs f c) = any_none f

      not_below : Below n opaque W.Any (V.Union []) → ⊥
      not_below (below g t w c) = no_found (subst (λ z. Covered n opaque z []) alts-any (subst (λ z. Covered n opaque (alts W.Any) z) (alts-union []) c))

  pub some_any : (R : Ty → Ty → Type 0) (t : Ty) (us : List Ty) → Found n opaque W.Any us → SomeBy (PartBy n R) t us
  some_any R t us (here g a u vs p) = this t u vs (by_any t u (part_any u p))
  some_any R t us (there g a u vs f) = that t u vs (some_any R t vs f)
  some_any R t us (raise g a v vs e c) = let f : Any ≡ Var v = sym outs-Any ∙ e in cc

  abbrev pub Single : Ty → Type 0
  Single t = alts t ≡ t ∷ []

  pub nothing_under : (t : Ty) → Single t → Below n opaque t (V.Union []) → ⊥
  nothing_under t s (below g a w c) = no_found (subst (λ z. Covered n opaque z []) s (subst (λ z. Covered n opaque (alts t) z) (alts-union []) c))
    where
      no_found : Covered n opaque (t ∷ []) [] → ⊥
      no_found (more h b ts vs f d) = none_found t f

  -- from the definition
  abbrev Height : (ℕ → Type 0) → Type 0
  Height P = (h : ℕ) × P h

  abbrev Pairs : ℕ → List Ty → List Ty → Type 0
  Pairs h = Both (Ways (BelowAt h))

  both_up : (h k : ℕ) → h ≤ k → (xs ys : List Ty) → Both (BelowAt h) xs ys → Both (BelowAt k) xs ys
  both_up h k l xs ys b = both_map (BelowAt h) (BelowAt k) (climb h k l) xs ys b

  pairs_up : (h k : ℕ) → h ≤ k → (xs ys : List Ty) → Pairs h xs ys → Pairs k xs ys
  pairs_up h k l xs ys b = both_map (Ways (BelowAt h)) (Ways (BelowAt k)) (λ x y p. (climb h k l x y p.0, climb h k l y x p.1)) xs ys b

  some_up : (h k : ℕ) → h ≤ k → (t : Ty) (us : List Ty) → SomeBy (PartBy n (BelowAt h)) t us → SomeBy (PartBy n (BelowAt k)) t us
  some_up h k l t us s = some_map (PartBy n (BelowAt h)) (PartBy n (BelowAt k)) t t (part_map (BelowAt h) (BelowAt k) (climb h k l) t) us s

  cover_up : (h k : ℕ) → h ≤ k → (ts us : List Ty) → CoverBy (PartBy n (BelowAt h)) ts us → CoverBy (PartBy n (BelowAt k)) ts us
  cover_up h k l ts us c = cover_map (PartBy n (BelowAt h)) (PartBy n (BelowAt k)) (part_map (BelowAt h) (BelowAt k) (climb h k l)) ts us c

  mutual
    pub high : (t u : Ty) → Below n opaque t u → (h : ℕ) × BelowAt h t u
    high t u (below g a b c) = let r = high_cover (alts t) (alts u) (alts_fine n t) c in (suc r.0, r.1)

    high_cover : (ts us : List Ty) → Each (Fine n) ts → Covered n opaque ts us → (h : ℕ) × CoverBy (PartBy n (BelowAt h)) ts us
    high_cover ts us e (none g vs) = (0, nothing us)
    high_cover ts us e (more g t rs vs f c) =
        let r = high_found t us e.0.0 f in
        let s = high_cover rs us e.1 c in
        let k = max r.0 s.0 in
        (k, another t rs us (some_up r.0 k (omega arith) t us r.1) (cover_up s.0 k (omega arith) rs us s.1))

    high_found : (t : Ty) (us : List Ty) → alts t ≡ t ∷ [] → Found n opaque t us → (h : ℕ) × SomeBy (PartBy n (BelowAt h)) t us
    high_found t us e (here g a u vs p) = let r = high_part t u e p in (r.0, this t u vs r.1)
    high_found t us e (there g a u vs f) = let r = high_found t vs e f in (r.0, that t u vs r.1)
    high_found t us e (raise g a v vs d c) = (0, some_any (BelowAt 0) t us (found_any us c))

    high_part : (t u : Ty) → alts t ≡ t ∷ [] → Part n opaque t u → (h : ℕ) × PartBy n (BelowAt h) t u
    high_part t u s (any g a b e) = (0, by_any t u e)
    high_part t u s (tuple g a b xs ys d e p) = let r = high_parts xs ys p in (r.0, by_tuple t u xs ys d e r.1)
    high_part t u s (nominal g a b k m xs zs ys d e l p) = let r = high_equals zs ys p in (r.0, by_nominal t u k m xs zs ys d e l r.1)
    high_part t u s (self g a b v d e) = (0, by_self t u v d e)
    high_part t u s (own g a b v d e) = (0, by_self t u v d e)
    high_part t u s (under g a b v e p) = absurd (nothing_under t s p)

    high_parts : (xs ys : List Ty) → Parts n opaque xs ys → (h : ℕ) × Both (BelowAt h) xs ys
    high_parts xs ys (parts_end g) = (0, both_end)
    high_parts xs ys (parts_more g x y vs ws p q) =
        let r = high x y p in
        let s = high_parts vs ws q in
        let k = max r.0 s.0 in
        (k, both_more x y vs ws (climb r.0 k (omega arith) x y r.1) (both_up s.0 k (omega arith) vs ws s.1))

    pub high_equals : (xs ys : List Ty) → Equals n xs ys → (h : ℕ) × Both (Ways (BelowAt h)) xs ys
    high_equals xs ys equals_end = (0, both_end)
    high_equals xs ys (equals_more x y vs ws p q e) =
        let r = high x y p in
        let s = high y x q in
        let i = high_equals vs ws e in
        let k = max (max r.0 s.0) i.0 in
        (k, both_more x y vs ws (climb r.0 k (omega arith) x y r.1, climb s.0 k (omega arith) y x s.1) (pairs_up i.0 k (omega arith) vs ws i.1))
