-- What is below stays below when types are put for variables.
use Rattle.std.proofs.Common.{◌≡◌, ◌∙◌, sym, ap, subst, refl, ℕ, Bool, true, false, cond, nat_eq, List, [], ◌∷◌, ◌++◌, map, Option, None, Some, ◌⊎◌, inl, inr}
use Rattle.std.specs.List.{flat_map}
use Rattle.jl_model.specs.declared.ty.Ty.{Ty}
use Rattle.jl_model.specs.declared.ty.Ty.TheOpen.{Any, Var}
use Rattle.jl_model.specs.declared.ty.Ty.TheViews.{out-Ty, outs-Any, outs-Tuple, outs-Nominal}
use Rattle.jl_model.specs.declared.ty.Ty.TheViews as V
use Rattle.jl_model.specs.declared.ty.Ty.TheVariants as W
use Rattle.jl_model.specs.Rows.{alts, choices}
use Rattle.jl_model.specs.Signature.{Both, both_end, both_more}
use Rattle.jl_model.specs.Subtype.{Table, opaque, put, at, put_in, lifted, Below, Covered, Found, Part, Parts, Equals, Equal, below, none, more, here, there, raise, any, tuple, nominal, self, own, under, parts_end, parts_more, equals_end, equals_more}
use Rattle.jl_model.proofs.TypeInduction.{Each, by_cases}
use Rattle.jl_model.proofs.FormLemmas.{is_any, is_tuple, is_nominal, is_var, alts-any, alts-var, alts-union, alts-tuple, alts-nominal, put-any, put-union, put-tuple, put-nominal}
use Rattle.jl_model.proofs.PutLemmas.{put_all-put, at-map}
use Rattle.jl_model.proofs.SelfLemmas.{below_self}
use Rattle.jl_model.proofs.HeightLemmas.{SomeBy, this, that, CoverBy, nothing, another, by_nominal, below_of, found_any, part_any, nothing_under}
use Rattle.jl_model.proofs.BelowLemmas.{below_any, part_below, equals_both}
use Rattle.jl_model.proofs.AncestorLemmas.{Lawful}
use Rattle.jl_model.proofs.TransLemmas.{below_trans}
use Rattle.jl_model.proofs.NormalLemmas.{In, first, later}
use Rattle.jl_match.proofs.TupleLemmas.{InRows, row_first, row_later, chosen, choices_each, Lone, lone_below, below_lone, alternative, tuple_below}

-- members of joined lists
in_left : (a : Ty) (xs ys : List Ty) → In a xs → In a (xs ++ ys)
in_left a [] ys i = elim i [ ]
in_left a (x ∷ xs) ys (first y zs e) = first x (xs ++ ys) e
in_left a (x ∷ xs) ys (later y zs i) = later x (xs ++ ys) (in_left a xs ys i)

in_right : (a : Ty) (xs ys : List Ty) → In a ys → In a (xs ++ ys)
in_right a [] ys i = i
in_right a (x ∷ xs) ys i = later x (xs ++ ys) (in_right a xs ys i)

in_either : (a : Ty) (xs ys : List Ty) → In a (xs ++ ys) → In a xs ⊎ In a ys
in_either a [] ys i = inr i
in_either a (x ∷ xs) ys (first y zs e) = inl (first x xs e)
in_either a (x ∷ xs) ys (later y zs i) = elim (in_either a xs ys i) [ inl j ↦ inl (later x xs j) | inr j ↦ inr j ]

in_tuples : (r : List Ty) (rs : List (List Ty)) → InRows r rs → In (V.Tuple r) (map (λ us. V.Tuple us) rs)
in_tuples r [] i = elim i [ ]
in_tuples r (s ∷ ss) (row_first q qs e) = first (V.Tuple s) (map (λ us. V.Tuple us) ss) (ap (λ us. V.Tuple us) e)
in_tuples r (s ∷ ss) (row_later q qs i) = later (V.Tuple s) (map (λ us. V.Tuple us) ss) (in_tuples r ss i)

pub tuples_in : (a : Ty) (rs : List (List Ty)) → In a (map (λ us. V.Tuple us) rs) → (r : List Ty) × (a ≡ V.Tuple r) × InRows r rs
tuples_in a [] i = elim i [ ]
tuples_in a (s ∷ ss) (first y ys e) = (s, e, row_first s ss refl)
tuples_in a (s ∷ ss) (later y ys i) = let r = tuples_in a ss i in (r.0, r.1, row_later s ss r.2)

abbrev Picks : List Ty → List Ty → Type 0
Picks = Both (λ a w. In a (alts w))

each_choices : (r ws : List Ty) → Picks r ws → InRows r (choices (map alts ws))
each_choices r ws both_end = row_first [] [] refl
each_choices r ws (both_more a w as_ us i b) = chosen a as_ (alts w) (choices (map alts us)) i (each_choices as_ us b)

-- a row of alternatives of a tuple, and back
tuple_row : (a : Ty) (ts : List Ty) → In a (alts (V.Tuple ts)) → (r : List Ty) × (a ≡ V.Tuple r) × Picks r ts
tuple_row a ts i =
    let r = tuples_in a (choices (map alts ts)) (subst (In a) (alts-tuple ts) i) in
    (r.0, r.1, choices_each r.0 ts r.2)

row_tuple : (r ts : List Ty) → Picks r ts → In (V.Tuple r) (alts (V.Tuple ts))
row_tuple r ts b = subst (In (V.Tuple r)) (sym (alts-tuple ts)) (in_tuples r (choices (map alts ts)) (each_choices r ts b))

module _ (f : ℕ → Ty) where
  abbrev S : Ty → Ty
  S = put f

  -- an alternative of a type with types put in is one of an alternative with them put in
  pub record Comes (t c : Ty) : Type 0 where
    pub of : Ty
    pub among : In of (alts t)
    pub is : In c (alts (S of))

  abbrev From : Ty → Type 0
  From t = (c : Ty) → In c (alts (S t)) → Comes t c

  lone_from : (t : Ty) → alts t ≡ t ∷ [] → From t
  lone_from t e c i = record { of = t; among = subst (In t) (sym e) (first t [] refl); is = i }

  flat_from : (ts : List Ty) → Each From ts → (c : Ty) → In c (flat_map alts (map S ts)) → (a : Ty) × In a (flat_map alts ts) × In c (alts (S a))
  flat_from [] e c i = elim i [ ]
  flat_from (t ∷ ts) e c i = elim (in_either c (alts (S t)) (flat_map alts (map S ts)) i) [
    | inl j ↦ let r = e.0 c j in (r.of, in_left r.of (alts t) (flat_map alts ts) r.among, r.is)
    | inr j ↦ let r = flat_from ts e.1 c j in (r.0, in_right r.0 (alts t) (flat_map alts ts) r.1, r.2)
  ]

  union_from : (ts : List Ty) → Each From ts → From (V.Union ts)
  union_from ts e c i =
      let r = flat_from ts e c (subst (In c) (ap alts (put-union f ts) ∙ alts-union (map S ts)) i) in
      record { of = r.0; among = subst (In r.0) (sym (alts-union ts)) r.1; is = r.2 }

  rows_from : (ts : List Ty) → Each From ts → (r : List Ty) → Picks r (map S ts) → (as_ : List Ty) × Picks as_ ts × Picks r (map S as_)
  rows_from [] e [] b = ([], both_end, both_end)
  rows_from [] e (x ∷ r) b = elim b [ ]
  rows_from (t ∷ ts) e [] b = elim b [ ]
  rows_from (t ∷ ts) e (x ∷ r) (both_more a w as_ us i b) =
      let p = e.0 x i in
      let q = rows_from ts e.1 r b in
      (p.of ∷ q.0, both_more p.of t q.0 ts p.among q.1, both_more x (S p.of) r (map S q.0) p.is q.2)

  tuple_from : (ts : List Ty) → Each From ts → From (V.Tuple ts)
  tuple_from ts e c i =
      let r = tuple_row c (map S ts) (subst (In c) (ap alts (put-tuple f ts)) i) in
      let q = rows_from ts e r.0 r.2 in
      record {
        of = V.Tuple q.0;
        among = row_tuple q.0 ts q.1;
        is = subst (λ z. In z (alts (S (V.Tuple q.0)))) (sym r.1) (subst (In (V.Tuple r.0)) (sym (ap alts (put-tuple f q.0))) (row_tuple r.0 (map S q.0) q.2));
      }

  pub comes_from : (t : Ty) → From t
  comes_from = by_cases From (record {
    any = lone_from W.Any alts-any;
    union = union_from;
    tuple = tuple_from;
    nominal = λ k ts e. lone_from (V.Nominal k ts) (alts-nominal k ts);
    var = λ v. lone_from (W.Var v) (alts-var v);
  })

  -- and each such is an alternative of it
  abbrev To : Ty → Type 0
  To t = (a c : Ty) → In a (alts t) → In c (alts (S a)) → In c (alts (S t))

  only : (a t : Ty) → In a (t ∷ []) → a ≡ t
  only a t (first y ys e) = e
  only a t (later y ys i) = elim i [ ]

  lone_to : (t : Ty) → alts t ≡ t ∷ [] → To t
  lone_to t e a c i j = let k : a ≡ t = only a t (subst (In a) e i) in subst (λ z. In c (alts (S z))) k j

  flat_to : (ts : List Ty) → Each To ts → (a c : Ty) → In a (flat_map alts ts) → In c (alts (S a)) → In c (flat_map alts (map S ts))
  flat_to [] e a c i j = elim i [ ]
  flat_to (t ∷ ts) e a c i j = elim (in_either a (alts t) (flat_map alts ts) i) [
    | inl k ↦ in_left c (alts (S t)) (flat_map alts (map S ts)) (e.0 a c k j)
    | inr k ↦ in_right c (alts (S t)) (flat_map alts (map S ts)) (flat_to ts e.1 a c k j)
  ]

  rows_to : (ts : List Ty) → Each To ts → (as_ r : List Ty) → Picks as_ ts → Picks r (map S as_) → Picks r (map S ts)
  rows_to [] e [] r b d = d
  rows_to [] e (a ∷ as_) r b d = elim b [ ]
  rows_to (t ∷ ts) e [] r b d = elim b [ ]
  rows_to (t ∷ ts) e (a ∷ as_) [] b d = elim d [ ]
  rows_to (t ∷ ts) e (a ∷ as_) (x ∷ r) (both_more p q ps qs i b) (both_more y z ys zs j d) = both_more x (S t) r (map S ts) (e.0 a x i j) (rows_to ts e.1 as_ r b d)

  tuple_to : (ts : List Ty) → Each To ts → To (V.Tuple ts)
  tuple_to ts e a c i j =
      let r = tuple_row a ts i in
      let k : In c (alts (V.Tuple (map S r.0))) = subst (In c) (ap alts (ap S r.1 ∙ put-tuple f r.0)) j in
      let q = tuple_row c (map S r.0) k in
      subst (In c) (sym (ap alts (put-tuple f ts))) (subst (λ z. In z (alts (V.Tuple (map S ts)))) (sym q.1) (row_tuple q.0 (map S ts) (rows_to ts e r.0 q.0 r.2 q.2)))

  pub goes_to : (t : Ty) → To t
  goes_to = by_cases To (record {
    any = lone_to W.Any alts-any;
    union = λ ts e a c i j. subst (In c) (sym (ap alts (put-union f ts) ∙ alts-union (map S ts))) (flat_to ts e a c (subst (In a) (alts-union ts) i) j);
    tuple = tuple_to;
    nominal = λ k ts e. lone_to (V.Nominal k ts) (alts-nominal k ts);
    var = λ v. lone_to (W.Var v) (alts-var v);
  })

  pub lifted_put : (n : Table) (k m : ℕ) (xs zs : List Ty) → lifted n k xs m ≡ Some zs → lifted n k (map S xs) m ≡ Some (map S zs)
  lifted_put n k m xs zs e = pick (nat_eq k m) e
    where
      put_both : (o : Option (List Ty)) → put_in xs o ≡ Some zs → put_in (map S xs) o ≡ Some (map S zs)
      put_both None h = let g : None ≡ Some zs = h in cc
      put_both (Some as_) h =
          let g : Some (map (put (at xs)) as_) ≡ Some zs = h in
          let i : map (put (at xs)) as_ ≡ zs = cc in
          let j : (λ v. put f (at xs v)) ≡ at (map S xs) = λ i v. sym (at-map f xs v) i in
          ap (λ z. Some z) (sym (put_all-put f (at xs) as_ ∙ ap (λ h. map (put h) as_) j) ∙ ap (map S) i)

      pick : (b : Bool) → cond b (Some xs) (put_in xs (n.up k m)) ≡ Some zs → cond b (Some (map S xs)) (put_in (map S xs) (n.up k m)) ≡ Some (map S zs)
      pick true h = let g : Some xs ≡ Some zs = h in let i : xs ≡ zs = cc in ap (λ z. Some (map S z)) i
      pick false h = put_both (n.up k m) h

module _ (n : Table) (law : Lawful n) where
  abbrev B : Ty → Ty → Type 0
  B = Below n opaque

  cover_from : (cs us : List Ty) → ((c : Ty) → In c cs → SomeBy (Part n opaque) c us) → CoverBy (Part n opaque) cs us
  cover_from [] us h = nothing us
  cover_from (c ∷ cs) us h = another c cs us (h c (first c cs refl)) (cover_from cs us (λ d i. h d (later c cs i)))

  -- below, alternative by alternative
  pub by_alternatives : (t u : Ty) → ((c : Ty) → In c (alts t) → B c u) → B t u
  by_alternatives t u h = below_of n t u (cover_from (alts t) (alts u) (λ c i. below_lone n c u (alternative n c t i).1 (h c i)))

  picks_below : (r xs ws : List Ty) → Picks r xs → Both B xs ws → Each (Lone n) r × Both B r ws
  picks_below r xs ws both_end both_end = (tt, both_end)
  picks_below r xs ws (both_more a x as_ ys i p) (both_more y w zs us b q) =
      let c = alternative n a x i in
      let d = picks_below as_ ys us p q in
      ((c.1, d.0), both_more a w as_ us (below_trans n law a x w c.0 b) d.1)

  lone_all : (r : List Ty) → Each (Lone n) r → choices (map alts r) ≡ r ∷ []
  lone_all [] e = refl
  lone_all (x ∷ xs) e = let a = e.0 in let b = lone_all xs e.1 in rw (a, b) refl

  -- part by part
  pub tuples_below : (xs ws : List Ty) → Both B xs ws → B (V.Tuple xs) (V.Tuple ws)
  tuples_below xs ws b = by_alternatives (V.Tuple xs) (V.Tuple ws) (λ c i.
      let r = tuple_row c xs i in
      let p = picks_below r.0 xs ws r.2 b in
      let l : Lone n (V.Tuple r.0) = alts-tuple r.0 ∙ ap (map (λ us. V.Tuple us)) (lone_all r.0 p.0) in
      subst (λ z. B z (V.Tuple ws)) (sym r.1) (tuple_below n (V.Tuple r.0) r.0 ws (outs-Tuple r.0) l p.0 p.1))

  placed : (a u : Ty) (us : List Ty) → In u us → Part n opaque a u → SomeBy (Part n opaque) a us
  placed a u us (first y ys e) p = this a y ys (subst (Part n opaque a) e p)
  placed a u us (later y ys i) p = that a y ys (placed a u ys i p)

  any_found : (us : List Ty) → Found n opaque W.Any us → (b : Ty) × In b us × (out-Ty b ≡ Any)
  any_found us (here g t u vs p) = (u, first u vs refl, part_any n u p)
  any_found us (there g t u vs h) = let r = any_found vs h in (r.0, later u vs r.1, r.2)
  any_found us (raise g t v vs e c) = let i : Any ≡ Var v = sym outs-Any ∙ e in cc

  module _ (f : ℕ → Ty) where
    -- below some alternative with types put in is below the whole with them put in
    into : (x u b : Ty) → In b (alts u) → Lone n x → B x (put f b) → B x (put f u)
    into x u b i l h = found_in (alts (put f b)) (λ c j. j) (below_lone n x (put f b) l h)
      where
        found_in : (cs : List Ty) → ((c : Ty) → In c cs → In c (alts (put f b))) → SomeBy (Part n opaque) x cs → B x (put f u)
        found_in cs k (this t c vs p) = lone_below n x (put f u) l (placed x c (alts (put f u)) (goes_to f u b c i (k c (first c vs refl))) p)
        found_in cs k (that t c vs s) = found_in vs (λ d j. k d (later c vs j)) s

    mutual
      pub put_below : (t u : Ty) → Below n opaque t u → B (put f t) (put f u)
      put_below t u (below g a b c) = by_alternatives (put f t) (put f u) (λ x i.
          let p = comes_from f t x i in
          let q = put_covered (alts t) (alts u) c p.of p.among (alternative n p.of t p.among).1 in
          let y = below_trans n law x (put f p.of) (put f q.0) (alternative n x (put f p.of) p.is).0 q.2 in
          into x u q.0 q.1 (alternative n x (put f p.of) p.is).1 y)

      put_covered : (ts us : List Ty) → Covered n opaque ts us → (a : Ty) → In a ts → Lone n a → (b : Ty) × In b us × B (put f a) (put f b)
      put_covered ts us (none g vs) a i l = elim i [ ]
      put_covered ts us (more g t rs vs h c) a (first y ys e) l =
          let r = put_found t us h (subst (Lone n) e l) in (r.0, r.1, subst (λ z. B (put f z) (put f r.0)) (sym e) r.2)
      put_covered ts us (more g t rs vs h c) a (later y ys i) l = put_covered rs us c a i l

      put_found : (a : Ty) (us : List Ty) → Found n opaque a us → Lone n a → (b : Ty) × In b us × B (put f a) (put f b)
      put_found a us (here g t u vs p) l = (u, first u vs refl, put_part a u p l)
      put_found a us (there g t u vs h) l = let r = put_found a vs h l in (r.0, later u vs r.1, r.2)
      put_found a us (raise g t v vs e c) l =
          let r = any_found us (found_any n us c) in
          (r.0, r.1, subst (B (put f a)) (sym (ap (put f) (is_any r.0 r.2) ∙ put-any f)) (below_any n (put f a)))

      put_part : (a b : Ty) → Part n opaque a b → Lone n a → B (put f a) (put f b)
      put_part a b (any g t u e) l = subst (B (put f a)) (sym (ap (put f) (is_any b e) ∙ put-any f)) (below_any n (put f a))
      put_part a b (tuple g t u xs ys d e p) l =
          let i = ap (put f) (is_tuple a xs d) ∙ put-tuple f xs in
          let j = ap (put f) (is_tuple b ys e) ∙ put-tuple f ys in
          rw (i, j) (tuples_below (map (put f) xs) (map (put f) ys) (put_parts xs ys p))
      put_part a b (nominal g t u k m xs zs ys d e o p) l =
          let i = ap (put f) (is_nominal a k xs d) ∙ put-nominal f k xs in
          let j = ap (put f) (is_nominal b m ys e) ∙ put-nominal f m ys in
          let vs = map (put f) xs in
          let ws = map (put f) ys in
          rw (i, j)
          (part_below n (V.Nominal k vs) (V.Nominal m ws) (alts-nominal k vs) (alts-nominal m ws)
          (by_nominal (V.Nominal k vs) (V.Nominal m ws) k m vs (map (put f) zs) ws (outs-Nominal k vs) (outs-Nominal m ws) (lifted_put f n k m xs zs o) (equals_both n (map (put f) zs) ws (put_equals zs ys p))))
      put_part a b (self g t u v d e) l = subst (λ z. B (put f a) (put f z)) (is_var a v d ∙ sym (is_var b v e)) (below_self n (put f a))
      put_part a b (own g t u v d e) l = subst (λ z. B (put f a) (put f z)) (is_var a v d ∙ sym (is_var b v e)) (below_self n (put f a))
      put_part a b (under g t u w e p) l = absurd (nothing_under n a l p)

      put_parts : (xs ys : List Ty) → Parts n opaque xs ys → Both B (map (put f) xs) (map (put f) ys)
      put_parts xs ys (parts_end g) = both_end
      put_parts xs ys (parts_more g x y vs ws b p) = both_more (put f x) (put f y) (map (put f) vs) (map (put f) ws) (put_below x y b) (put_parts vs ws p)

      put_equals : (xs ys : List Ty) → Equals n xs ys → Equals n (map (put f) xs) (map (put f) ys)
      put_equals xs ys equals_end = equals_end
      put_equals xs ys (equals_more x y vs ws b c p) = equals_more (put f x) (put f y) (map (put f) vs) (map (put f) ws) (put_below x y b) (put_below y x c) (put_equals vs ws p)

    pub put_equal : (t u : Ty) → Equal n t u → Equal n (put f t) (put f u)
    put_equal t u e = (put_below t u e.0, put_below u t e.1)
