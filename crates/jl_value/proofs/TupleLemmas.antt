-- A tuple whose parts have one alternative each is below another where each part is below the one in its place, also where
-- these have several alternatives.
use Rattle.std.proofs.Common.{◌≡◌, ◌∙◌, sym, subst, List, [], ◌∷◌, ◌++◌, map, ◌⊎◌, inl, inr}
use Rattle.std.specs.List.{flat_map}
use Rattle.jl_model.specs.declared.ty.Ty.{Ty}
use Rattle.jl_model.specs.declared.ty.Ty.TheOpen.{Any, Tuple, Nominal, Var}
use Rattle.jl_model.specs.declared.ty.Ty.TheViews.{out-Ty, outs-Tuple}
use Rattle.jl_model.specs.declared.ty.Ty.TheViews as V
use Rattle.jl_model.specs.Rows.{alts, choices}
use Rattle.jl_model.specs.Signature.{Both, both_end, both_more}
use Rattle.jl_model.specs.Subtype.{Table, opaque, Below, Part, Parts, any, tuple, nominal, self, own, under, parts_end, parts_more}
use Rattle.jl_model.proofs.TypeInduction.{Each}
use Rattle.jl_model.proofs.FormLemmas.{alts-tuple}
use Rattle.jl_model.proofs.SelfLemmas.{Fine, alts_fine}
use Rattle.jl_model.proofs.HeightLemmas.{SomeBy, this, that, CoverBy, nothing, another, below_of, parts_of}
use Rattle.jl_model.proofs.BelowLemmas.{covers}

-- it is its own single alternative
abbrev pub One : Ty → Type 0
One t = alts t ≡ t ∷ []

module _ (n : Table) where
  abbrev B : Ty → Ty → Type 0
  B = Below n opaque

  abbrev P : Ty → Ty → Type 0
  P = Part n opaque

  only : (a : Ty) (us : List Ty) → CoverBy P (a ∷ []) us → SomeBy P a us
  only a us (another t ts vs f c) = f

  found_of : (a u : Ty) → One a → B a u → SomeBy P a (alts u)
  found_of a u e b = let F : List Ty → Type 0 = λ z. CoverBy P z (alts u) in only a (alts u) (subst F e (covers n a u b))

  of_found : (a u : Ty) → One a → SomeBy P a (alts u) → B a u
  of_found a u e f = below_of n a u (rw e (another a [] (alts u) f (nothing (alts u))))

  below_one : (a b : Ty) → One a → One b → P a b → B a b
  below_one a b e f p = of_found a b e (rw f (this a b [] p))

  only_one : (a b : Ty) → SomeBy P a (b ∷ []) → P a b
  only_one a b (this t u us p) = p
  only_one a b (that t u us f) = elim f [ ]

  one_below : (a b : Ty) → One a → One b → B a b → P a b
  one_below a b e f p = let F : List Ty → Type 0 = λ z. SomeBy P a z in only_one a b (subst F f (found_of a b e p))

  -- the types are below some list of these, one by one
  data SomeList (xs : List Ty) : List (List Ty) → Type 0 where
    this_list : (us : List Ty) (uss : List (List Ty)) → Both B xs us → SomeList xs (us ∷ uss)
    that_list : (us : List Ty) (uss : List (List Ty)) → SomeList xs uss → SomeList xs (us ∷ uss)

  lists_left : (xs : List Ty) (uss vss : List (List Ty)) → SomeList xs uss → SomeList xs (uss ++ vss)
  lists_left xs [] vss s = elim s [ ]
  lists_left xs (us ∷ uss) vss (this_list ws wss p) = this_list us (uss ++ vss) p
  lists_left xs (us ∷ uss) vss (that_list ws wss s) = that_list us (uss ++ vss) (lists_left xs uss vss s)

  lists_right : (xs : List Ty) (uss vss : List (List Ty)) → SomeList xs vss → SomeList xs (uss ++ vss)
  lists_right xs [] vss s = s
  lists_right xs (us ∷ uss) vss s = that_list us (uss ++ vss) (lists_right xs uss vss s)

  lists_either : (xs : List Ty) (uss vss : List (List Ty)) → SomeList xs (uss ++ vss) → SomeList xs uss ⊎ SomeList xs vss
  lists_either xs [] vss s = inr s
  lists_either xs (us ∷ uss) vss (this_list ws wss p) = inl (this_list us uss p)
  lists_either xs (us ∷ uss) vss (that_list ws wss s) = elim (lists_either xs uss vss s) [ inl h ↦ inl (that_list us uss h) | inr h ↦ inr h ]

  -- one more type
  cons_list : (x t : Ty) (xs : List Ty) (uss : List (List Ty)) → B x t → SomeList xs uss → SomeList (x ∷ xs) (map (λ us. t ∷ us) uss)
  cons_list x t xs [] b s = elim s [ ]
  cons_list x t xs (us ∷ uss) b (this_list ws wss p) = this_list (t ∷ us) (map (λ us. t ∷ us) uss) (both_more x t xs us b p)
  cons_list x t xs (us ∷ uss) b (that_list ws wss s) = that_list (t ∷ us) (map (λ us. t ∷ us) uss) (cons_list x t xs uss b s)

  both_cons : (x t : Ty) (xs us : List Ty) → Both B (x ∷ xs) (t ∷ us) → B x t × Both B xs us
  both_cons x t xs us (both_more a b vs ws p q) = (p, q)

  uncons_list : (x t : Ty) (xs : List Ty) (uss : List (List Ty)) → SomeList (x ∷ xs) (map (λ us. t ∷ us) uss) → B x t × SomeList xs uss
  uncons_list x t xs [] s = elim s [ ]
  uncons_list x t xs (us ∷ uss) (this_list ws wss p) = let r = both_cons x t xs us p in (r.0, this_list us uss r.1)
  uncons_list x t xs (us ∷ uss) (that_list ws wss s) = let r = uncons_list x t xs uss s in (r.0, that_list us uss r.1)

  first_list : (x : Ty) (xs ts : List Ty) (uss : List (List Ty)) → One x → Each (Fine n) ts → SomeBy P x ts → SomeList xs uss → SomeList (x ∷ xs) (flat_map (λ t. map (λ us. t ∷ us) uss) ts)
  first_list x xs [] uss e f h s = elim h [ ]
  first_list x xs (t ∷ ts) uss e f (this a u us p) s =
      lists_left (x ∷ xs) (map (λ us. t ∷ us) uss) (flat_map (λ t. map (λ us. t ∷ us) uss) ts) (cons_list x t xs uss (below_one x t e f.0.0 p) s)
  first_list x xs (t ∷ ts) uss e f (that a u us h) s =
      lists_right (x ∷ xs) (map (λ us. t ∷ us) uss) (flat_map (λ t. map (λ us. t ∷ us) uss) ts) (first_list x xs ts uss e f.1 h s)

  unfirst_list : (x : Ty) (xs ts : List Ty) (uss : List (List Ty)) → One x → Each (Fine n) ts → SomeList (x ∷ xs) (flat_map (λ t. map (λ us. t ∷ us) uss) ts) → SomeBy P x ts × SomeList xs uss
  unfirst_list x xs [] uss e f s = elim s [ ]
  unfirst_list x xs (t ∷ ts) uss e f s = elim (lists_either (x ∷ xs) (map (λ us. t ∷ us) uss) (flat_map (λ t. map (λ us. t ∷ us) uss) ts) s) [
    | inl h ↦ let r = uncons_list x t xs uss h in (this x t ts (one_below x t e f.0.0 r.0), r.1)
    | inr h ↦ let r = unfirst_list x xs ts uss e f.1 h in (that x t ts r.0, r.1)
  ]

  both_list : (xs ys : List Ty) → Each One xs → Both B xs ys → SomeList xs (choices (map alts ys))
  both_list xs ys e both_end = this_list [] [] both_end
  both_list xs ys e (both_more x y vs ws p q) = first_list x vs (alts y) (choices (map alts ws)) e.0 (alts_fine n y) (found_of x y e.0 p) (both_list vs ws e.1 q)

  list_both : (xs ys : List Ty) → Each One xs → SomeList xs (choices (map alts ys)) → Both B xs ys
  list_both [] [] e s = both_end
  list_both (x ∷ xs) [] e (this_list us uss p) = elim p [ ]
  list_both (x ∷ xs) [] e (that_list us uss s) = elim s [ ]
  list_both [] (y ∷ ys) e s = absurd (no_first (alts y) (choices (map alts ys)) s)
    where
      no_cons : (t : Ty) (uss : List (List Ty)) → SomeList [] (map (λ us. t ∷ us) uss) → ⊥
      no_cons t [] s = elim s [ ]
      no_cons t (us ∷ uss) (this_list ws wss p) = elim p [ ]
      no_cons t (us ∷ uss) (that_list ws wss s) = no_cons t uss s

      no_first : (ts : List Ty) (uss : List (List Ty)) → SomeList [] (flat_map (λ t. map (λ us. t ∷ us) uss) ts) → ⊥
      no_first [] uss s = elim s [ ]
      no_first (t ∷ ts) uss s = elim (lists_either [] (map (λ us. t ∷ us) uss) (flat_map (λ t. map (λ us. t ∷ us) uss) ts) s) [ inl h ↦ no_cons t uss h | inr h ↦ no_first ts uss h ]
  list_both (x ∷ xs) (y ∷ ys) e s =
      let r = unfirst_list x xs (alts y) (choices (map alts ys)) e.0 (alts_fine n y) s in
      both_more x y xs ys (of_found x y e.0 r.0) (list_both xs ys e.1 r.1)

  -- tuples
  parts_both : (xs ys : List Ty) → Parts n opaque xs ys → Both B xs ys
  parts_both xs ys (parts_end g) = both_end
  parts_both xs ys (parts_more g x y vs ws p q) = both_more x y vs ws p (parts_both vs ws q)

  -- what is below a tuple is a tuple, part by part
  part_tuple : (l : Ty) (us : List Ty) → P l (V.Tuple us) → (xs : List Ty) × (out-Ty l ≡ Tuple xs) × Both B xs us
  part_tuple l us (any g t u e) = let f : Tuple us ≡ Any = sym (outs-Tuple us) ∙ e in cc
  part_tuple l us (nominal g t u k m xs zs ys d e h p) = let f : Tuple us ≡ Nominal m ys = sym (outs-Tuple us) ∙ e in cc
  part_tuple l us (self g t u v d e) = let f : Tuple us ≡ Var v = sym (outs-Tuple us) ∙ e in cc
  part_tuple l us (own g t u v d e) = let f : Tuple us ≡ Var v = sym (outs-Tuple us) ∙ e in cc
  part_tuple l us (under g t u w e p) = let f : Tuple us ≡ Var w = sym (outs-Tuple us) ∙ e in cc
  part_tuple l us (tuple g t u xs ys d e p) =
      let f : Tuple us ≡ Tuple ys = sym (outs-Tuple us) ∙ e in
      let y : ys ≡ us = cc in
      (xs, d, subst (λ z. Both B xs z) y (parts_both xs ys p))

  some_tuple : (l : Ty) (uss : List (List Ty)) → SomeBy P l (map (λ us. V.Tuple us) uss) → (xs : List Ty) × (out-Ty l ≡ Tuple xs) × SomeList xs uss
  some_tuple l [] s = elim s [ ]
  some_tuple l (us ∷ uss) (this t u vs p) = let r = part_tuple l us p in (r.0, r.1, this_list us uss r.2)
  some_tuple l (us ∷ uss) (that t u vs s) = let r = some_tuple l uss s in (r.0, r.1, that_list us uss r.2)

  tuple_some : (xs : List Ty) (uss : List (List Ty)) → SomeList xs uss → SomeBy P (V.Tuple xs) (map (λ us. V.Tuple us) uss)
  tuple_some xs [] s = elim s [ ]
  tuple_some xs (us ∷ uss) (this_list ws wss p) =
      this (V.Tuple xs) (V.Tuple us) (map (λ us. V.Tuple us) uss) (tuple opaque (V.Tuple xs) (V.Tuple us) xs us (outs-Tuple xs) (outs-Tuple us) (parts_of n xs us p))
  tuple_some xs (us ∷ uss) (that_list ws wss s) = that (V.Tuple xs) (V.Tuple us) (map (λ us. V.Tuple us) uss) (tuple_some xs uss s)

  pub both_tuple : (xs ys : List Ty) → One (V.Tuple xs) → Each One xs → Both B xs ys → B (V.Tuple xs) (V.Tuple ys)
  both_tuple xs ys o e b = of_found (V.Tuple xs) (V.Tuple ys) o (rw (alts-tuple ys) (tuple_some xs (choices (map alts ys)) (both_list xs ys e b)))

  pub below_tuple : (l : Ty) (ys : List Ty) → One l → B l (V.Tuple ys) → (xs : List Ty) × (out-Ty l ≡ Tuple xs) × (Each One xs → Both B xs ys)
  below_tuple l ys o b =
      let s = some_tuple l (choices (map alts ys)) (rw (alts-tuple ys) at (found_of l (V.Tuple ys) o b)) in
      (s.0, s.1, λ e. list_both s.0 ys e s.2)
