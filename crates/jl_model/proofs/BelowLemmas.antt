-- Below at each form: members of unions one by one, and types with one alternative each part by part.
use Rattle.std.proofs.Common.{◌≡◌, ◌∙◌, sym, subst, List, [], ◌∷◌, ◌++◌, ◌⊎◌, inl, inr}
use Rattle.std.specs.List.{flat_map}
use Rattle.jl_model.specs.declared.ty.Ty.{Ty}
use Rattle.jl_model.specs.declared.ty.Ty.TheOpen.{Any, Var}
use Rattle.jl_model.specs.declared.ty.Ty.TheViews.{out-Ty, outs-Any}
use Rattle.jl_model.specs.declared.ty.Ty.TheViews as V
use Rattle.jl_model.specs.declared.ty.Ty.TheVariants as W
use Rattle.jl_model.specs.Rows.{alts}
use Rattle.jl_model.specs.Signature.{Both, both_end, both_more}
use Rattle.jl_model.specs.Subtype.{Table, opaque, Below, Covered, Found, Part, Parts, Equals, below, none, more, here, there, raise, any, tuple, nominal, self, own, under, parts_end, parts_more, equals_end, equals_more}
use Rattle.jl_model.specs.Members.{EachBelow, BelowSome}
use Rattle.jl_model.proofs.FormLemmas.{alts-any, alts-union}
use Rattle.jl_model.proofs.HeightLemmas.{SomeBy, this, that, CoverBy, nothing, another, Ways, PartBy, by_any, by_tuple, by_nominal, by_self, part_of, below_of, part_any, nothing_under, found_any}

module _ (n : Table) where
  abbrev B : Ty → Ty → Type 0
  B = Below n opaque

  abbrev P : Ty → Ty → Type 0
  P = Part n opaque

  some_any : (t : Ty) (us : List Ty) → Found n opaque W.Any us → SomeBy P t us
  some_any t us (here g a u vs p) = this t u vs (any opaque t u (part_any n u p))
  some_any t us (there g a u vs f) = that t u vs (some_any t vs f)
  some_any t us (raise g a v vs e c) = let f : Any ≡ Var v = sym outs-Any ∙ e in cc

  found_some : (t : Ty) (us : List Ty) → Found n opaque t us → SomeBy P t us
  found_some t us (here g a u vs p) = this t u vs p
  found_some t us (there g a u vs f) = that t u vs (found_some t vs f)
  found_some t us (raise g a v vs e c) = some_any t us (found_any n us c)

  cover_plain : (ts us : List Ty) → Covered n opaque ts us → CoverBy P ts us
  cover_plain ts us (none g vs) = nothing us
  cover_plain ts us (more g t rs vs f c) = another t rs us (found_some t us f) (cover_plain rs us c)

  pub covers : (t u : Ty) → B t u → CoverBy P (alts t) (alts u)
  covers t u (below g a b c) = cover_plain (alts t) (alts u) c

  -- lists that are joined
  split : (ss bs us : List Ty) → CoverBy P (ss ++ bs) us → CoverBy P ss us × CoverBy P bs us
  split [] bs us c = (nothing us, c)
  split (a ∷ ss) bs us (another t ts vs f c) = let r = split ss bs us c in (another a ss us f r.0, r.1)

  join : (ss bs us : List Ty) → CoverBy P ss us → CoverBy P bs us → CoverBy P (ss ++ bs) us
  join [] bs us c d = d
  join (a ∷ ss) bs us (another t ts vs f c) d = another a (ss ++ bs) us f (join ss bs us c d)

  left : (a : Ty) (us vs : List Ty) → SomeBy P a us → SomeBy P a (us ++ vs)
  left a [] vs f = elim f [ ]
  left a (u ∷ us) vs (this t w ws p) = this a u (us ++ vs) p
  left a (u ∷ us) vs (that t w ws f) = that a u (us ++ vs) (left a us vs f)

  right : (a : Ty) (us vs : List Ty) → SomeBy P a vs → SomeBy P a (us ++ vs)
  right a [] vs f = f
  right a (u ∷ us) vs f = that a u (us ++ vs) (right a us vs f)

  either_side : (a : Ty) (us vs : List Ty) → SomeBy P a (us ++ vs) → SomeBy P a us ⊎ SomeBy P a vs
  either_side a [] vs f = inr f
  either_side a (u ∷ us) vs (this t w ws p) = inl (this a u us p)
  either_side a (u ∷ us) vs (that t w ws f) = elim (either_side a us vs f) [ inl g ↦ inl (that a u us g) | inr g ↦ inr g ]

  -- a union on the left: each member
  each_from : (ts : List Ty) (u : Ty) → CoverBy P (flat_map alts ts) (alts u) → EachBelow n ts u
  each_from [] u c = tt
  each_from (t ∷ ts) u c = let r = split (alts t) (flat_map alts ts) (alts u) c in (below_of n t u r.0, each_from ts u r.1)

  each_to : (ts : List Ty) (u : Ty) → EachBelow n ts u → CoverBy P (flat_map alts ts) (alts u)
  each_to [] u e = nothing (alts u)
  each_to (t ∷ ts) u e = join (alts t) (flat_map alts ts) (alts u) (covers t u e.0) (each_to ts u e.1)

  pub union_below : (ts : List Ty) (u : Ty) → EachBelow n ts u → B (V.Union ts) u
  union_below ts u e = below_of n (V.Union ts) u (rw (alts-union ts) (each_to ts u e))

  pub below_union : (ts : List Ty) (u : Ty) → B (V.Union ts) u → EachBelow n ts u
  below_union ts u b = each_from ts u (rw (alts-union ts) at (covers (V.Union ts) u b))

  -- a union on the right: some member, for a type with one alternative
  only : (a : Ty) (us : List Ty) → CoverBy P (a ∷ []) us → SomeBy P a us
  only a us (another t ts vs f c) = f

  found_of : (a u : Ty) → alts a ≡ a ∷ [] → B a u → SomeBy P a (alts u)
  found_of a u e b = let F : List Ty → Type 0 = λ z. CoverBy P z (alts u) in only a (alts u) (subst F e (covers a u b))

  of_found : (a u : Ty) → alts a ≡ a ∷ [] → SomeBy P a (alts u) → B a u
  of_found a u e f = below_of n a u (rw e (another a [] (alts u) f (nothing (alts u))))

  some_to : (a : Ty) (us : List Ty) → alts a ≡ a ∷ [] → BelowSome n a us → SomeBy P a (flat_map alts us)
  some_to a [] e s = absurd s
  some_to a (u ∷ us) e (inl b) = left a (alts u) (flat_map alts us) (found_of a u e b)
  some_to a (u ∷ us) e (inr s) = right a (alts u) (flat_map alts us) (some_to a us e s)

  some_from : (a : Ty) (us : List Ty) → alts a ≡ a ∷ [] → SomeBy P a (flat_map alts us) → BelowSome n a us
  some_from a [] e f = elim f [ ]
  some_from a (u ∷ us) e f = elim (either_side a (alts u) (flat_map alts us) f) [ inl g ↦ inl (of_found a u e g) | inr g ↦ inr (some_from a us e g) ]

  pub some_below : (a : Ty) (us : List Ty) → alts a ≡ a ∷ [] → BelowSome n a us → B a (V.Union us)
  some_below a us e s = of_found a (V.Union us) e (rw (alts-union us) (some_to a us e s))

  pub below_some : (a : Ty) (us : List Ty) → alts a ≡ a ∷ [] → B a (V.Union us) → BelowSome n a us
  below_some a us e b = some_from a us e (rw (alts-union us) at (found_of a (V.Union us) e b))

  cover_any : (ts : List Ty) → CoverBy P ts (W.Any ∷ [])
  cover_any [] = nothing (W.Any ∷ [])
  cover_any (t ∷ ts) = another t ts (W.Any ∷ []) (this t W.Any [] (any opaque t W.Any outs-Any)) (cover_any ts)

  pub below_any : (a : Ty) → B a W.Any
  below_any a = below_of n a W.Any (rw alts-any (cover_any (alts a)))

  -- types with one alternative each
  only_part : (a b : Ty) → SomeBy P a (b ∷ []) → P a b
  only_part a b (this t u us p) = p
  only_part a b (that t u us f) = elim f [ ]

  parts_both : (xs ys : List Ty) → Parts n opaque xs ys → Both B xs ys
  parts_both xs ys (parts_end g) = both_end
  parts_both xs ys (parts_more g x y vs ws p q) = both_more x y vs ws p (parts_both vs ws q)

  pub equals_both : (xs ys : List Ty) → Equals n xs ys → Both (Ways B) xs ys
  equals_both xs ys equals_end = both_end
  equals_both xs ys (equals_more x y vs ws p q e) = both_more x y vs ws (p, q) (equals_both vs ws e)

  plain_part : (a b : Ty) → alts a ≡ a ∷ [] → P a b → PartBy n B a b
  plain_part a b s (any g t u e) = by_any a b e
  plain_part a b s (tuple g t u xs ys d e p) = by_tuple a b xs ys d e (parts_both xs ys p)
  plain_part a b s (nominal g t u k m xs zs ys d e l p) = by_nominal a b k m xs zs ys d e l (equals_both zs ys p)
  plain_part a b s (self g t u v d e) = by_self a b v d e
  plain_part a b s (own g t u v d e) = by_self a b v d e
  plain_part a b s (under g t u v e p) = absurd (nothing_under n a s p)

  pub below_part : (a b : Ty) → alts a ≡ a ∷ [] → alts b ≡ b ∷ [] → B a b → PartBy n B a b
  below_part a b e f x = let F : List Ty → Type 0 = λ z. SomeBy P a z in plain_part a b e (only_part a b (subst F f (found_of a b e x)))

  pub part_below : (a b : Ty) → alts a ≡ a ∷ [] → alts b ≡ b ∷ [] → PartBy n B a b → B a b
  part_below a b e f p = of_found a b e (rw f (this a b [] (part_of n a b p)))
