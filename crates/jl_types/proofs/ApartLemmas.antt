-- What is left of candidates covers them all, and none of it is below another that is small.
use Rattle.std.proofs.Common.{◌≡◌, ◌<◌, ◌≤◌, arith, List, [], ◌∷◌, ◌++◌, ◌⊎◌, inl, inr}
use Rattle.jl_model.specs.declared.ty.Ty.{Ty}
use Rattle.jl_model.specs.Counts.{nodes}
use Rattle.jl_model.specs.Subtype.{Table, opaque, Below}
use Rattle.jl_model.specs.Members.{BelowSome}
use Rattle.jl_model.proofs.AncestorLemmas.{Lawful}
use Rattle.jl_model.proofs.SelfLemmas.{below_self}
use Rattle.jl_model.proofs.TransLemmas.{below_trans}
use Rattle.jl_model.proofs.NormalLemmas.{In, first, later}
use Rattle.jl_types.specs.Reduce.{BelowNoSmall, Thinned, thin_end, kept, dropped, Inserted, covered, small, large, Reduces, reduced, insert}

-- none of these is below t, if t is small
abbrev pub NoneBelow : Table → List Ty → Ty → Type 0
NoneBelow n [] t = Unit {0}
NoneBelow n (u ∷ us) t = (nodes t ≤ 1024 → Below n opaque u t → ⊥) × NoneBelow n us t

-- none is below another that is small
abbrev pub Apart : Table → List Ty → Type 0
Apart n [] = Unit {0}
Apart n (t ∷ ts) = BelowNoSmall n t ts × NoneBelow n ts t × Apart n ts

-- each is below some
abbrev pub AllBelowSome : Table → List Ty → List Ty → Type 0
AllBelowSome n [] us = Unit {0}
AllBelowSome n (t ∷ ts) us = BelowSome n t us × AllBelowSome n ts us

module _ (n : Table) (law : Lawful n) where
  some_left : (t : Ty) (us vs : List Ty) → BelowSome n t us → BelowSome n t (us ++ vs)
  some_left t [] vs h = absurd h
  some_left t (u ∷ us) vs (inl b) = inl b
  some_left t (u ∷ us) vs (inr h) = inr (some_left t us vs h)

  some_last : (t c : Ty) (us : List Ty) → Below n opaque t c → BelowSome n t (us ++ c ∷ [])
  some_last t c [] b = inl b
  some_last t c (u ∷ us) b = inr (some_last t c us b)

  -- a member that is left, or one below the new one
  thin_some : (t c : Ty) (ts us : List Ty) → Thinned n c ts us → BelowSome n t ts → BelowSome n t us ⊎ Below n opaque t c
  thin_some t c ts us thin_end h = absurd h
  thin_some t c ts us (kept s ss vs d k) (inl b) = inl (inl b)
  thin_some t c ts us (kept s ss vs d k) (inr h) = elim (thin_some t c ss vs k h) [ inl g ↦ inl (inr g) | inr g ↦ inr g ]
  thin_some t c ts us (dropped s ss vs d k) (inl b) = inr (below_trans n law t s c b d)
  thin_some t c ts us (dropped s ss vs d k) (inr h) = thin_some t c ss us k h

  insert_some : (t c : Ty) (ts us : List Ty) → Inserted n ts c us → BelowSome n t ts → BelowSome n t us
  insert_some t c ts us (covered b) h = h
  insert_some t c ts us (small vs s b d) h = elim (thin_some t c ts vs d h) [ inl g ↦ some_left t vs (c ∷ []) g | inr g ↦ some_last t c vs g ]
  insert_some t c ts us (large s b) h = some_left t ts (c ∷ []) h

  insert_new : (c : Ty) (ts us : List Ty) → Inserted n ts c us → BelowSome n c us
  insert_new c ts us (covered b) = b
  insert_new c ts us (small vs s b d) = some_last c c vs (below_self n c)
  insert_new c ts us (large s b) = some_last c c ts (below_self n c)

  reduce_some : (t : Ty) (cs ts us : List Ty) → Reduces n cs ts us → BelowSome n t ts → BelowSome n t us
  reduce_some t cs ts us (reduced vs) h = h
  reduce_some t cs ts us (insert c ds vs ws os i r) h = reduce_some t ds ws us r (insert_some t c ts ws i h)

  -- what is left covers all candidates
  pub reduce_covers : (cs ts us : List Ty) → Reduces n cs ts us → AllBelowSome n cs us
  reduce_covers cs ts us (reduced vs) = tt
  reduce_covers cs ts us (insert c ds vs ws os i r) = (reduce_some c ds ws us r (insert_new c ts ws i), reduce_covers ds ws us r)

  thin_from : (x c : Ty) (ts us : List Ty) → Thinned n c ts us → In x us → In x ts
  thin_from x c ts us thin_end i = i
  thin_from x c ts us (kept s ss vs d k) (first y ys e) = first s ss e
  thin_from x c ts us (kept s ss vs d k) (later y ys i) = later s ss (thin_from x c ss vs k i)
  thin_from x c ts us (dropped s ss vs d k) i = later s ss (thin_from x c ss us k i)

  thin_unlike : (t c : Ty) (ts us : List Ty) → Thinned n c ts us → BelowNoSmall n t ts → BelowNoSmall n t us
  thin_unlike t c ts us thin_end h = tt
  thin_unlike t c ts us (kept s ss vs d k) h = (h.0, thin_unlike t c ss vs k h.1)
  thin_unlike t c ts us (dropped s ss vs d k) h = thin_unlike t c ss us k h.1

  thin_none : (t c : Ty) (ts us : List Ty) → Thinned n c ts us → NoneBelow n ts t → NoneBelow n us t
  thin_none t c ts us thin_end h = tt
  thin_none t c ts us (kept s ss vs d k) h = (h.0, thin_none t c ss vs k h.1)
  thin_none t c ts us (dropped s ss vs d k) h = thin_none t c ss us k h.1

  thin_apart : (c : Ty) (ts us : List Ty) → Thinned n c ts us → Apart n ts → Apart n us
  thin_apart c ts us thin_end h = tt
  thin_apart c ts us (kept s ss vs d k) h = (thin_unlike s c ss vs k h.0, thin_none s c ss vs k h.1, thin_apart c ss vs k h.2)
  thin_apart c ts us (dropped s ss vs d k) h = thin_apart c ss us k h.2

  -- none that is left is below the new one
  thin_away : (c : Ty) (ts us : List Ty) → Thinned n c ts us → NoneBelow n us c
  thin_away c ts us thin_end = tt
  thin_away c ts us (kept s ss vs d k) = ((λ l b. d b), thin_away c ss vs k)
  thin_away c ts us (dropped s ss vs d k) = thin_away c ss us k

  large_away : (c : Ty) (ts : List Ty) → 1024 < nodes c → NoneBelow n ts c
  large_away c [] l = tt
  large_away c (t ∷ ts) l = ((λ s b. omega arith), large_away c ts l)

  unlike_last : (t c : Ty) (ts : List Ty) → BelowNoSmall n t ts → (nodes c ≤ 1024 → Below n opaque t c → ⊥) → BelowNoSmall n t (ts ++ c ∷ [])
  unlike_last t c [] h k = (k, tt)
  unlike_last t c (u ∷ us) h k = (h.0, unlike_last t c us h.1 k)

  none_last : (t c : Ty) (ts : List Ty) → NoneBelow n ts t → (nodes t ≤ 1024 → Below n opaque c t → ⊥) → NoneBelow n (ts ++ c ∷ []) t
  none_last t c [] h k = (k, tt)
  none_last t c (u ∷ us) h k = (h.0, none_last t c us h.1 k)

  apart_last : (c : Ty) (ts : List Ty) → Apart n ts → NoneBelow n ts c → BelowNoSmall n c ts → Apart n (ts ++ c ∷ [])
  apart_last c [] h k b = (tt, tt, tt)
  apart_last c (t ∷ ts) h k b = (unlike_last t c ts h.0 k.0, none_last t c ts h.1 b.0, apart_last c ts h.2 k.1 b.1)

  insert_apart : (c : Ty) (ts us : List Ty) → Inserted n ts c us → Apart n ts → Apart n us
  insert_apart c ts us (covered b) h = h
  insert_apart c ts us (small vs s b d) h = apart_last c vs (thin_apart c ts vs d h) (thin_away c ts vs d) (thin_unlike c c ts vs d b)
  insert_apart c ts us (large s b) h = apart_last c ts h (large_away c ts s) b

  pub reduce_apart : (cs ts us : List Ty) → Reduces n cs ts us → Apart n ts → Apart n us
  reduce_apart cs ts us (reduced vs) h = h
  reduce_apart cs ts us (insert c ds vs ws os i r) h = reduce_apart ds ws us r (insert_apart c ts ws i h)

  -- what is left is of the candidates
  in_append : (x c : Ty) (ts : List Ty) → In x (ts ++ c ∷ []) → In x ts ⊎ (x ≡ c)
  in_append x c [] (first y ys e) = inr e
  in_append x c [] (later y ys i) = elim i [ ]
  in_append x c (t ∷ ts) (first y ys e) = inl (first t ts e)
  in_append x c (t ∷ ts) (later y ys i) = elim (in_append x c ts i) [ inl g ↦ inl (later t ts g) | inr g ↦ inr g ]

  insert_from : (x c : Ty) (ts us : List Ty) → Inserted n ts c us → In x us → In x ts ⊎ (x ≡ c)
  insert_from x c ts us (covered b) i = inl i
  insert_from x c ts us (small vs s b d) i = elim (in_append x c vs i) [ inl g ↦ inl (thin_from x c ts vs d g) | inr g ↦ inr g ]
  insert_from x c ts us (large s b) i = in_append x c ts i

  pub reduce_from : (x : Ty) (cs ts us : List Ty) → Reduces n cs ts us → In x us → In x ts ⊎ In x cs
  reduce_from x cs ts us (reduced vs) i = inl i
  reduce_from x cs ts us (insert c ds vs ws os j r) i = elim (reduce_from x ds ws us r i) [
    | inl g ↦ elim (insert_from x c ts ws j g) [ inl h ↦ inl h | inr h ↦ inr (first c ds h) ]
    | inr g ↦ inr (later c ds g)
  ]
