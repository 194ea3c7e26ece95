-- The laws of the choice, for every table and every list of methods.
use Rattle.std.proofs.Common.{◌≡◌, ◌∙◌, sym, ap, refl, ℕ, zero, suc, ◌+◌, ◌<◌, ◌≤◌, ◌⊎◌, inl, inr, arith, Bool, true, false, nat_eq, List, [], ◌∷◌}
use Rattle.std.specs.List.{Contains}
use Rattle.jl_model.specs.declared.ty.Ty.{Ty}
use Rattle.jl_model.specs.Subtype.{Table}
use Rattle.jl_model.specs.Choice.{Method, Applies, IsBest, IsUnordered, IsFirstUnordered, IsFirstTwo, ChoosesNone, ChoosesAmbiguous}
use Rattle.jl_program.specs.declared.choice.Choice.{Choice}
use Rattle.jl_program.specs.declared.choice.Choice.TheVariants as C
use Rattle.jl_program.specs.Chooses.{Chooses}

-- a number above those of all methods
top : List Method → ℕ
top [] = 0
top (m ∷ ms) = m.number + 1 + top ms

below_top : (ms : List Method) (m : Method) → Contains ms m → m.number < top ms
unfolding top
below_top [] m (k, l, e) = absurd (omega arith)
below_top (n ∷ ms) m (zero, l, e) = let q : n.number ≡ m.number = ap (λ z. z.number) e in omega arith
below_top (n ∷ ms) m (suc k, l, e) = let q = below_top ms m (k, omega arith, e) in omega arith

module _ (n : Table) (ms : List Method) (ts : List Ty) where
  -- the latest that applies would be a candidate
  none_within : (k : ℕ) → ChoosesNone n ms ts → (m : Method) → top ms ≤ m.number + k → Applies n ms ts m → ⊥
  none_within zero h m l a = let q = below_top ms m a.stands in omega arith
  none_within (suc k) h m l a = h m (record { applies = a; last = λ o b r s. none_within k h o (omega arith) b })

  pub none_apply : ChoosesNone n ms ts → (m : Method) → Applies n ms ts m → ⊥
  none_apply h m a = none_within (top ms) h m (omega arith) a

  pub none_chosen : ((m : Method) → Applies n ms ts m → ⊥) → ChoosesNone n ms ts
  none_chosen h m c = h m c.applies

  -- of two that are below all others each is below the other, unless they are one
  pub one_best : (m o : Method) → IsBest n ms ts m → IsBest n ms ts o → m.number ≡ o.number
  one_best m o b d = cases (nat_eq m.number o.number) refl
    where
      cases : (e : Bool) → nat_eq m.number o.number ≡ e → m.number ≡ o.number
      cases true q = grind (arith, q)
      cases false q =
          let differ : m.number ≡ o.number → ⊥ = λ k. (let w : nat_eq m.number o.number ≡ true = grind (arith, k) in let z : true ≡ false = sym w ∙ q in cc) in
          let (p, r) = b.below o d.candidate (λ k. differ (sym k)) in
          let (s, t) = d.below m b.candidate differ in
          absurd (r s)

  first_pairs : (a b c d : Method) → IsFirstUnordered n ms ts a b → IsFirstUnordered n ms ts c d → (a.number ≡ c.number) × (b.number ≡ d.number)
  first_pairs a b c d h k = both (h.least c d k.unordered) (k.least a b h.unordered)
    where
      both : (a.number < c.number) ⊎ ((a.number ≡ c.number) × (b.number ≤ d.number)) → (c.number < a.number) ⊎ ((c.number ≡ a.number) × (d.number ≤ b.number))
          → (a.number ≡ c.number) × (b.number ≡ d.number)
      both (inl l) (inl r) = absurd (omega arith)
      both (inl l) (inr (e, r)) = absurd (omega arith)
      both (inr (e, l)) (inl r) = absurd (omega arith)
      both (inr (e, l)) (inr (i, r)) = (e, omega arith)

  two_firsts : (a b c d : Method) → IsFirstTwo n ms ts a b → IsFirstTwo n ms ts c d → (a.number ≡ c.number) × (b.number ≡ d.number)
  two_firsts a b c d h k = (firsts (h.least c k.first) (k.least a h.first), seconds (firsts (h.least c k.first) (k.least a h.first)) (h.least d k.second) (k.least b h.second))
    where
      firsts : (c.number ≡ a.number) ⊎ (b.number ≤ c.number) → (a.number ≡ c.number) ⊎ (d.number ≤ a.number) → a.number ≡ c.number
      firsts (inl e) r = sym e
      firsts (inr l) (inl e) = e
      firsts (inr l) (inr r) = let p = h.earlier in let q = k.earlier in absurd (omega arith)

      seconds : a.number ≡ c.number → (d.number ≡ a.number) ⊎ (b.number ≤ d.number) → (b.number ≡ c.number) ⊎ (d.number ≤ b.number) → b.number ≡ d.number
      seconds e (inl i) r = let q = k.earlier in absurd (omega arith)
      seconds e (inr l) (inl i) = let p = h.earlier in absurd (omega arith)
      seconds e (inr l) (inr r) = omega arith

  ambiguities : (a b c d : ℕ) → ChoosesAmbiguous n ms ts a b → ChoosesAmbiguous n ms ts c d → C.Ambiguous a b ≡ C.Ambiguous c d
  ambiguities a b c d h k = by h.pair k.pair
    where
      same : (x y z w : Method) → x.number ≡ a → y.number ≡ b → z.number ≡ c → w.number ≡ d → (x.number ≡ z.number) × (y.number ≡ w.number) → C.Ambiguous a b ≡ C.Ambiguous c d
      same x y z w p q r s (e, i) = let l : a ≡ c = sym p ∙ e ∙ r in let m : b ≡ d = sym q ∙ i ∙ s in cc

      by : (x : Method) × (y : Method) × (x.number ≡ a) × (y.number ≡ b) × (IsFirstUnordered n ms ts x y ⊎ (((e f : Method) → IsUnordered n ms ts e f → ⊥) × IsFirstTwo n ms ts x y))
          → (x : Method) × (y : Method) × (x.number ≡ c) × (y.number ≡ d) × (IsFirstUnordered n ms ts x y ⊎ (((e f : Method) → IsUnordered n ms ts e f → ⊥) × IsFirstTwo n ms ts x y))
          → C.Ambiguous a b ≡ C.Ambiguous c d
      by (x, y, p, q, inl u) (z, w, r, s, inl v) = same x y z w p q r s (first_pairs x y z w u v)
      by (x, y, p, q, inl u) (z, w, r, s, inr (unpaired, v)) = absurd (unpaired x y u.unordered)
      by (x, y, p, q, inr (unpaired, u)) (z, w, r, s, inl v) = absurd (unpaired z w v.unordered)
      by (x, y, p, q, inr (unpaired, u)) (z, w, r, s, inr (alone, v)) = same x y z w p q r s (two_firsts x y z w u v)

  -- an ambiguity has a candidate
  some_candidate : (a b : ℕ) → ChoosesAmbiguous n ms ts a b → ChoosesNone n ms ts → ⊥
  some_candidate a b h none = by h.pair
    where
      by : (x : Method) × (y : Method) × (x.number ≡ a) × (y.number ≡ b) × (IsFirstUnordered n ms ts x y ⊎ (((e f : Method) → IsUnordered n ms ts e f → ⊥) × IsFirstTwo n ms ts x y)) → ⊥
      by (x, y, p, q, inl u) = let v = u.unordered in none x v.first
      by (x, y, p, q, inr (unpaired, u)) = none x u.first

  -- the rule leaves no choice
  pub determined : (c d : Choice) → Chooses n ms ts c → Chooses n ms ts d → c ≡ d
  determined (C.Method c) (C.Method d) (m, b, e) (o, k, i) = let q = one_best m o b k in let z : c ≡ d = sym e ∙ q ∙ i in cc
  determined (C.Method c) C.None (m, b, e) k = absurd (k m b.candidate)
  determined (C.Method c) (C.Ambiguous a b) (m, h, e) k = absurd (k.none_best m h)
  determined C.None (C.Method d) h (o, k, i) = absurd (h o k.candidate)
  determined C.None C.None h k = refl
  determined C.None (C.Ambiguous a b) h k = absurd (some_candidate a b k h)
  determined (C.Ambiguous a b) (C.Method d) h (o, k, i) = absurd (h.none_best o k)
  determined (C.Ambiguous a b) C.None h k = absurd (some_candidate a b h k)
  determined (C.Ambiguous a b) (C.Ambiguous c d) h k = ambiguities a b c d h k
