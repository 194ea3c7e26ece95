-- How many of some numbers in order are up to another, and how many of some things with such numbers, from what a search by halves tells.
use Rattle.std.proofs.Common.{ℕ, zero, suc, ◌+◌, ◌<◌, ◌≤◌, ◌≡◌, ◌⊎◌, inl, inr, ap, leb, leb-true, leb-false, arith, true, false, List, [], ◌∷◌, length, map, get_or}
use Rattle.std.specs.List.Sorted.{IsStrictlyIncreasing, IsNonDecreasingBy, IsPartitionPoint}
use Rattle.std.proofs.lemmas.List.Kept.{AllPairs-from_increasing}
use Rattle.jl_methods.specs.Counted.{IsCountUpTo}
use Rattle.jl_methods.specs.Numbered.{RisesFrom}

pub in_order : (ns : List ℕ) → IsStrictlyIncreasing ns → IsNonDecreasingBy (λ (n : ℕ). n) ns
in_order ns h i j d le l = by (which i j le)
  where
    which : (i j : ℕ) → i ≤ j → (i < j) ⊎ (i ≡ j)
    which i j le = grind (arith, le)

    by : (i < j) ⊎ (i ≡ j) → get_or ns i d ≤ get_or ns j d
    by (inl lt) = let m = AllPairs-from_increasing ns h i j d lt l in omega (arith, m)
    by (inr e) = let m : get_or ns i d ≡ get_or ns j d = ap (λ k. get_or ns k d) e in omega (arith, m)

pub counted : (ns : List ℕ) (most count : ℕ) → count ≤ length ns → IsPartitionPoint (λ (n : ℕ). leb n most ≡ true) (λ (n : ℕ). leb n most ≡ false) ns count → IsCountUpTo ns most count
counted ns most count l point = record {
  within = l;
  low = λ k lt. leb-true _ _ (point.0 k 0 (omega arith) lt);
  high = λ k le lt. (let f = leb-false _ _ (point.1 k 0 le lt) in omega (arith, f));
}

-- things whose numbers are in order
module _ {X : Type 0} (at : X → ℕ) where
  each_above : (low : ℕ) (xs : List X) (j : ℕ) (d : X) → RisesFrom low (map at xs) → j < length xs → low ≤ at (get_or xs j d)
  each_above low [] j d r l = absurd (omega (arith, l))
  each_above low (x ∷ xs) zero d r l = r.0
  each_above low (x ∷ xs) (suc j) d r l = let m = each_above (at x + 1) xs j d r.1 (omega (arith, l)) in omega (arith, m, r.0)

  in_order_from : (low : ℕ) (xs : List X) (i j : ℕ) (d : X) → RisesFrom low (map at xs) → i ≤ j → j < length xs → at (get_or xs i d) ≤ at (get_or xs j d)
  in_order_from low [] i j d r le l = absurd (omega (arith, l))
  in_order_from low (x ∷ xs) zero zero d r le l = omega arith
  in_order_from low (x ∷ xs) zero (suc j) d r le l = let m = each_above (at x + 1) xs j d r.1 (omega (arith, l)) in omega (arith, m)
  in_order_from low (x ∷ xs) (suc i) zero d r le l = absurd (omega (arith, le))
  in_order_from low (x ∷ xs) (suc i) (suc j) d r le l = in_order_from (at x + 1) xs i j d r.1 (omega (arith, le)) (omega (arith, l))

  pub rise_in_order : (xs : List X) → RisesFrom 0 (map at xs) → IsNonDecreasingBy at xs
  rise_in_order xs r i j d le l = in_order_from 0 xs i j d r le l
