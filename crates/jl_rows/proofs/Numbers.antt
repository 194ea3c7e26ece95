-- Places in lists of numbers, and walks from the end.
use Rattle.std.proofs.Common.{◌≡◌, ◌∙◌, ap, sym, subst, refl, ℕ, ◌+◌, ◌<◌, ◌≤◌, ◌⊎◌, inl, inr, arith, List, [], ◌∷◌, length, take, drop, get_or}
use Rattle.std.specs.List.{Contains}
use Rattle.std.specs.List.Sorted.{IsStrictlyIncreasing}
use Rattle.std.proofs.lemmas.Grind.{get_or_default_zero}
use Rattle.std.proofs.lemmas.List.{drop_more, drop_all, take_more}
use Rattle.std.proofs.lemmas.List.Elements.{Contains-append_left, Contains-append_right, Contains-append_cases}
use Rattle.std.proofs.lemmas.List.Kept.{AllPairs-from_increasing}
use Rattle.jl_methods.proofs.FilterLemmas.{here, here_or_there, none_there}

-- where a number stands
pub stands_at : (ns : List ℕ) (n : ℕ) → Contains ns n → (k : ℕ) × (k < length ns) × (get_or ns k 0 ≡ n)
stands_at ns n (k, l, e) = (k, l, sym (get_or_default_zero ns k n l) ∙ e)

-- in a list in order none behind is below
pub in_order : (ns : List ℕ) (i k : ℕ) → IsStrictlyIncreasing ns → i ≤ k → k < length ns → get_or ns i 0 ≤ get_or ns k 0
in_order ns i k h le l = by (which i k le)
  where
    which : (i k : ℕ) → i ≤ k → (i < k) ⊎ (i ≡ k)
    which i k le = grind (arith, le)

    by : (i < k) ⊎ (i ≡ k) → get_or ns i 0 ≤ get_or ns k 0
    by (inl lt) = let m = AllPairs-from_increasing ns h i k 0 lt l in omega (arith, m)
    by (inr e) = let m : get_or ns i 0 ≡ get_or ns k 0 = ap (λ j. get_or ns j 0) e in omega (arith, m)

-- nothing stands past the end
pub none_past : (ns : List ℕ) (i n : ℕ) → length ns ≤ i → Contains (drop i ns) n → ⊥
none_past ns i n l c = none_there n (drop i ns) (drop_all i ns l) c

-- a walk from the end looks at one more
pub one_before : (ns : List ℕ) (i j n : ℕ) → i < length ns → j ≡ i + 1 → Contains (drop i ns) n → (get_or ns i 0 ≡ n) ⊎ Contains (drop j ns) n
one_before ns i j n l e c =
    subst (λ k. (get_or ns i 0 ≡ n) ⊎ Contains (drop k ns) n) (sym e)
    (here_or_there (get_or ns i 0) n (drop (i + 1) ns) (subst (λ xs. Contains xs n) (drop_more ns i 0 l) c))

-- what stands in the first and one more
pub one_after : (ns : List ℕ) (i n : ℕ) → i < length ns → Contains (take (i + 1) ns) n → Contains (take i ns) n ⊎ (get_or ns i 0 ≡ n)
one_after ns i n l c = by (Contains-append_cases (take i ns) (get_or ns i 0 ∷ []) n (subst (λ xs. Contains xs n) (take_more ns i 0 l) c))
  where
    last : (get_or ns i 0 ≡ n) ⊎ Contains [] n → Contains (take i ns) n ⊎ (get_or ns i 0 ≡ n)
    last (inl e) = inr e
    last (inr d) = absurd (none_there n [] refl d)

    by : Contains (take i ns) n ⊎ Contains (get_or ns i 0 ∷ []) n → Contains (take i ns) n ⊎ (get_or ns i 0 ≡ n)
    by (inl d) = inl d
    by (inr d) = last (here_or_there (get_or ns i 0) n [] d)

pub after_first : (ns : List ℕ) (i n : ℕ) → i < length ns → Contains (take i ns) n → Contains (take (i + 1) ns) n
after_first ns i n l c = subst (λ xs. Contains xs n) (sym (take_more ns i 0 l)) (Contains-append_left (take i ns) (get_or ns i 0 ∷ []) n c)

pub after_last : (ns : List ℕ) (i : ℕ) → i < length ns → Contains (take (i + 1) ns) (get_or ns i 0)
after_last ns i l =
    subst (λ xs. Contains xs (get_or ns i 0)) (sym (take_more ns i 0 l))
    (Contains-append_right (take i ns) (get_or ns i 0 ∷ []) (get_or ns i 0) (here (get_or ns i 0) (get_or ns i 0) [] refl))
