-- Lists that are cut, and lists with one place changed.
use Rattle.std.proofs.Common.{◌≡◌, ◌∙◌, ap, refl, ℕ, zero, suc, ◌+◌, ◌<◌, ◌≤◌, arith, List, [], ◌∷◌, ◌++◌, length, take, drop, slice_get, set, Some}
use Rattle.jl_calculus.specs.declared.history.Event.{Event}
use Rattle.jl_report.specs.declared.entry.Step.{Step}
use Rattle.jl_replay.specs.Told.{items_told}

-- ---- cut after an element

front_cut : {X : Type 0} (ys : List X) (y : X) (zs : List X)
    → (take (length ys + 1) (ys ++ y ∷ zs) ≡ ys ++ y ∷ []) × (drop (length ys + 1) (ys ++ y ∷ zs) ≡ zs) × (length ys + 1 ≤ length (ys ++ y ∷ zs))
front_cut [] y zs = (refl, refl, omega arith)
front_cut (x ∷ ys) y zs =
    let (t, d, l) = front_cut ys y zs in
    let e : suc (length ys) + 1 ≡ suc (length ys + 1) = omega arith in (
      ap (λ k. take k (x ∷ (ys ++ y ∷ zs))) e ∙ ap (λ ws. x ∷ ws) t,
      ap (λ k. drop k (x ∷ (ys ++ y ∷ zs))) e ∙ d,
      omega (arith, l),
    )

pub cut_after : {X : Type 0} (n : ℕ) (xs ys : List X) (y : X) (zs : List X) → n ≤ length xs → drop n xs ≡ ys ++ y ∷ zs
    → (take (n + length ys + 1) xs ≡ (take n xs ++ ys) ++ y ∷ []) × (drop (n + length ys + 1) xs ≡ zs) × (n + length ys + 1 ≤ length xs)
cut_after zero xs ys y zs l q =
    let (t, d, k) = front_cut ys y zs in
    let e : 0 + length ys + 1 ≡ length ys + 1 = omega arith in (
      ap (λ i. take i xs) e ∙ ap (take (length ys + 1)) q ∙ t,
      ap (λ i. drop i xs) e ∙ ap (drop (length ys + 1)) q ∙ d,
      omega (arith, k, ap length q),
    )
cut_after (suc n) [] ys y zs l q = absurd (omega (arith, l))
cut_after (suc n) (x ∷ xs) ys y zs l q =
    let (t, d, k) = cut_after n xs ys y zs (omega (arith, l)) q in
    let e : suc n + length ys + 1 ≡ suc (n + length ys + 1) = omega arith in (
      ap (λ i. take i (x ∷ xs)) e ∙ ap (λ ws. x ∷ ws) t,
      ap (λ i. drop i (x ∷ xs)) e ∙ d,
      omega (arith, k),
    )

-- ---- one place changed

pub set_here : {X : Type 0} (xs : List X) (n : ℕ) (x : X) → n < length xs → slice_get (set xs n x) n ≡ Some x
set_here [] n x l = absurd (omega (arith, l))
set_here (y ∷ xs) zero x l = refl
set_here (y ∷ xs) (suc n) x l = set_here xs n x (omega (arith, l))

pub set_there : {X : Type 0} (xs : List X) (n m : ℕ) (x : X) → (m ≡ n → ⊥) → slice_get (set xs n x) m ≡ slice_get xs m
set_there [] n m x o = refl
set_there (y ∷ xs) zero zero x o = absurd (o refl)
set_there (y ∷ xs) zero (suc m) x o = refl
set_there (y ∷ xs) (suc n) zero x o = refl
set_there (y ∷ xs) (suc n) (suc m) x o = set_there xs n m x (λ q. o (ap suc q))

pub set_length : {X : Type 0} (xs : List X) (n : ℕ) (x : X) → length (set xs n x) ≡ length xs
set_length [] n x = refl
set_length (y ∷ xs) zero x = refl
set_length (y ∷ xs) (suc n) x = ap suc (set_length xs n x)

pub get_last : {X : Type 0} (xs : List X) (x : X) → slice_get (xs ++ x ∷ []) (length xs) ≡ Some x
get_last [] x = refl
get_last (y ∷ xs) x = get_last xs x

-- ---- items

pub told_length : (es : List Event) (ss : List Step) → length (items_told es ss) ≡ length ss
told_length es [] = refl
told_length es (s ∷ ss) = ap suc (told_length es ss)
