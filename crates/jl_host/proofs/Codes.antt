-- The operation that stands at a code is the one of that code.
use Rattle.std.proofs.Common.{◌≡◌, ◌∙◌, ap, sym, refl, arith, ℕ, zero, suc, ◌+◌, ◌<◌, List, [], ◌∷◌, map, length, get_or}
use Rattle.jl_program.specs.Prelude.{OperationRow, operations, sites_from, prelude_numbers}

number_at : (n : ℕ) (rows : List OperationRow) (i d : ℕ) → i < length rows → get_or (sites_from n rows) i d ≡ n + i
number_at n [] i d lt = absurd (omega (arith, lt))
number_at n (row ∷ rows) zero d lt = omega arith
number_at n (row ∷ rows) (suc i) d lt = let e = number_at (n + 1) rows i d (omega (arith, lt)) in omega (arith, e)

mapped_at : {X : Type 0} (f : X → ℕ) (xs : List X) (i : ℕ) (x : X) → get_or (map f xs) i (f x) ≡ f (get_or xs i x)
mapped_at f [] i x = refl
mapped_at f (y ∷ xs) zero x = refl
mapped_at f (y ∷ xs) (suc i) x = mapped_at f xs i x

pub code_at : {X : Type 0} (f : X → ℕ) (xs : List X) (i : ℕ) (x : X) → map f xs ≡ prelude_numbers → i < 14 → x ≡ get_or xs i x → f x ≡ i
code_at f xs i x is lt h =
    let e : f x ≡ 0 + i = ap f h ∙ sym (mapped_at f xs i x) ∙ ap (λ ns. get_or ns i (f x)) is ∙ number_at 0 operations i (f x) lt in omega (arith, e)
