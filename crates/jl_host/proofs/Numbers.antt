-- The method at a place has the number of its place.
use Rattle.std.proofs.Common.{◌≡◌, ◌∙◌, ap, sym, refl, subst, arith, ℕ, zero, suc, ◌<◌, List, [], ◌∷◌, map, length, get_or}
use Rattle.jl_host.specs.Methods.{AreNumbered}

mapped : {X : Type 0} (f : X → ℕ) (xs : List X) (i : ℕ) (x : X) → i < length xs → get_or (map f xs) i 0 ≡ f (get_or xs i x)
mapped f [] i x lt = absurd (omega (arith, lt))
mapped f (y ∷ xs) zero x lt = refl
mapped f (y ∷ xs) (suc i) x lt = mapped f xs i x (omega (arith, lt))

as_long : {X : Type 0} (f : X → ℕ) (xs : List X) → length (map f xs) ≡ length xs
as_long f [] = refl
as_long f (x ∷ xs) = ap suc (as_long f xs)

pub number_at : {X : Type 0} (f : X → ℕ) (xs : List X) (i : ℕ) (x : X) → AreNumbered (map f xs) → i < length xs → x ≡ get_or xs i x → f x ≡ i
number_at f xs i x are lt e = ap f e ∙ sym (mapped f xs i x lt) ∙ are i (subst (λ n. i < n) (sym (as_long f xs)) lt)
