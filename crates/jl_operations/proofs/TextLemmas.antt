-- Texts of other lengths are not the same.
use Rattle.std.proofs.Common.{◌≡◌, refl, ap, ℕ, suc, Bool, true, false, ◌&&◌, ◌==◌, List, [], ◌∷◌, length}
use Rattle.jl_program.specs.Names.{same_text}

pub of_other_length : (a b : List ℕ) → (length a ≡ length b → ⊥) → false ≡ same_text a b
of_other_length [] [] h = absurd (h refl)
of_other_length [] (y ∷ ys) h = refl
of_other_length (x ∷ xs) [] h = refl
of_other_length (x ∷ xs) (y ∷ ys) h = and_false (x == y) (same_text xs ys) (of_other_length xs ys (λ e. h (ap suc e)))
  where
    and_false : (p q : Bool) → false ≡ q → false ≡ p && q
    and_false true q e = e
    and_false false q e = refl
