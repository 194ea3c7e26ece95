-- What stands at a place of a list.
use Rattle.std.proofs.Common.{◌≡◌, refl, ℕ, zero, suc, ◌<◌, arith, List, [], ◌∷◌, length, get_or}

-- what stands at a place, whatever would be taken past the end
pub get_same : {X : Type 0} (xs : List X) (i : ℕ) (a b : X) → i < length xs → get_or xs i a ≡ get_or xs i b
get_same [] i a b l = absurd (omega (arith, l))
get_same (x ∷ xs) zero a b l = refl
get_same (x ∷ xs) (suc i) a b l = get_same xs i a b (omega (arith, l))
