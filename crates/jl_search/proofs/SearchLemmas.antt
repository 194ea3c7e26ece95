-- Lists from a place on, for the searches.
use Rattle.std.proofs.Common.{◌≡◌, refl, ℕ, zero, suc, ◌+◌, ◌<◌, arith, add-one, List, [], ◌∷◌, map, length, drop, get_or, Option, None}
use Rattle.jl_model.specs.declared.ty.Ty.{Ty}
use Rattle.jl_model.specs.Found.{first, or_else}
use Rattle.jl_search.proofs.FindLemmas.{arg-any, arg-union, arg-tuple, arg-nominal, arg-var, inner-find-any, inner-find-tuple, inner-find-nominal, inner-find-var, inner-find-union, outer-find-any, outer-find-tuple, outer-find-nominal, outer-find-var, outer-find-union}

pub first-none : (fs : List (Ty → Option Ty)) → first fs [] ≡ None
first-none [] = refl
first-none (f ∷ fs) = refl

pub first-at : (F : Ty → Ty → Option Ty) (ps xs : List Ty) (i : ℕ) (p x : Ty) → i < length ps → i < length xs → p ≡ get_or ps i p → x ≡ get_or xs i x
    → first (map F (drop i ps)) (drop i xs) ≡ or_else (F p x) (first (map F (drop (i + 1) ps)) (drop (i + 1) xs))
first-at F [] xs i p x a b e f = absurd (omega arith)
first-at F (q ∷ ps) [] i p x a b e f = absurd (omega arith)
first-at F (q ∷ ps) (y ∷ xs) zero p x a b e f = rw (e, f) refl
first-at F (q ∷ ps) (y ∷ xs) (suc i) p x a b e f = rw add-one (rw add-one at (first-at F ps xs i p x (omega arith) (omega arith) e f))

pub ruleset searching = (first-none, first-at, arg-any, arg-union, arg-tuple, arg-nominal, arg-var, inner-find-any, inner-find-union, inner-find-tuple, inner-find-nominal, inner-find-var, outer-find-any, outer-find-union, outer-find-tuple, outer-find-nominal, outer-find-var)
