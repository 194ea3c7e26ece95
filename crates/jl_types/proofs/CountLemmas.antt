-- The nodes of lists from a place on.
use Rattle.std.proofs.Common.{◌≡◌, ap, ℕ, zero, suc, ◌+◌, ◌<◌, arith, add-one, List, [], ◌∷◌, map, length, drop, get_or}
use Rattle.jl_model.specs.declared.ty.Ty.{Ty}
use Rattle.jl_model.specs.Counts.{total, nodes}
use Rattle.jl_model.proofs.CountLemmas.{nodes-any, nodes-var, nodes-union, nodes-tuple, nodes-nominal}

pub total-suc : (ts : List Ty) (i : ℕ) (t : Ty) → i < length ts → t ≡ get_or ts i t → total (map nodes (drop i ts)) ≡ nodes t + total (map nodes (drop (i + 1) ts))
total-suc [] i t h e = absurd (omega arith)
total-suc (x ∷ xs) zero t h e = let f : nodes t ≡ nodes x = ap nodes e in omega arith
total-suc (x ∷ xs) (suc i) t h e = rw add-one (rw add-one at (total-suc xs i t (omega arith) e))

pub ruleset counting = (total-suc, nodes-any, nodes-var, nodes-union, nodes-tuple, nodes-nominal)
