-- Raw alternatives of lists from a place on, and products that are capped.
use Rattle.std.proofs.Common.{◌≡◌, ◌∙◌, sym, ap, ℕ, zero, suc, ◌+◌, ◌*◌, ◌<◌, ◌≤◌, min, arith, add-one, List, [], ◌∷◌, map, length, drop, get_or}
use Rattle.std.proofs.Math.Nat.{mul-suc, mul-zero, mul_assoc}
use Rattle.jl_model.specs.declared.ty.Ty.{Ty}
use Rattle.jl_model.specs.Counts.{greatest, raw}
use Rattle.jl_model.proofs.CountLemmas.{raw-any, raw-var, raw-union, raw-tuple, raw-nominal}

abbrev pub counts : List Ty → List ℕ
counts ts = map (λ r. r.count) (map raw ts)

abbrev pub widths : List Ty → List ℕ
widths ts = map (λ r. r.widest) (map raw ts)

pub counts-suc : (ts : List Ty) (i : ℕ) (t : Ty) → i < length ts → t ≡ get_or ts i t → counts (drop i ts) ≡ (raw t).count ∷ counts (drop (i + 1) ts)
counts-suc [] i t h e = absurd (omega arith)
counts-suc (x ∷ xs) zero t h e = ap (λ z. (raw z).count ∷ counts xs) (sym e)
counts-suc (x ∷ xs) (suc i) t h e = rw add-one (rw add-one at (counts-suc xs i t (omega arith) e))

pub widths-suc : (ts : List Ty) (i : ℕ) (t : Ty) → i < length ts → t ≡ get_or ts i t → widths (drop i ts) ≡ (raw t).widest ∷ widths (drop (i + 1) ts)
widths-suc [] i t h e = absurd (omega arith)
widths-suc (x ∷ xs) zero t h e = ap (λ z. (raw z).widest ∷ widths xs) (sym e)
widths-suc (x ∷ xs) (suc i) t h e = rw add-one (rw add-one at (widths-suc xs i t (omega arith) e))

pub widest-at : (ts : List Ty) (i : ℕ) (t : Ty) → i < length ts → t ≡ get_or ts i t → (raw t).widest ≤ greatest (widths ts)
widest-at [] i t h e = absurd (omega arith)
widest-at (x ∷ xs) zero t h e = let f : (raw t).widest ≡ (raw x).widest = ap (λ z. (raw z).widest) e in omega arith
widest-at (x ∷ xs) (suc i) t h e = let f = widest-at xs i t (omega arith) e in omega arith

pub ruleset raws = (counts-suc, widths-suc, widest-at, raw-any, raw-var, raw-union, raw-tuple, raw-nominal)

cap_mul : (a r : ℕ) → min (min a 257 * r) 257 ≡ min (a * r) 257
cap_mul a zero = let p : min a 257 * 0 ≡ 0 = mul-zero (min a 257) in let q : a * 0 ≡ 0 = mul-zero a in ap (λ z. min z 257) (p ∙ sym q)
cap_mul a (suc r) =
    let p : min a 257 * suc r ≡ min a 257 * r + min a 257 = mul-suc (min a 257) r in
    let q : a * suc r ≡ a * r + a = mul-suc a r in
    let h = cap_mul a r in
    omega arith

pub cap-product : (acc c new r t : ℕ) → new ≡ min (acc * c) 257 → min (acc * (c * r)) 257 ≡ t → min (new * r) 257 ≡ t
cap-product acc c new r t e h = ap (λ z. min (z * r) 257) e ∙ cap_mul (acc * c) r ∙ ap (λ z. min z 257) (mul_assoc acc c r) ∙ h
