-- The places of a variable, form by form.
use Rattle.std.proofs.Common.{◌≡◌, ◌∙◌, sym, ap, ℕ, zero, suc, ◌+◌, ◌<◌, arith, add-one, cond, nat_eq, List, [], ◌∷◌, map, length, drop, get_or}
use Rattle.jl_model.specs.declared.ty.Ty.{Ty}
use Rattle.jl_model.specs.declared.ty.Ty.TheOpen.{Any, Union, Tuple, Nominal, Var}
use Rattle.jl_model.specs.declared.ty.Ty.TheViews.{rolls-Any, rolls-Union, rolls-Tuple, rolls-Nominal, rolls-Var}
use Rattle.jl_model.specs.declared.ty.Ty.TheViews as V
use Rattle.jl_model.specs.declared.ty.Ty.TheVariants as W
use Rattle.jl_model.specs.declared.ty.Ty.TheFolds.{fold-roll-Ty}
use Rattle.jl_model.specs.Kinds.{Places, places, places_step, plus_all, nowhere, below_nominal}

pub places-any : (v : ℕ) → places v W.Any ≡ nowhere
places-any v = ap (places v) (sym rolls-Any) ∙ fold-roll-Ty Places (places_step v) Any

pub places-union : (v : ℕ) (ts : List Ty) → places v (V.Union ts) ≡ plus_all (map (places v) ts)
places-union v ts = ap (places v) (sym (rolls-Union ts)) ∙ fold-roll-Ty Places (places_step v) (Union ts)

pub places-tuple : (v : ℕ) (ts : List Ty) → places v (V.Tuple ts) ≡ plus_all (map (places v) ts)
places-tuple v ts = ap (places v) (sym (rolls-Tuple ts)) ∙ fold-roll-Ty Places (places_step v) (Tuple ts)

pub places-nominal : (v k : ℕ) (ts : List Ty) → places v (V.Nominal k ts) ≡ below_nominal (plus_all (map (places v) ts))
places-nominal v k ts = ap (places v) (sym (rolls-Nominal k ts)) ∙ fold-roll-Ty Places (places_step v) (Nominal k ts)

pub places-var : (v w : ℕ) → places v (W.Var w) ≡ cond (nat_eq v w) (record { covariant = 1; invariant = 0 }) nowhere
places-var v w = ap (places v) (sym (rolls-Var w)) ∙ fold-roll-Ty Places (places_step v) (Var w)

pub covariant-suc : (v : ℕ) (ts : List Ty) (i : ℕ) (t : Ty) → i < length ts → t ≡ get_or ts i t
    → (plus_all (map (places v) (drop i ts))).covariant ≡ (places v t).covariant + (plus_all (map (places v) (drop (i + 1) ts))).covariant
covariant-suc v [] i t h e = absurd (omega arith)
covariant-suc v (x ∷ xs) zero t h e = ap (λ z. (places v z).covariant + (plus_all (map (places v) xs)).covariant) (sym e)
covariant-suc v (x ∷ xs) (suc i) t h e = rw add-one (rw add-one at (covariant-suc v xs i t (omega arith) e))

pub invariant-suc : (v : ℕ) (ts : List Ty) (i : ℕ) (t : Ty) → i < length ts → t ≡ get_or ts i t
    → (plus_all (map (places v) (drop i ts))).invariant ≡ (places v t).invariant + (plus_all (map (places v) (drop (i + 1) ts))).invariant
invariant-suc v [] i t h e = absurd (omega arith)
invariant-suc v (x ∷ xs) zero t h e = ap (λ z. (places v z).invariant + (plus_all (map (places v) xs)).invariant) (sym e)
invariant-suc v (x ∷ xs) (suc i) t h e = rw add-one (rw add-one at (invariant-suc v xs i t (omega arith) e))

pub ruleset placing = (covariant-suc, invariant-suc, places-any, places-union, places-tuple, places-nominal, places-var)
