-- The tests on places, form by form.
use Rattle.std.proofs.Common.{◌≡◌, ◌∙◌, sym, ap, subst, refl, ℕ, zero, suc, ◌+◌, ◌<◌, ◌≤◌, arith, add-one, Bool, true, ◌&&◌, ◌||◌, not, nat_lt, List, [], ◌∷◌, length, drop, get_or}
use Rattle.std.specs.List.{flat_map, list_all}
use Rattle.jl_model.specs.declared.ty.Ty.{Ty}
use Rattle.jl_model.specs.declared.ty.Ty.TheViews.{outs-Any, outs-Union, outs-Tuple, outs-Nominal, outs-Var}
use Rattle.jl_model.specs.declared.ty.Bound.{Bound}
use Rattle.jl_model.specs.Rows.{vars_in}
use Rattle.jl_model.specs.SigRefusals.{is_bound, are_bounds}
use Rattle.jl_model.proofs.AncestorLemmas.{slice_past}
use Rattle.jl_model.proofs.FormLemmas.{vars-any, vars-var, vars-union, vars-tuple, vars-nominal}
use Rattle.jl_norm.proofs.ListLemmas.{all-suc}
use Rattle.jl_sig.proofs.FitLemmas.{argument-any, argument-var, argument-union, argument-tuple, argument-nominal, component-any, component-var, component-union, component-tuple, component-nominal}
use Rattle.jl_match.proofs.NameLemmas.{all-append}

-- of m variables, the variables that may stand in the upper bound of variable v
abbrev pub may : ℕ → ℕ → ℕ → Bool
may v m w = nat_lt w v || not (nat_lt w m)

pub before-suc : (v m : ℕ) (ts : List Ty) (i : ℕ) (t : Ty) → i < length ts → t ≡ get_or ts i t
    → list_all (λ w. nat_lt w v || not (nat_lt w m)) (flat_map vars_in (drop i ts)) ≡ (list_all (λ w. nat_lt w v || not (nat_lt w m)) (vars_in t) && list_all (λ w. nat_lt w v || not (nat_lt w m)) (flat_map vars_in (drop (i + 1) ts)))
before-suc v m [] i t h e = absurd (omega arith)
before-suc v m (x ∷ xs) zero t h e = all-append (may v m) (vars_in x) (flat_map vars_in xs) ∙ ap (λ z. list_all (may v m) (vars_in z) && list_all (may v m) (flat_map vars_in xs)) (sym e)
before-suc v m (x ∷ xs) (suc i) t h e = rw add-one (rw add-one at (before-suc v m xs i t (omega arith) e))

-- the bounds from a place on
bounds_from : (m v : ℕ) (bs : List Bound) (i : ℕ) (b : Bound) → i < length bs → b ≡ get_or bs i b → are_bounds m (v + i) (drop i bs) ≡ (is_bound m (v + i) b && are_bounds m (v + i + 1) (drop (i + 1) bs))
bounds_from m v [] i b h e = absurd (omega arith)
bounds_from m v (x ∷ xs) zero b h e = ap (λ z. is_bound m (v + zero) z && are_bounds m (v + zero + 1) xs) (sym e)
bounds_from m v (x ∷ xs) (suc i) b h e =
    let p : v + 1 + i ≡ v + suc i = omega arith in
    let q : suc (i + 1) ≡ suc i + 1 = omega arith in
    let r = bounds_from m (v + 1) xs i b (omega arith) e in
    ap (λ k. are_bounds m k (drop i xs)) (sym p) ∙ r ∙ ap (λ k. is_bound m k b && are_bounds m (k + 1) (drop (i + 1) xs)) p ∙ ap (λ k. is_bound m (v + suc i) b && are_bounds m (v + suc i + 1) (drop k (x ∷ xs))) q

pub bounds-suc : (m : ℕ) (bs : List Bound) (i : ℕ) (b : Bound) → i < length bs → b ≡ get_or bs i b → are_bounds m i (drop i bs) ≡ (is_bound m i b && are_bounds m (i + 1) (drop (i + 1) bs))
bounds-suc m bs i b h e =
    let z : 0 + i ≡ i = omega arith in
    subst (λ k. are_bounds m k (drop i bs) ≡ (is_bound m k b && are_bounds m (k + 1) (drop (i + 1) bs))) z (bounds_from m 0 bs i b h e)

pub bounds-end : (m : ℕ) (bs : List Bound) (i : ℕ) → length bs ≤ i → are_bounds m i (drop i bs) ≡ true
bounds-end m bs i h = ap (are_bounds m i) (past bs i h)
  where
    past : (bs : List Bound) (i : ℕ) → length bs ≤ i → drop i bs ≡ []
    past [] zero h = refl
    past [] (suc i) h = refl
    past (b ∷ bs) zero h = absurd (omega (arith, h))
    past (b ∷ bs) (suc i) h = past bs i (omega (arith, h))

pub ruleset arguing = (all-suc, argument-any, argument-var, argument-union, argument-tuple, argument-nominal)

pub ruleset composing = (all-suc, component-any, component-var, component-union, component-tuple, component-nominal)

pub ruleset preceding = (before-suc, vars-any, vars-var, vars-union, vars-tuple, vars-nominal)

pub ruleset bottoms = (outs-Any, outs-Union, outs-Tuple, outs-Nominal, outs-Var)

pub ruleset naming = (slice_past)
