-- The variables of a signature are its own, in its components and in its bounds.
use Rattle.std.proofs.Common.{◌≡◌, ap, refl, ℕ, zero, suc, Bool, true, nat_lt, List, [], ◌∷◌, ◌++◌, length, get_or}
use Rattle.std.specs.List.{flat_map, list_all}
use Rattle.jl_model.specs.declared.ty.Ty.{Ty}
use Rattle.jl_model.specs.declared.ty.Bound.{Bound}
use Rattle.jl_model.specs.declared.ty.Written.{Written}
use Rattle.jl_model.specs.Rows.{free, high, vars_in}
use Rattle.jl_model.specs.Refusals.{bound_types}
use Rattle.jl_model.proofs.PutLemmas.{and_l, and_r, both_true}
use Rattle.jl_model.proofs.FormLemmas.{vars-any}
use Rattle.jl_sig.specs.Prepared.{HasOwnVariables}

module _ (p : ℕ → Bool) where
  pub all_split : (xs ys : List ℕ) → list_all p (xs ++ ys) ≡ true → (list_all p xs ≡ true) × (list_all p ys ≡ true)
  all_split [] ys h = (refl, h)
  all_split (x ∷ xs) ys h =
      let r = all_split xs ys (and_r (p x) (list_all p (xs ++ ys)) h) in
      (both_true (p x) (list_all p xs) (and_l (p x) (list_all p (xs ++ ys)) h) r.0, r.1)

  all_join : (xs ys : List ℕ) → list_all p xs ≡ true → list_all p ys ≡ true → list_all p (xs ++ ys) ≡ true
  all_join [] ys h k = k
  all_join (x ∷ xs) ys h k = both_true (p x) (list_all p (xs ++ ys)) (and_l (p x) (list_all p xs) h) (all_join xs ys (and_r (p x) (list_all p xs) h) k)

  pub vars_split : (ts us : List Ty) → list_all p (flat_map vars_in (ts ++ us)) ≡ true → (list_all p (flat_map vars_in ts) ≡ true) × (list_all p (flat_map vars_in us) ≡ true)
  vars_split [] us h = (refl, h)
  vars_split (t ∷ ts) us h =
      let a = all_split (vars_in t) (flat_map vars_in (ts ++ us)) h in
      let r = vars_split ts us a.1 in
      (all_join (vars_in t) (flat_map vars_in ts) a.0 r.0, r.1)

  pub vars_join : (ts us : List Ty) → list_all p (flat_map vars_in ts) ≡ true → list_all p (flat_map vars_in us) ≡ true → list_all p (flat_map vars_in (ts ++ us)) ≡ true
  vars_join [] us h k = k
  vars_join (t ∷ ts) us h k =
      let a = all_split (vars_in t) (flat_map vars_in ts) h in
      all_join (vars_in t) (flat_map vars_in (ts ++ us)) a.0 (vars_join ts us a.1 k)

  -- those of an upper bound
  high_vars : (bs : List Bound) (v : ℕ) → list_all p (flat_map vars_in (bound_types bs)) ≡ true → list_all p (vars_in (get_or bs v free).high) ≡ true
  high_vars [] zero h = ap (list_all p) vars-any
  high_vars [] (suc v) h = ap (list_all p) vars-any
  high_vars (b ∷ bs) zero h =
      let a = all_split (vars_in b.low) (flat_map vars_in (b.high ∷ bound_types bs)) h in
      (all_split (vars_in b.high) (flat_map vars_in (bound_types bs)) a.1).0
  high_vars (b ∷ bs) (suc v) h =
      let a = all_split (vars_in b.low) (flat_map vars_in (b.high ∷ bound_types bs)) h in
      high_vars bs v (all_split (vars_in b.high) (flat_map vars_in (bound_types bs)) a.1).1

module _ (s : Written) where
  abbrev is_own : ℕ → Bool
  is_own v = nat_lt v (length s.vars)

  pub own_bounds : HasOwnVariables s → list_all (λ v. nat_lt v (length s.vars)) (flat_map vars_in (bound_types s.vars)) ≡ true
  own_bounds h = (vars_split is_own (bound_types s.vars) s.parts h).0

  pub own_parts : HasOwnVariables s → list_all (λ v. nat_lt v (length s.vars)) (flat_map vars_in s.parts) ≡ true
  own_parts h = (vars_split is_own (bound_types s.vars) s.parts h).1

  pub own_joined : list_all (λ v. nat_lt v (length s.vars)) (flat_map vars_in (bound_types s.vars)) ≡ true → list_all (λ v. nat_lt v (length s.vars)) (flat_map vars_in s.parts) ≡ true → HasOwnVariables s
  own_joined h k = vars_join is_own (bound_types s.vars) s.parts h k

  pub own_high : HasOwnVariables s → (v : ℕ) → list_all (λ w. nat_lt w (length s.vars)) (vars_in (high s v)) ≡ true
  own_high h v = high_vars is_own s.vars v (own_bounds h)
