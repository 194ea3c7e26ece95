-- The names in types, form by form.
use Rattle.std.proofs.Common.{◌≡◌, ◌∙◌, sym, ap, refl, ℕ, zero, suc, ◌+◌, ◌<◌, arith, add-one, Bool, true, false, ◌&&◌, nat_lt, List, [], ◌∷◌, ◌++◌, length, drop, get_or}
use Rattle.std.specs.List.{flat_map, list_all}
use Rattle.jl_model.specs.declared.ty.Ty.{Ty}
use Rattle.jl_model.specs.declared.ty.Ty.TheVariants as W
use Rattle.jl_model.specs.declared.ty.Bound.{Bound}
use Rattle.jl_model.specs.Rows.{vars_in}
use Rattle.jl_model.specs.Refusals.{bound_types}
use Rattle.jl_model.proofs.FormLemmas.{vars-any, vars-var, vars-union, vars-tuple, vars-nominal}

and_assoc : (a b c : Bool) → (a && (b && c)) ≡ ((a && b) && c)
and_assoc true b c = refl
and_assoc false b c = refl

pub all-append : {A : Type 0} (p : A → Bool) (xs ys : List A) → list_all p (xs ++ ys) ≡ (list_all p xs && list_all p ys)
all-append p [] ys = refl
all-append p (x ∷ xs) ys = ap (λ b. p x && b) (all-append p xs ys) ∙ and_assoc (p x) (list_all p xs) (list_all p ys)

abbrev pub below : ℕ → List ℕ → Bool
below m = list_all (λ v. nat_lt v m)

pub own-suc : (m : ℕ) (ts : List Ty) (i : ℕ) (t : Ty) → i < length ts → t ≡ get_or ts i t → list_all (λ v. nat_lt v m) (flat_map vars_in (drop i ts)) ≡ (list_all (λ v. nat_lt v m) (vars_in t) && list_all (λ v. nat_lt v m) (flat_map vars_in (drop (i + 1) ts)))
own-suc m [] i t h e = absurd (omega arith)
own-suc m (x ∷ xs) zero t h e = all-append (λ v. nat_lt v m) (vars_in x) (flat_map vars_in xs) ∙ ap (λ z. below m (vars_in z) && below m (flat_map vars_in xs)) (sym e)
own-suc m (x ∷ xs) (suc i) t h e = rw add-one (rw add-one at (own-suc m xs i t (omega arith) e))

pub own-bounds-suc : (m : ℕ) (bs : List Bound) (i : ℕ) (b : Bound) → i < length bs → b ≡ get_or bs i b
    → list_all (λ v. nat_lt v m) (flat_map vars_in (bound_types (drop i bs))) ≡ (list_all (λ v. nat_lt v m) (vars_in b.low) && (list_all (λ v. nat_lt v m) (vars_in b.high) && list_all (λ v. nat_lt v m) (flat_map vars_in (bound_types (drop (i + 1) bs)))))
own-bounds-suc m [] i b h e = absurd (omega arith)
own-bounds-suc m (x ∷ xs) zero b h e =
    let rest = flat_map vars_in (bound_types xs) in
    all-append (λ v. nat_lt v m) (vars_in x.low) (vars_in x.high ++ rest) ∙ ap (λ z. below m (vars_in x.low) && z) (all-append (λ v. nat_lt v m) (vars_in x.high) rest)
    ∙ ap (λ (z : Bound). below m (vars_in z.low) && (below m (vars_in z.high) && below m rest)) (sym e)
own-bounds-suc m (x ∷ xs) (suc i) b h e = rw add-one (rw add-one at (own-bounds-suc m xs i b (omega arith) e))

and_true : (b : Bool) → b ≡ (b && true)
and_true true = refl
and_true false = refl

pub own_var : (m : ℕ) (t : Ty) (v : ℕ) → t ≡ W.Var v → nat_lt v m ≡ list_all (λ v. nat_lt v m) (vars_in t)
own_var m t v e = and_true (nat_lt v m) ∙ sym (ap (λ z. below m (vars_in z)) e ∙ ap (below m) (vars-var v))

pub ruleset owning = (own-suc, own-bounds-suc, vars-any, vars-var, vars-union, vars-tuple, vars-nominal)
