-- Where a variable stands, form by form.
use Rattle.std.proofs.Common.{◌≡◌, ◌∙◌, sym, ap, refl, ℕ, zero, suc, ◌+◌, ◌<◌, arith, add-one, Bool, true, false, ◌&&◌, ◌||◌, not, nat_eq, List, [], ◌∷◌, map, length, drop, get_or}
use Rattle.std.specs.List.{flat_map, list_all, list_any}
use Rattle.std.proofs.lemmas.List.Folds.{list_any-append}
use Rattle.jl_model.specs.declared.ty.Ty.{Ty}
use Rattle.jl_model.specs.declared.ty.Ty.TheOpen.{Any, Union, Tuple, Nominal, Var}
use Rattle.jl_model.specs.declared.ty.Ty.TheViews.{rolls-Any, rolls-Union, rolls-Tuple, rolls-Nominal, rolls-Var}
use Rattle.jl_model.specs.declared.ty.Ty.TheViews as V
use Rattle.jl_model.specs.declared.ty.Ty.TheVariants as W
use Rattle.jl_model.specs.declared.ty.Ty.TheFolds.{para-roll-Ty}
use Rattle.jl_model.specs.Rows.{vars_in}
use Rattle.jl_model.specs.Usable.{stands_in, is_outside_unions, outside_step}
use Rattle.jl_model.proofs.FormLemmas.{all_seconds, vars-any, vars-var, vars-union, vars-tuple, vars-nominal}

module _ (v : ℕ) where
  some : List ℕ → Bool
  some = list_any (nat_eq v)

  stands_flat : (ts : List Ty) → list_any (nat_eq v) (flat_map vars_in ts) ≡ list_any (stands_in v) ts
  stands_flat [] = refl
  stands_flat (t ∷ ts) = list_any-append (nat_eq v) (vars_in t) (flat_map vars_in ts) ∙ ap (λ b. stands_in v t || b) (stands_flat ts)

  pub stands-any : stands_in v W.Any ≡ false
  stands-any = ap (list_any (nat_eq v)) vars-any

  pub stands-var : (w : ℕ) → stands_in v (W.Var w) ≡ nat_eq v w
  stands-var w = ap (list_any (nat_eq v)) (vars-var w) ∙ or_false (nat_eq v w)
    where
      or_false : (b : Bool) → (b || false) ≡ b
      or_false true = refl
      or_false false = refl

  pub stands-union : (ts : List Ty) → stands_in v (V.Union ts) ≡ list_any (stands_in v) ts
  stands-union ts = ap (list_any (nat_eq v)) (vars-union ts) ∙ stands_flat ts

  pub stands-tuple : (ts : List Ty) → stands_in v (V.Tuple ts) ≡ list_any (stands_in v) ts
  stands-tuple ts = ap (list_any (nat_eq v)) (vars-tuple ts) ∙ stands_flat ts

  pub stands-nominal : (k : ℕ) (ts : List Ty) → stands_in v (V.Nominal k ts) ≡ list_any (stands_in v) ts
  stands-nominal k ts = ap (list_any (nat_eq v)) (vars-nominal k ts) ∙ stands_flat ts

  not_some : (ts : List Ty) → list_all (λ e. not (stands_in v e.0)) (map (λ t. let p : Ty × Bool = (t, is_outside_unions v t) in p) ts) ≡ not (list_any (stands_in v) ts)
  not_some [] = refl
  not_some (t ∷ ts) = ap (λ b. not (stands_in v t) && b) (not_some ts) ∙ de_morgan (stands_in v t) (list_any (stands_in v) ts)
    where
      de_morgan : (a b : Bool) → (not a && not b) ≡ not (a || b)
      de_morgan true b = refl
      de_morgan false b = refl

  pub outside-any : is_outside_unions v W.Any ≡ true
  outside-any = ap (is_outside_unions v) (sym rolls-Any) ∙ para-roll-Ty Bool (outside_step v) Any

  pub outside-var : (w : ℕ) → is_outside_unions v (W.Var w) ≡ true
  outside-var w = ap (is_outside_unions v) (sym (rolls-Var w)) ∙ para-roll-Ty Bool (outside_step v) (Var w)

  pub outside-union : (ts : List Ty) → is_outside_unions v (V.Union ts) ≡ not (list_any (stands_in v) ts)
  outside-union ts = ap (is_outside_unions v) (sym (rolls-Union ts)) ∙ para-roll-Ty Bool (outside_step v) (Union ts) ∙ not_some ts

  pub outside-tuple : (ts : List Ty) → is_outside_unions v (V.Tuple ts) ≡ list_all (is_outside_unions v) ts
  outside-tuple ts = ap (is_outside_unions v) (sym (rolls-Tuple ts)) ∙ para-roll-Ty Bool (outside_step v) (Tuple ts) ∙ all_seconds (is_outside_unions v) ts

  pub outside-nominal : (k : ℕ) (ts : List Ty) → is_outside_unions v (V.Nominal k ts) ≡ list_all (is_outside_unions v) ts
  outside-nominal k ts = ap (is_outside_unions v) (sym (rolls-Nominal k ts)) ∙ para-roll-Ty Bool (outside_step v) (Nominal k ts) ∙ all_seconds (is_outside_unions v) ts

pub any-suc : (p : Ty → Bool) (ts : List Ty) (i : ℕ) (t : Ty) → i < length ts → t ≡ get_or ts i t → list_any p (drop i ts) ≡ (p t || list_any p (drop (i + 1) ts))
any-suc p [] i t h e = absurd (omega arith)
any-suc p (x ∷ xs) zero t h e = ap (λ z. p z || list_any p xs) (sym e)
any-suc p (x ∷ xs) (suc i) t h e = rw add-one (rw add-one at (any-suc p xs i t (omega arith) e))

pub all-suc : (p : Ty → Bool) (ts : List Ty) (i : ℕ) (t : Ty) → i < length ts → t ≡ get_or ts i t → list_all p (drop i ts) ≡ (p t && list_all p (drop (i + 1) ts))
all-suc p [] i t h e = absurd (omega arith)
all-suc p (x ∷ xs) zero t h e = ap (λ z. p z && list_all p xs) (sym e)
all-suc p (x ∷ xs) (suc i) t h e = rw add-one (rw add-one at (all-suc p xs i t (omega arith) e))

pub ruleset standing = (any-suc, stands-any, stands-var, stands-union, stands-tuple, stands-nominal)

pub ruleset keeping_out = (all-suc, outside-any, outside-var, outside-union, outside-tuple, outside-nominal)
