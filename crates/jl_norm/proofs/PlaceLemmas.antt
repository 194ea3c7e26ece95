-- The equations of the tests on places, one for each form.
use Rattle.std.proofs.Common.{◌≡◌, ◌∙◌, sym, ap, ℕ, Bool, true, false, ◌&&◌, not, nat_eq, List}
use Rattle.std.specs.List.{list_all}
use Rattle.jl_model.specs.declared.ty.Ty.{Ty}
use Rattle.jl_model.specs.declared.ty.Ty.TheOpen.{Any, Union, Tuple, Nominal, Var}
use Rattle.jl_model.specs.declared.ty.Ty.TheViews.{rolls-Any, rolls-Union, rolls-Tuple, rolls-Nominal, rolls-Var}
use Rattle.jl_model.specs.declared.ty.Ty.TheViews as V
use Rattle.jl_model.specs.declared.ty.Ty.TheVariants as W
use Rattle.jl_model.specs.declared.ty.Ty.TheFolds.{fold-roll-Ty, para-roll-Ty}
use Rattle.jl_model.specs.Refusals.{is_free_of, free_step, is_placed, placed_step, is_placed_field, arguments_step}
use Rattle.jl_model.proofs.FormLemmas.{all_of, all_firsts, all_seconds}
use Rattle.jl_norm.proofs.ListLemmas.{all-suc}

module _ (m : ℕ) where
  -- without variables and the type m
  pub free-any : is_free_of m W.Any ≡ true
  free-any = ap (is_free_of m) (sym rolls-Any) ∙ fold-roll-Ty Bool (free_step m) Any

  pub free-var : (v : ℕ) → is_free_of m (W.Var v) ≡ false
  free-var v = ap (is_free_of m) (sym (rolls-Var v)) ∙ fold-roll-Ty Bool (free_step m) (Var v)

  pub free-union : (ts : List Ty) → is_free_of m (V.Union ts) ≡ list_all (is_free_of m) ts
  free-union ts = ap (is_free_of m) (sym (rolls-Union ts)) ∙ fold-roll-Ty Bool (free_step m) (Union ts) ∙ all_of (is_free_of m) ts

  pub free-tuple : (ts : List Ty) → is_free_of m (V.Tuple ts) ≡ list_all (is_free_of m) ts
  free-tuple ts = ap (is_free_of m) (sym (rolls-Tuple ts)) ∙ fold-roll-Ty Bool (free_step m) (Tuple ts) ∙ all_of (is_free_of m) ts

  pub free-nominal : (k : ℕ) (ts : List Ty) → is_free_of m (V.Nominal k ts) ≡ (not (nat_eq k m) && list_all (is_free_of m) ts)
  free-nominal k ts =
      ap (is_free_of m) (sym (rolls-Nominal k ts)) ∙ fold-roll-Ty Bool (free_step m) (Nominal k ts) ∙ ap (λ b. not (nat_eq k m) && b) (all_of (is_free_of m) ts)

  -- placed
  pub placed-any : is_placed m W.Any ≡ true
  placed-any = ap (is_placed m) (sym rolls-Any) ∙ para-roll-Ty Bool (placed_step m) Any

  pub placed-var : (v : ℕ) → is_placed m (W.Var v) ≡ true
  placed-var v = ap (is_placed m) (sym (rolls-Var v)) ∙ para-roll-Ty Bool (placed_step m) (Var v)

  pub placed-union : (ts : List Ty) → is_placed m (V.Union ts) ≡ list_all (is_free_of m) ts
  placed-union ts = ap (is_placed m) (sym (rolls-Union ts)) ∙ para-roll-Ty Bool (placed_step m) (Union ts) ∙ all_firsts (is_placed m) (is_free_of m) ts

  pub placed-tuple : (ts : List Ty) → is_placed m (V.Tuple ts) ≡ list_all (is_free_of m) ts
  placed-tuple ts = ap (is_placed m) (sym (rolls-Tuple ts)) ∙ para-roll-Ty Bool (placed_step m) (Tuple ts) ∙ all_firsts (is_placed m) (is_free_of m) ts

  pub placed-nominal : (k : ℕ) (ts : List Ty) → is_placed m (V.Nominal k ts) ≡ list_all (is_placed m) ts
  placed-nominal k ts = ap (is_placed m) (sym (rolls-Nominal k ts)) ∙ para-roll-Ty Bool (placed_step m) (Nominal k ts) ∙ all_seconds (is_placed m) ts

  -- placed in a field
  pub field-any : is_placed_field m W.Any ≡ true
  field-any = ap (is_placed_field m) (sym rolls-Any) ∙ para-roll-Ty Bool (arguments_step m) Any

  pub field-var : (v : ℕ) → is_placed_field m (W.Var v) ≡ true
  field-var v = ap (is_placed_field m) (sym (rolls-Var v)) ∙ para-roll-Ty Bool (arguments_step m) (Var v)

  pub field-union : (ts : List Ty) → is_placed_field m (V.Union ts) ≡ list_all (is_placed_field m) ts
  field-union ts = ap (is_placed_field m) (sym (rolls-Union ts)) ∙ para-roll-Ty Bool (arguments_step m) (Union ts) ∙ all_seconds (is_placed_field m) ts

  pub field-tuple : (ts : List Ty) → is_placed_field m (V.Tuple ts) ≡ list_all (is_placed_field m) ts
  field-tuple ts = ap (is_placed_field m) (sym (rolls-Tuple ts)) ∙ para-roll-Ty Bool (arguments_step m) (Tuple ts) ∙ all_seconds (is_placed_field m) ts

  pub field-nominal : (k : ℕ) (ts : List Ty) → is_placed_field m (V.Nominal k ts) ≡ list_all (is_placed m) ts
  field-nominal k ts =
      ap (is_placed_field m) (sym (rolls-Nominal k ts)) ∙ para-roll-Ty Bool (arguments_step m) (Nominal k ts) ∙ all_firsts (is_placed_field m) (is_placed m) ts

pub ruleset frees = (all-suc, free-any, free-var, free-union, free-tuple, free-nominal)

pub ruleset placings = (all-suc, placed-any, placed-var, placed-union, placed-tuple, placed-nominal)

pub ruleset fillings = (all-suc, field-any, field-var, field-union, field-tuple, field-nominal)
