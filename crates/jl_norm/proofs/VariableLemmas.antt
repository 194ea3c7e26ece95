-- The equations of the test on variables, one for each form.
use Rattle.std.proofs.Common.{◌≡◌, ◌∙◌, ap, refl, ℕ, Bool, true, false, ◌&&◌, nat_lt, List}
use Rattle.std.specs.List.{list_all}
use Rattle.jl_model.specs.declared.ty.Ty.{Ty}
use Rattle.jl_model.specs.declared.ty.Ty.TheViews as V
use Rattle.jl_model.specs.declared.ty.Ty.TheVariants as W
use Rattle.jl_model.proofs.FormLemmas.{vars-any, vars-var, vars-union, vars-tuple, vars-nominal}
use Rattle.jl_norm.specs.Variables.{has_variables_below}
use Rattle.jl_norm.proofs.ListLemmas.{all-suc}
use Rattle.jl_norm.proofs.ReadyLemmas.{all_vars}

abbrev below : ℕ → List ℕ → Bool
below n = list_all (λ v. nat_lt v n)

pub below-any : (n : ℕ) → has_variables_below n W.Any ≡ true
below-any n = ap (below n) vars-any

pub below-var : (n v : ℕ) → has_variables_below n (W.Var v) ≡ nat_lt v n
below-var n v = ap (below n) (vars-var v) ∙ go (nat_lt v n)
  where
    go : (b : Bool) → (b && true) ≡ b
    go true = refl
    go false = refl

pub below-union : (n : ℕ) (ts : List Ty) → has_variables_below n (V.Union ts) ≡ list_all (has_variables_below n) ts
below-union n ts = ap (below n) (vars-union ts) ∙ all_vars n ts

pub below-tuple : (n : ℕ) (ts : List Ty) → has_variables_below n (V.Tuple ts) ≡ list_all (has_variables_below n) ts
below-tuple n ts = ap (below n) (vars-tuple ts) ∙ all_vars n ts

pub below-nominal : (n k : ℕ) (ts : List Ty) → has_variables_below n (V.Nominal k ts) ≡ list_all (has_variables_below n) ts
below-nominal n k ts = ap (below n) (vars-nominal k ts) ∙ all_vars n ts

pub ruleset belows = (all-suc, below-any, below-var, below-union, below-tuple, below-nominal)
