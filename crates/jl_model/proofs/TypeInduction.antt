-- Induction over types, whose parts stand in lists.
use Rattle.std.proofs.Common.{ℕ, List, [], ◌∷◌, map, subst}
use Rattle.jl_model.specs.declared.ty.Ty.{Ty}
use Rattle.jl_model.specs.declared.ty.Ty.TheOpen.{Ty-F, Any, Union, Tuple, Nominal, Var}
use Rattle.jl_model.specs.declared.ty.Ty.TheViews.{roll-Ty, rolls-Any, rolls-Union, rolls-Tuple, rolls-Nominal, rolls-Var}
use Rattle.jl_model.specs.declared.ty.Ty.TheViews as V
use Rattle.jl_model.specs.declared.ty.Ty.TheVariants as W
use Rattle.jl_model.specs.declared.ty.Ty.TheFolds.{ind-Ty, map-Ty}

-- each member of a list
abbrev pub Each : (Ty → Type 0) → List Ty → Type 0
Each P [] = Unit {0}
Each P (t ∷ ts) = P t × Each P ts

module _ (P : Ty → Type 0) where
  -- the five cases
  pub record Cases : Type 0 where
    pub any : P W.Any
    pub union : (ts : List Ty) → Each P ts → P (V.Union ts)
    pub tuple : (ts : List Ty) → Each P ts → P (V.Tuple ts)
    pub nominal : (n : ℕ) (ts : List Ty) → Each P ts → P (V.Nominal n ts)
    pub var : (n : ℕ) → P (W.Var n)

  each : (es : List ((t : Ty) × P t)) → Each P (map (λ e. e.0) es)
  each [] = tt
  each (e ∷ es) = (e.1, each es)

  layer : Cases → (y : Ty-F ((t : Ty) × P t)) → P (roll-Ty (map-Ty ((t : Ty) × P t) Ty (λ e. e.0) y))
  layer c Any = rw rolls-Any c.any
  layer c (Union es) = rw (rolls-Union (map (λ e. e.0) es)) (c.union (map (λ e. e.0) es) (each es))
  layer c (Tuple es) = rw (rolls-Tuple (map (λ e. e.0) es)) (c.tuple (map (λ e. e.0) es) (each es))
  layer c (Nominal n es) = rw (rolls-Nominal n (map (λ e. e.0) es)) (c.nominal n (map (λ e. e.0) es) (each es))
  layer c (Var n) = rw (rolls-Var n) (c.var n)

  pub by_cases : Cases → (t : Ty) → P t
  by_cases c = ind-Ty P (λ x y is. subst (λ z. P (roll-Ty z)) is (layer c y))
