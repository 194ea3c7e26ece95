-- How large a type is, and how many alternatives it has before any is dropped.
use Rattle.std.specs.Prelude.{ℕ, ◌+◌, ◌*◌, ◌≤◌, max, List, [], ◌∷◌, map}
use Rattle.jl_model.specs.declared.limits.TheConstants.{MOST_TYPE_NODES, MOST_ALTERNATIVES}
use Rattle.jl_model.specs.declared.ty.Ty.{Ty}
use Rattle.jl_model.specs.declared.ty.Ty.TheOpen.{Ty-F, Any, Union, Tuple, Nominal, Var}
use Rattle.jl_model.specs.declared.ty.Ty.TheFolds.{fold-Ty}

abbrev pub total : List ℕ → ℕ
total [] = 0
total (n ∷ ns) = n + total ns

abbrev pub product : List ℕ → ℕ
product [] = 1
product (n ∷ ns) = n * product ns

abbrev pub greatest : List ℕ → ℕ
greatest [] = 0
greatest (n ∷ ns) = max n (greatest ns)

abbrev pub nodes_step : Ty-F ℕ → ℕ
nodes_step Any = 1
nodes_step (Union ns) = 1 + total ns
nodes_step (Tuple ns) = 1 + total ns
nodes_step (Nominal _ ns) = 1 + total ns
nodes_step (Var _) = 1

-- each `Any`, union, tuple, nominal type and variable is a node
abbrev pub nodes : Ty → ℕ
nodes = fold-Ty ℕ nodes_step

-- the raw alternatives of a type, and the most that it or a part of it has
pub record Raw : Type 0 where
  pub count : ℕ
  pub widest : ℕ

abbrev pub raw_of : ℕ → List Raw → Raw
raw_of n rs = record { count = n; widest = max n (greatest (map (λ r. r.widest) rs)) }

-- of a union the sum, of a tuple the product, of anything else one
abbrev pub raw_step : Ty-F Raw → Raw
raw_step Any = raw_of 1 []
raw_step (Union rs) = raw_of (total (map (λ r. r.count) rs)) rs
raw_step (Tuple rs) = raw_of (product (map (λ r. r.count) rs)) rs
raw_step (Nominal _ rs) = raw_of 1 rs
raw_step (Var _) = raw_of 1 []

abbrev pub raw : Ty → Raw
raw = fold-Ty Raw raw_step

-- at most 1,024 nodes, and no part with more than 256 raw alternatives
pub record IsWithinLimits (t : Ty) : Type 0 where
  pub nodes : nodes t ≤ MOST_TYPE_NODES
  pub alternatives : (raw t).widest ≤ MOST_ALTERNATIVES
