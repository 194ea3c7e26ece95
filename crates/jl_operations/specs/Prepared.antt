-- What may be kept of a type before a run.
use Rattle.std.specs.Prelude.{◌≤◌, IsTrue, List, length}
use Rattle.jl_model.specs.declared.ty.Ty.{Ty}
use Rattle.jl_model.specs.declared.ty.Decl.{Decl}
use Rattle.jl_model.specs.declared.limits.TheConstants.{MOST_TYPE_NODES}
use Rattle.jl_model.specs.Ancestors.{table_of}
use Rattle.jl_model.specs.Counts.{nodes, IsWithinLimits}
use Rattle.jl_model.specs.Normal.{IsNormalForm}
use Rattle.jl_model.specs.Valid.{is_known, is_counted, is_closed}

-- a normal form of a type, with all that `norm` of jl_norm tells of it
pub record IsFormOf (ds : List Decl) (t u : Ty) : Type 0 where
  pub within : IsWithinLimits t
  pub form : IsNormalForm (table_of ds) t u
  pub small : nodes u ≤ MOST_TYPE_NODES
  pub fits : IsWithinLimits u
  pub known : IsTrue (is_known (length ds) u)
  pub closed : IsTrue (is_closed t) → IsTrue (is_closed u)
  pub counted : (es : List Decl) → IsTrue (is_counted es t) → IsTrue (is_counted es u)
