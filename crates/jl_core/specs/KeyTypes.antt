-- The types of a key.
use Rattle.std.specs.Prelude.{IsTrue, List}
use Rattle.jl_model.specs.declared.ty.Decl.{Decl}
use Rattle.jl_model.specs.declared.ty.Ty.{Ty}
use Rattle.jl_model.specs.Ancestors.{table_of}
use Rattle.jl_model.specs.Counts.{IsWithinLimits}
use Rattle.jl_model.specs.Normal.{IsNormal}
use Rattle.jl_model.specs.Subtype.{opaque, is_concrete}

-- within the limits, concrete and normal
pub record IsFormed (ds : List Decl) (t : Ty) : Type 0 where
  pub small : IsWithinLimits t
  pub concrete : IsTrue (is_concrete (table_of ds) opaque t)
  pub normal : IsNormal (table_of ds) t
