-- Three signatures that stand one below the other, of which the first is not below the last.
use Rattle.std.specs.Prelude.{[], ◌∷◌}
use Rattle.jl_model.specs.declared.builtin.TheConstants.{INT64}
use Rattle.jl_model.specs.declared.ty.Ty.{Ty}
use Rattle.jl_model.specs.declared.ty.Ty.TheViews as V
use Rattle.jl_model.specs.declared.ty.Ty.TheVariants as W
use Rattle.jl_model.specs.declared.ty.Bound.{Bound}
use Rattle.jl_model.specs.declared.ty.Written.{Written}
use Rattle.jl_model.specs.Subtype.{Table}
use Rattle.jl_model.specs.Ancestors.{named, table_of, builtin_types}

-- the built-in types, and `Int64` among them
abbrev pub builtins : Table
builtins = table_of builtin_types

abbrev pub int : Ty
int = named INT64

abbrev pub below_int : Bound
below_int = record { low = V.Union []; high = int }

-- `(::T, ::T, ::Int64) where T <: Int64`
abbrev pub first_of_chain : Written
first_of_chain = record { vars = below_int ∷ []; parts = W.Var 0 ∷ W.Var 0 ∷ int ∷ [] }

-- `(::Int64, ::Int64, ::Int64)`
abbrev pub middle_of_chain : Written
middle_of_chain = record { vars = []; parts = int ∷ int ∷ int ∷ [] }

-- `(::S, ::S, ::S) where S <: Int64`
abbrev pub last_of_chain : Written
last_of_chain = record { vars = below_int ∷ []; parts = W.Var 0 ∷ W.Var 0 ∷ W.Var 0 ∷ [] }
