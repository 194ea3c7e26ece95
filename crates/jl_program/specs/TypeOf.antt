-- The types of values.
use Rattle.jl_model.specs.declared.builtin.TheConstants.{INT64, BOOL, NOTHING, TASK}
use Rattle.jl_model.specs.declared.ty.Ty.{Ty}
use Rattle.jl_model.specs.Ancestors.{named}
use Rattle.jl_program.specs.declared.value.Value.{Value}
use Rattle.jl_program.specs.declared.value.Value.TheVariants as V

-- the concrete type of a value
abbrev pub type_of : Value → Ty
type_of (V.Int n) = named INT64
type_of (V.Bool b) = named BOOL
type_of V.Nothing = named NOTHING
type_of (V.Task n) = named TASK
type_of (V.Tuple c) = c.ty
type_of (V.Struct c) = c.ty
