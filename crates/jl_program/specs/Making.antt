-- What refuses a tuple or a struct (Julia manual, Types: Composite Types, Tuple Types).
use Rattle.std.specs.Prelude.{ℕ, ◌<◌, List, length, take, get_or}
use Rattle.jl_model.specs.declared.limits.TheConstants.{MOST_TYPE_NODES}
use Rattle.jl_model.specs.declared.ty.Ty.{Ty}
use Rattle.jl_model.specs.declared.ty.Ty.TheVariants as W
use Rattle.jl_model.specs.declared.ty.Decl.{Decl}
use Rattle.jl_model.specs.Ancestors.{table_of}
use Rattle.jl_model.specs.Counts as types
use Rattle.jl_model.specs.Signature.{Both}
use Rattle.jl_model.specs.Subtype.{opaque, Below}
use Rattle.jl_program.specs.declared.datum.Datum.{Datum}
use Rattle.jl_program.specs.declared.value.Value.{Value}
use Rattle.jl_program.specs.declared.value.Value.TheVariants.{Tuple, Struct}
use Rattle.jl_program.specs.Meaning.{datum}
use Rattle.jl_program.specs.Measures.{IsWithinLimits}
use Rattle.jl_program.specs.ValidValue.{tuple_type}

-- the tuple of these parts
abbrev pub tuple_of : List Datum → Value
tuple_of parts = Tuple (record { ty = tuple_type parts; parts = parts })

-- the struct of this type with these parts
abbrev pub struct_of : Ty → List Datum → Value
struct_of t parts = Struct (record { ty = t; parts = parts })

-- the type of the tuple has too many nodes
abbrev pub IsTooLargeType : List Datum → Type 0
IsTooLargeType parts = MOST_TYPE_NODES < types.nodes (tuple_type parts)

-- the value is too deep, or has too many nodes
abbrev pub IsTooLarge : Value → Type 0
IsTooLarge v = IsWithinLimits (datum v) → ⊥

-- part i is the first that is not of its field's type
pub record IsFirstOther (ds : List Decl) (types fields : List Ty) (i : ℕ) : Type 0 where
  pub inside : i < length fields
  pub before : Both (Below (table_of ds) opaque) (take i types) (take i fields)
  pub other : Below (table_of ds) opaque (get_or types i W.Any) (get_or fields i W.Any) → ⊥
