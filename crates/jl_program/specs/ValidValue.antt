-- Valid values: what a tuple or a struct keeps as its type is its concrete normal type, and each part of a struct is of its
-- field's type (Julia manual, Types: Composite Types, Tuple Types).
use Rattle.std.specs.Prelude.{ℕ, ℤ, ◌≡◌, ◌≤◌, Bool, false, nat_le, IsTrue, List, [], ◌∷◌, map, Option, None, Some, slice_get}
use Rattle.jl_model.specs.declared.limits.TheConstants.{MOST_TYPE_NODES}
use Rattle.jl_model.specs.declared.builtin.TheConstants.{INT64, BOOL, NOTHING, TASK, BUILTIN_TYPES}
use Rattle.jl_model.specs.declared.ty.Ty.{Ty, out-Ty}
use Rattle.jl_model.specs.declared.ty.Ty.TheOpen.{Ty-F, Nominal}
use Rattle.jl_model.specs.declared.ty.Ty.TheViews as V
use Rattle.jl_model.specs.declared.ty.Decl.{Decl}
use Rattle.jl_model.specs.declared.ty.Field.{Field}
use Rattle.jl_model.specs.Ancestors.{named, table_of}
use Rattle.jl_model.specs.Counts as types
use Rattle.jl_model.specs.Kept.{field_types}
use Rattle.jl_model.specs.Normal.{IsNormal}
use Rattle.jl_model.specs.Signature.{Both}
use Rattle.jl_model.specs.Subtype.{opaque, put, at, Below, is_concrete}
use Rattle.jl_model.specs.Valid.{IsValidType, is_closed}
use Rattle.jl_program.specs.declared.datum.Datum.{Datum, out-Datum}
use Rattle.jl_program.specs.declared.datum.Datum.TheOpen.{Datum-F, Int, Bool as Truth, Nothing, Task, Tuple, Struct}
use Rattle.jl_program.specs.Measures.{IsWithinLimits}

abbrev pub kept_step : Datum-F Datum → Ty
kept_step (Int _) = named INT64
kept_step (Truth _) = named BOOL
kept_step Nothing = named NOTHING
kept_step (Task _) = named TASK
kept_step (Tuple t _) = t
kept_step (Struct t _) = t

-- the concrete type of a value, as contracts see it
abbrev pub kept_type : Datum → Ty
kept_type d = kept_step (out-Datum d)

-- the type of a tuple: the tuple of the types of its parts
abbrev pub tuple_type : List Datum → Ty
tuple_type parts = V.Tuple (map kept_type parts)

-- what a value may keep as its type: a concrete normal form without variables, valid in the table and within the limits
pub record IsValueType (ds : List Decl) (t : Ty) : Type 0 where
  pub normal : IsNormal (table_of ds) t
  pub valid : IsValidType ds t
  pub closed : IsTrue (is_closed t)
  pub concrete : IsTrue (is_concrete (table_of ds) opaque t)
  pub small : types.IsWithinLimits t

abbrev pub is_declared_step : Ty-F Ty → Bool
is_declared_step (Nominal k _) = nat_le BUILTIN_TYPES k
is_declared_step _ = false

-- a struct type that may be made: a declared one, past the eight built-in types, with all its arguments
pub record IsStructType (ds : List Decl) (t : Ty) : Type 0 where
  pub value_type : IsValueType ds t
  pub declared : IsTrue (is_declared_step (out-Ty t))

abbrev pub fields_of : Option Decl → List Field
fields_of None = []
fields_of (Some d) = d.fields

abbrev pub fields_step : List Decl → Ty-F Ty → List Ty
fields_step ds (Nominal k xs) = map (put (at xs)) (field_types (fields_of (slice_get ds k)))
fields_step ds _ = []

-- the types of the fields of a struct type, with its arguments put in
abbrev pub fields_in : List Decl → Ty → List Ty
fields_in ds t = fields_step ds (out-Ty t)

-- each part is of its field's type, and there are as many parts as fields
abbrev pub AreOf : List Decl → List Datum → List Ty → Type 0
AreOf ds parts fields = Both (Below (table_of ds) opaque) (map kept_type parts) fields

module _ (ds : List Decl) where
  mutual
    pub data IsValid : Datum → Type 0 where
      int : (d : Datum) (n : ℤ) → out-Datum d ≡ Int n → IsValid d
      truth : (d : Datum) (b : Bool) → out-Datum d ≡ Truth b → IsValid d
      nothing : (d : Datum) → out-Datum d ≡ Nothing → IsValid d
      task : (d : Datum) (n : ℕ) → out-Datum d ≡ Task n → IsValid d
      tuple : (d : Datum) (t : Ty) (parts : List Datum) → out-Datum d ≡ Tuple t parts → AllValid parts → t ≡ tuple_type parts → types.nodes t ≤ MOST_TYPE_NODES → IsWithinLimits d → IsValid d
      made : (d : Datum) (t : Ty) (parts : List Datum) → out-Datum d ≡ Struct t parts → AllValid parts → IsStructType ds t → AreOf ds parts (fields_in ds t) → IsWithinLimits d → IsValid d

    pub data AllValid : List Datum → Type 0 where
      none : AllValid []
      more : (d : Datum) (parts : List Datum) → IsValid d → AllValid parts → AllValid (d ∷ parts)
