-- Written types in a body, and the structs whose constructors it calls. A variable of such a type whose number is the count
-- of its own variables plus i is static parameter i of the body's signature (Julia manual, Methods: Parametric Methods).
use Rattle.std.specs.Prelude.{ℕ, ◌-◌, ◌⊎◌, Bool, false, ◌&&◌, ◌||◌, cond, nat_eq, nat_le, nat_lt, List, [], map, length, get_or, Option, Some, None, slice_get}
use Rattle.std.specs.List.{flat_map, list_all}
use Rattle.jl_model.specs.declared.ty.Ty.{Ty}
use Rattle.jl_model.specs.declared.ty.Ty.TheOpen.{Ty-F, Nominal}
use Rattle.jl_model.specs.declared.ty.Ty.TheViews.{out-Ty}
use Rattle.jl_model.specs.declared.ty.Ty.TheVariants as W
use Rattle.jl_model.specs.declared.ty.Bound.{Bound}
use Rattle.jl_model.specs.declared.ty.Decl.{Decl}
use Rattle.jl_model.specs.declared.ty.Written.{Written}
use Rattle.jl_model.specs.AllRows.{each_var}
use Rattle.jl_model.specs.Ancestors.{is_struct_kind, builtin_types, table_of}
use Rattle.jl_model.specs.Kept.{field_types}
use Rattle.jl_model.specs.Rows.{vars_in}
use Rattle.jl_model.specs.SigRefusals.{types_in, VariablePlace, UnusedVariable, TooManyParameters, WrongParameterCount, TypeLimit, ManyNodes, ManyAlternatives, LargeForm, ManyRows, BoundsCrossed, BoundBroken}
use Rattle.jl_model.specs.Subtype.{put}
use Rattle.jl_model.specs.Usable.{is_usable}
use Rattle.jl_model.specs.Valid.{is_known}

-- a variable of a type with so many variables of its own is one of these, or a usable static parameter
abbrev pub may_stand : ℕ → List Bool → ℕ → Bool
may_stand own statics v = nat_lt v own || get_or statics (v - own) false

-- a written type has one part, names types of the program, and has no variables but its own and usable static parameters
abbrev pub is_seen : List Decl → List Bool → Written → Bool
is_seen ds statics t =
    nat_eq (length t.parts) 1 && (list_all (is_known (length ds)) (types_in t) && list_all (may_stand (length t.vars) statics) (flat_map vars_in (types_in t)))

-- a declared struct, or one of its types
abbrev pub is_struct : List Decl → ℕ → Bool
is_struct ds name = nat_le (length builtin_types) name && is_struct_kind (slice_get ds name)

abbrev pub is_struct_type : List Decl → Ty-F Ty → Bool
is_struct_type ds (Nominal name _) = is_struct ds name
is_struct_type ds _ = false

-- the type of an explicit constructor is a struct type without variables of its own
abbrev pub is_made : List Decl → Written → Bool
is_made ds t = nat_eq (length t.vars) 0 && list_all (λ p. is_struct_type ds (out-Ty p)) t.parts

-- the types of a declaration's fields as a signature is written: its parameters with their bounds are the variables
abbrev pub fields_written : Decl → Written
fields_written d = record { vars = d.params; parts = field_types d.fields }

-- the signature of the fields of a struct
abbrev pub fields_signature : Option Decl → Written
fields_signature None = record { vars = []; parts = [] }
fields_signature (Some d) = fields_written d

-- it has variables, and may use all of them
abbrev pub finds_variables : Written → Bool
finds_variables s = nat_le 1 (length s.vars) && list_all (λ b. b) (each_var (is_usable s) 0 s.vars)

-- the struct of an inferred constructor
abbrev pub is_inferable : List Decl → ℕ → Bool
is_inferable ds name = is_struct ds name && finds_variables (fields_signature (slice_get ds name))

-- The type with `Any` for each static parameter outside the bounds: a static parameter stands for any type, so it is no
-- variable there, and counts as one node and one alternative. In a bound it counts as a variable declared before the type's own.
abbrev pub own_or_any : ℕ → ℕ → Ty
own_or_any own v = cond (nat_lt v own) (W.Var v) W.Any

abbrev pub without_statics : Written → Written
without_statics t = record { vars = t.vars; parts = map (put (own_or_any (length t.vars))) t.parts }

abbrev pub any_in_bound : ℕ → Bound → Bound
any_in_bound own b = record { low = put (own_or_any own) b.low; high = put (own_or_any own) b.high }

-- the type with `Any` for each static parameter, in the bounds too: of this one the rows are counted
abbrev pub without_any_statics : Written → Written
without_any_statics t = record { vars = map (any_in_bound (length t.vars)) t.vars; parts = map (put (own_or_any (length t.vars))) t.parts }

-- A written type in a body keeps what is asked of a signature. What is said of types without variables is not said of those
-- with a static parameter.
pub record IsAllowedType (ds : List Decl) (t : Written) : Type 0 where
  pub placed : VariablePlace (without_statics t) → ⊥
  pub used : UnusedVariable t → ⊥
  pub few : TooManyParameters t → ⊥
  pub counted : WrongParameterCount ds t → ⊥
  pub small : ManyNodes t ⊎ ManyAlternatives t ⊎ LargeForm (table_of ds) t ⊎ ManyRows (table_of ds) (without_any_statics t) → ⊥
  pub ordered : BoundsCrossed ds t → ⊥
  pub within : BoundBroken ds t → ⊥

-- the signature of the fields of a struct is small enough to be kept
abbrev pub IsSmallStruct : List Decl → ℕ → Type 0
IsSmallStruct ds name = TypeLimit ds (fields_signature (slice_get ds name)) → ⊥
