-- What a refused declaration says: that this refusal holds, and none of those before it.
use Rattle.std.specs.Prelude.{◌≡◌, Bool, true, false, List}
use Rattle.jl_model.specs.declared.ty.Decl.{Decl}
use Rattle.jl_model.specs.Refusals.{DuplicateType, UnknownType, WrongParameterCount, SuperNotAbstract, VariablePlace, TypeLimit, BoundsCrossed, BoundBroken, TooMany, DuplicateField, AllWithinLimits, types_of, sized_types, table_with}
use Rattle.jl_model.specs.Kept.{IsKept}
use Rattle.jl_norm.specs.declared.fault.DeclareFault.{DeclareFault}
use Rattle.jl_norm.specs.declared.fault.DeclareFault.TheVariants as fault

-- its name and the places, parents and numbers of arguments in it are as they must be
pub record IsWellWritten (ds : List Decl) (d : Decl) : Type 0 where
  pub fresh : DuplicateType ds d → ⊥
  pub known : UnknownType ds d → ⊥
  pub counted : WrongParameterCount ds d → ⊥
  pub abstract : SuperNotAbstract ds d → ⊥
  pub placed : VariablePlace ds d → ⊥

-- a type in it is too large as written
abbrev pub IsTooLargeAsWritten : Decl → Type 0
IsTooLargeAsWritten d = AllWithinLimits (types_of d) → ⊥

-- none of the refusals that are seen without any memory
pub record IsRightAsWritten (ds : List Decl) (d : Decl) : Type 0 where
  pub written : IsWellWritten ds d
  pub sized : IsTooLargeAsWritten d → ⊥

-- e is what d is kept as, and both are within the limits of a type
pub record IsKeptSized (ds : List Decl) (d e : Decl) : Type 0 where
  pub kept : IsKept (table_with ds d) d e
  pub written_sized : AllWithinLimits (sized_types ds d)
  pub sized : AllWithinLimits (sized_types ds e)

-- e is what d is kept as, and neither is too large
pub record IsKeptWithin (ds : List Decl) (d e : Decl) : Type 0 where
  pub kept : IsKept (table_with ds d) d e
  pub sized : AllWithinLimits (sized_types ds e)
  pub small : TypeLimit ds d → ⊥

-- the same, and b tells whether an argument without variables is outside its bounds
pub record IsKeptTold (ds : List Decl) (d e : Decl) (b : Bool) : Type 0 where
  pub within : IsKeptWithin ds d e
  pub broken : b ≡ true → BoundBroken ds d
  pub whole : b ≡ false → BoundBroken ds d → ⊥

-- d is well written, e is what it is kept as, and its bounds are in order
pub record IsOrdered (ds : List Decl) (d e : Decl) : Type 0 where
  pub written : IsWellWritten ds d
  pub within : IsKeptWithin ds d e
  pub ordered : BoundsCrossed ds d → ⊥

-- and its arguments without variables are within the declared bounds
pub record IsBounded (ds : List Decl) (d e : Decl) : Type 0 where
  pub ordered : IsOrdered ds d e
  pub within : BoundBroken ds d → ⊥

-- this refusal holds, and no earlier one; out of memory comes only after the refusals that are seen without any
abbrev pub Refused : DeclareFault → List Decl → Decl → Type 0
Refused fault.DuplicateType ds d = DuplicateType ds d
Refused fault.UnknownType ds d = (DuplicateType ds d → ⊥) × UnknownType ds d
Refused fault.WrongParameterCount ds d = (DuplicateType ds d → ⊥) × (UnknownType ds d → ⊥) × WrongParameterCount ds d
Refused fault.SuperNotAbstract ds d = (DuplicateType ds d → ⊥) × (UnknownType ds d → ⊥) × (WrongParameterCount ds d → ⊥) × SuperNotAbstract ds d
Refused fault.VariablePlace ds d =
    (DuplicateType ds d → ⊥) × (UnknownType ds d → ⊥) × (WrongParameterCount ds d → ⊥) × (SuperNotAbstract ds d → ⊥) × VariablePlace ds d
Refused fault.TypeLimit ds d = IsWellWritten ds d × TypeLimit ds d
Refused fault.BoundsCrossed ds d = IsWellWritten ds d × (TypeLimit ds d → ⊥) × BoundsCrossed ds d
Refused fault.BoundBroken ds d = IsWellWritten ds d × (TypeLimit ds d → ⊥) × (BoundsCrossed ds d → ⊥) × BoundBroken ds d
Refused fault.TooMany ds d = IsWellWritten ds d × (TypeLimit ds d → ⊥) × (BoundsCrossed ds d → ⊥) × (BoundBroken ds d → ⊥) × TooMany ds d
Refused fault.DuplicateField ds d =
    IsWellWritten ds d × (TypeLimit ds d → ⊥) × (BoundsCrossed ds d → ⊥) × (BoundBroken ds d → ⊥) × (TooMany ds d → ⊥) × DuplicateField d
Refused fault.Memory ds d = IsRightAsWritten ds d
