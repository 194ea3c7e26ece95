-- The first nominal type of a list that has an argument without variables outside the declared bounds.
use Rattle.std.specs.Prelude.{◌≡◌, IsTrue, List, length, Option, None, Some}
use Rattle.std.specs.List.{Contains}
use Rattle.jl_model.specs.declared.ty.Ty.{Ty}
use Rattle.jl_model.specs.declared.ty.Decl.{Decl}
use Rattle.jl_model.specs.Ancestors.{table_of}
use Rattle.jl_model.specs.Kept.{Argument, Settled}
use Rattle.jl_model.specs.Valid.{is_known}
use Rattle.jl_program.specs.declared.fault.Fault.{Fault}
use Rattle.jl_program.specs.declared.fault.Fault.TheVariants.{BadParameter}
use Rattle.jl_calculus.specs.Statics.{IsBroken, IsFirstBroken}

-- an argument with what has no variables in normal form; it is of the table
abbrev pub IsSettledAs : List Decl → Ty → Ty → Type 0
IsSettledAs ds t u = Argument (table_of ds) t u × IsTrue (is_known (length ds) u)

-- none of these is broken, or this is the first that is, with its arguments without variables in normal form; it is of the table
abbrev pub IsFirstOf : List Decl → List Ty → Option Ty → Type 0
IsFirstOf ds ts None = (t : Ty) → Contains ts t → IsBroken ds t → ⊥
IsFirstOf ds ts (Some u) = (t : Ty) × IsFirstBroken ds ts t × Settled (table_of ds) t u × IsTrue (is_known (length ds) u)

-- a fault that names only a type of the table
abbrev pub IsNamed : List Decl → Fault → Type 0
IsNamed ds e = (u : Ty) × (e ≡ BadParameter u) × IsTrue (is_known (length ds) u)
