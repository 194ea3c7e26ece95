-- What a memo keeps of written types.
use Rattle.std.specs.Prelude.{◌≡◌, ◌⊎◌, ℕ, List, Option, None, Some, get_or, slice_get}
use Rattle.jl_model.specs.declared.ty.Ty.{Ty}
use Rattle.jl_model.specs.declared.ty.Ty.TheVariants as W
use Rattle.jl_model.specs.declared.ty.Decl.{Decl}
use Rattle.jl_model.specs.declared.ty.Written.{Written}
use Rattle.jl_model.specs.SigRefusals.{IsAllowedSig}
use Rattle.jl_program.specs.ValidValue.{IsStructType}
use Rattle.jl_sig.specs.Prepared.{HasOwnVariables}
use Rattle.jl_operations.specs.declared.prepared.Prepared.{Prepared}
use Rattle.jl_operations.specs.Bodies.{IsBodySig, IsKeptAs}
use Rattle.jl_operations.specs.Prepared.{IsFormOf}

-- the normal form of the struct type that a written type is, which nothing refuses
pub record IsFormed (ds : List Decl) (s : Written) (u : Ty) : Type 0 where
  pub own : HasOwnVariables s
  pub allowed : IsAllowedSig ds s
  pub form : IsFormOf ds (get_or s.parts 0 W.Any) u
  pub struct : IsStructType ds u

abbrev pub IsFormedIf : List Decl → Written → Option Ty → Type 0
IsFormedIf ds s None = Unit {0}
IsFormedIf ds s (Some u) = IsFormed ds s u

-- what is prepared of a written type with the static parameters put in is right for these declarations
pub record IsRight (ds : List Decl) (x : Prepared) : Type 0 where
  pub body : IsBodySig ds x.written
  pub kept : IsKeptAs ds x.written x.kept
  pub form : IsFormedIf ds x.written x.form

-- all that is prepared is so
abbrev pub AreRight : List Decl → List (Option Prepared) → Type 0
AreRight ds xs = (i : ℕ) (x : Prepared) → slice_get xs i ≡ Some (Some x) → IsRight ds x

-- nothing is prepared
abbrev pub NonePrepared : List (Option Prepared) → Type 0
NonePrepared xs = (i : ℕ) (x : Prepared) → slice_get xs i ≡ Some (Some x) → ⊥

-- this is prepared somewhere, of this written type
pub record IsAmong (xs : List (Option Prepared)) (s : Written) (x : Prepared) : Type 0 where
  pub place : ℕ
  pub at : slice_get xs place ≡ Some (Some x)
  pub of_type : x.written ≡ s

-- what is prepared of this written type, which is right
pub record IsOf (ds : List Decl) (s : Written) (x : Prepared) : Type 0 where
  pub right : IsRight ds x
  pub of_type : x.written ≡ s

-- what is prepared then was prepared before, or is this
abbrev pub IsPut : Prepared → List (Option Prepared) → List (Option Prepared) → Type 0
IsPut x old new = (i : ℕ) (y : Prepared) → slice_get new i ≡ Some (Some y) → (slice_get old i ≡ Some (Some y)) ⊎ (y ≡ x)
