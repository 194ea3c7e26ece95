-- Written types of bodies with the static parameters put in.
use Rattle.std.specs.Prelude.{IsTrue, List, length}
use Rattle.std.specs.List.{list_all}
use Rattle.jl_model.specs.declared.ty.Decl.{Decl}
use Rattle.jl_model.specs.declared.ty.Written.{Written}
use Rattle.jl_model.specs.SigRefusals.{types_in, TypeLimit, BoundsCrossed, BoundBroken}
use Rattle.jl_model.specs.Valid.{is_known}
use Rattle.jl_sig.specs.Prepared.{HasOwnVariables}
use Rattle.jl_match.specs.SigRefused.{IsWellWritten, IsMade}
use Rattle.jl_operations.specs.declared.written.Kept.{Kept}
use Rattle.jl_operations.specs.declared.written.Kept.TheVariants as K

-- a signature that nothing refuses but that it is too large or breaks a declared bound
pub record IsBodySig (ds : List Decl) (s : Written) : Type 0 where
  pub own : HasOwnVariables s
  pub known : IsTrue (list_all (is_known (length ds)) (types_in s))
  pub written : IsWellWritten ds s
  pub ordered : BoundsCrossed ds s → ⊥

-- what becomes of it
abbrev pub IsKeptAs : List Decl → Written → Kept → Type 0
IsKeptAs ds s (K.Sig g) = IsMade ds s g
IsKeptAs ds s K.TooLarge = TypeLimit ds s
IsKeptAs ds s K.Broken = (TypeLimit ds s → ⊥) × BoundBroken ds s
