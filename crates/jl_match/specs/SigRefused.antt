-- What a refused signature says: that this refusal holds, and none of those before it.
use Rattle.std.specs.Prelude.{◌≡◌, List}
use Rattle.jl_model.specs.declared.ty.Decl.{Decl}
use Rattle.jl_model.specs.declared.ty.Written.{Written}
use Rattle.jl_model.specs.SigRefusals.{VariablePlace, UnusedVariable, TooManyParameters, WrongParameterCount, TypeLimit, BoundsCrossed, BoundBroken, IsAllowedSig}
use Rattle.jl_sig.specs.declared.fault.SigFault.{SigFault}
use Rattle.jl_sig.specs.declared.fault.SigFault.TheVariants as fault
use Rattle.jl_sig.specs.declared.sig.Sig.{Sig}
use Rattle.jl_sig.specs.Prepared.{IsSigOf}
use Rattle.jl_sig.specs.SigParts.{written_of}

-- nothing refuses it by how it is written
pub record IsWellWritten (ds : List Decl) (s : Written) : Type 0 where
  pub placed : VariablePlace s → ⊥
  pub used : UnusedVariable s → ⊥
  pub few : TooManyParameters s → ⊥
  pub counted : WrongParameterCount ds s → ⊥

-- this refusal holds, and no earlier one; out of memory comes only after the test of the places, which takes none
abbrev pub SigRefused : SigFault → List Decl → Written → Type 0
SigRefused fault.VariablePlace ds s = VariablePlace s
SigRefused fault.UnusedVariable ds s = (VariablePlace s → ⊥) × UnusedVariable s
SigRefused fault.TooManyParameters ds s = (VariablePlace s → ⊥) × (UnusedVariable s → ⊥) × TooManyParameters s
SigRefused fault.WrongParameterCount ds s = (VariablePlace s → ⊥) × (UnusedVariable s → ⊥) × (TooManyParameters s → ⊥) × WrongParameterCount ds s
SigRefused fault.TypeLimit ds s = IsWellWritten ds s × TypeLimit ds s
SigRefused fault.BoundsCrossed ds s = IsWellWritten ds s × (TypeLimit ds s → ⊥) × BoundsCrossed ds s
SigRefused fault.BoundBroken ds s = IsWellWritten ds s × (TypeLimit ds s → ⊥) × (BoundsCrossed ds s → ⊥) × BoundBroken ds s
SigRefused fault.Memory ds s = VariablePlace s → ⊥

-- nothing refuses it, and it is kept as it is written
pub record IsMade (ds : List Decl) (s : Written) (g : Sig) : Type 0 where
  pub allowed : IsAllowedSig ds s
  pub written : written_of g ≡ s
  pub kept : IsSigOf ds g
