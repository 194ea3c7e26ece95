-- What a refused type in a body says: that this refusal holds, and none of those before it.
use Rattle.std.specs.Prelude.{◌⊎◌, List}
use Rattle.jl_model.specs.declared.ty.Decl.{Decl}
use Rattle.jl_model.specs.declared.ty.Written.{Written}
use Rattle.jl_model.specs.Ancestors.{table_of}
use Rattle.jl_model.specs.SigRefusals.{VariablePlace, UnusedVariable, TooManyParameters, WrongParameterCount, ManyNodes, ManyAlternatives, LargeForm, ManyRows, BoundsCrossed, BoundBroken}
use Rattle.jl_program.specs.BodyTypes.{without_statics, without_any_statics}
use Rattle.jl_sig.specs.declared.fault.SigFault.{SigFault}
use Rattle.jl_sig.specs.declared.fault.SigFault.TheVariants as fault

-- nothing refuses it by how it is written
pub record IsWellWritten (ds : List Decl) (t : Written) : Type 0 where
  pub placed : VariablePlace (without_statics t) → ⊥
  pub used : UnusedVariable t → ⊥
  pub few : TooManyParameters t → ⊥
  pub counted : WrongParameterCount ds t → ⊥

-- it is too large
abbrev pub BodyTypeLimit : List Decl → Written → Type 0
BodyTypeLimit ds t = ManyNodes t ⊎ ManyAlternatives t ⊎ LargeForm (table_of ds) t ⊎ ManyRows (table_of ds) (without_any_statics t)

-- this refusal holds, and no earlier one; of want of memory nothing is said
abbrev pub TypeRefused : SigFault → List Decl → Written → Type 0
TypeRefused fault.VariablePlace ds t = VariablePlace (without_statics t)
TypeRefused fault.UnusedVariable ds t = (VariablePlace (without_statics t) → ⊥) × UnusedVariable t
TypeRefused fault.TooManyParameters ds t = (VariablePlace (without_statics t) → ⊥) × (UnusedVariable t → ⊥) × TooManyParameters t
TypeRefused fault.WrongParameterCount ds t =
    (VariablePlace (without_statics t) → ⊥) × (UnusedVariable t → ⊥) × (TooManyParameters t → ⊥) × WrongParameterCount ds t
TypeRefused fault.TypeLimit ds t = IsWellWritten ds t × BodyTypeLimit ds t
TypeRefused fault.BoundsCrossed ds t = IsWellWritten ds t × (BodyTypeLimit ds t → ⊥) × BoundsCrossed ds t
TypeRefused fault.BoundBroken ds t = IsWellWritten ds t × (BodyTypeLimit ds t → ⊥) × (BoundsCrossed ds t → ⊥) × BoundBroken ds t
TypeRefused fault.Memory ds t = Unit {0}
