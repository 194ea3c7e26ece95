-- What is answered of a signature, and of a type in a body: nothing where it is allowed, and else its first refusal.
use Rattle.std.specs.Prelude.{List, Option, None, Some}
use Rattle.jl_model.specs.declared.ty.Decl.{Decl}
use Rattle.jl_model.specs.declared.ty.Written.{Written}
use Rattle.jl_model.specs.SigRefusals.{IsAllowedSig}
use Rattle.jl_program.specs.BodyTypes.{IsAllowedType}
use Rattle.jl_sig.specs.declared.fault.SigFault.TheVariants as fault
use Rattle.jl_match.specs.SigRefused.{SigRefused}
use Rattle.jl_body.specs.TypeRefused.{TypeRefused}
use Rattle.jl_written.specs.declared.fault.StaticKind.{StaticKind}
use Rattle.jl_written.specs.declared.fault.StaticKind.TheVariants as kind

-- of a signature: a refusal that is named holds, and none before it
abbrev pub SigAnswer : Option StaticKind → List Decl → Written → Type 0
SigAnswer None ds s = IsAllowedSig ds s
SigAnswer (Some kind.VariablePlace) ds s = SigRefused fault.VariablePlace ds s
SigAnswer (Some kind.UnusedVariable) ds s = SigRefused fault.UnusedVariable ds s
SigAnswer (Some kind.TooManyParameters) ds s = SigRefused fault.TooManyParameters ds s
SigAnswer (Some kind.WrongParameterCount) ds s = SigRefused fault.WrongParameterCount ds s
SigAnswer (Some kind.TypeLimit) ds s = SigRefused fault.TypeLimit ds s
SigAnswer (Some kind.BoundsCrossed) ds s = SigRefused fault.BoundsCrossed ds s
SigAnswer (Some kind.BoundBroken) ds s = SigRefused fault.BoundBroken ds s
SigAnswer (Some _) ds s = ⊥

-- of a type in a body, likewise
abbrev pub BodyAnswer : Option StaticKind → List Decl → Written → Type 0
BodyAnswer None ds s = IsAllowedType ds s
BodyAnswer (Some kind.VariablePlace) ds s = TypeRefused fault.VariablePlace ds s
BodyAnswer (Some kind.UnusedVariable) ds s = TypeRefused fault.UnusedVariable ds s
BodyAnswer (Some kind.TooManyParameters) ds s = TypeRefused fault.TooManyParameters ds s
BodyAnswer (Some kind.WrongParameterCount) ds s = TypeRefused fault.WrongParameterCount ds s
BodyAnswer (Some kind.TypeLimit) ds s = TypeRefused fault.TypeLimit ds s
BodyAnswer (Some kind.BoundsCrossed) ds s = TypeRefused fault.BoundsCrossed ds s
BodyAnswer (Some kind.BoundBroken) ds s = TypeRefused fault.BoundBroken ds s
BodyAnswer (Some _) ds s = ⊥
