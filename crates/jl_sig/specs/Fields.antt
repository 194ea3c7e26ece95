-- The signature of the fields of a declared type.
use Rattle.std.specs.Prelude.{ℕ, List, slice_get}
use Rattle.jl_model.specs.declared.ty.Decl.{Decl}
use Rattle.jl_model.specs.declared.ty.Written.{Written}
use Rattle.jl_model.specs.SigRefusals as refusal
use Rattle.jl_program.specs.BodyTypes.{fields_signature}
use Rattle.jl_sig.specs.declared.fault.SigFault.{SigFault}
use Rattle.jl_sig.specs.declared.fault.SigFault.TheVariants.{TypeLimit, Memory}

-- the signature of the fields of the type of this number
abbrev pub fields_of : List Decl → ℕ → Written
fields_of ds k = fields_signature (slice_get ds k)

-- it is refused where it is too large, and nothing else refuses it; of want of memory nothing is said
abbrev pub FieldsRefused : SigFault → List Decl → Written → Type 0
FieldsRefused TypeLimit ds s = refusal.TypeLimit ds s
FieldsRefused Memory ds s = Unit {0}
FieldsRefused _ ds s = ⊥
