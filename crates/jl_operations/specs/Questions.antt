-- What `isa` and `<:` answer for types with their static parameters put in.
use Rattle.std.specs.Prelude.{◌⊎◌, List, [], ◌∷◌, ◌++◌}
use Rattle.jl_model.specs.declared.ty.Decl.{Decl}
use Rattle.jl_model.specs.declared.ty.Written.{Written}
use Rattle.jl_model.specs.Ancestors.{table_of}
use Rattle.jl_model.specs.Signature.{Applicable, SigBelow}
use Rattle.jl_model.specs.SigRefusals.{TypeLimit}
use Rattle.jl_program.specs.declared.fault.Fault.TheVariants as F
use Rattle.jl_program.specs.declared.value.Value.{Value}
use Rattle.jl_program.specs.TypeOf.{type_of}
use Rattle.jl_calculus.specs.Answers.{Answer, fault_where, refuse, tell}
use Rattle.jl_calculus.specs.Operations.{with_type}
use Rattle.jl_calculus.specs.Statics.{nominals_of, is_bad_parameter}

-- the truth value of `v isa s`
abbrev pub isa_rest : List Decl → Value → Written → Answer
isa_rest ds v s = tell (Applicable (table_of ds) s (type_of v ∷ []))

-- `v isa s`, which is `test_type` where s is the type with its static parameters put in
abbrev pub isa_of : List Decl → Value → Written → Answer
isa_of ds v s = with_type ds s (isa_rest ds v s)

-- `s <: t`, which is `test_order` where s and t are the types with their static parameters put in
abbrev pub order_of : List Decl → Written → Written → Answer
order_of ds s t =
    refuse (fault_where F.TypeLimit (TypeLimit ds s ⊎ TypeLimit ds t))
    (refuse (is_bad_parameter ds (nominals_of s ++ nominals_of t))
    (tell (SigBelow (table_of ds) s t)))
