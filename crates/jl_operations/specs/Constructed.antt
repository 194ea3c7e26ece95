-- Types of explicit constructors with their static parameters put in, and what these answer.
use Rattle.std.specs.Prelude.{◌≡◌, IsTrue, List, [], ◌∷◌, length, get_or}
use Rattle.jl_model.specs.declared.ty.Ty.{Ty, out-Ty}
use Rattle.jl_model.specs.declared.ty.Ty.TheVariants as W
use Rattle.jl_model.specs.declared.ty.Decl.{Decl}
use Rattle.jl_model.specs.declared.ty.Written.{Written}
use Rattle.jl_model.specs.Ancestors.{table_of}
use Rattle.jl_model.specs.Normal.{IsNormalForm}
use Rattle.jl_model.specs.Valid.{is_known, is_counted, is_closed}
use Rattle.jl_program.specs.declared.fault.Fault.TheVariants as F
use Rattle.jl_program.specs.declared.value.Value.{Value}
use Rattle.jl_program.specs.BodyTypes.{is_struct_type}
use Rattle.jl_calculus.specs.Answers.{Answer, fault_where, refuse}
use Rattle.jl_calculus.specs.Operations.{with_type, make_struct}
use Rattle.jl_calculus.specs.Statics.{NormLimit}

-- a struct type without variables, which need not be a normal form
pub record IsConstructed (ds : List Decl) (t : Ty) : Type 0 where
  pub known : IsTrue (is_known (length ds) t)
  pub counted : IsTrue (is_counted ds t)
  pub closed : IsTrue (is_closed t)
  pub struct : IsTrue (is_struct_type ds (out-Ty t))

-- one such type
abbrev pub IsOneConstructed : List Decl → List Ty → Type 0
IsOneConstructed ds ts = (t : Ty) × (ts ≡ t ∷ []) × IsConstructed ds t

-- a struct of the normal form of a type
abbrev pub form_of : List Decl → Ty → List Value → Answer
form_of ds t vs = refuse (fault_where F.TypeLimit (NormLimit (table_of ds) t)) (λ o. (m : Ty) × IsNormalForm (table_of ds) t m × make_struct ds m vs o)

-- the same of a written type, which is `make_written` where s is the type with its static parameters put in
abbrev pub made_of : List Decl → Written → List Value → Answer
made_of ds s vs = with_type ds s (form_of ds (get_or s.parts 0 W.Any) vs)
