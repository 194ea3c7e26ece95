-- Inferred types.
use Rattle.std.specs.Prelude.{ℕ, ◌≡◌, ◌∷◌, [], IsTrue, List, map, slice_get}
use Rattle.std.specs.List.{flat_map, Contains}
use Rattle.jl_model.specs.declared.ty.Ty.{Ty}
use Rattle.jl_model.specs.declared.ty.Decl.{Decl}
use Rattle.jl_model.specs.Ancestors.{table_of}
use Rattle.jl_model.specs.Refusals.{Given, given_in}
use Rattle.jl_model.specs.Signature.{Applicable}
use Rattle.jl_model.specs.Valid.{is_closed}
use Rattle.jl_types.specs.Ground.{IsGround}
use Rattle.jl_program.specs.declared.tree.Program.{Program}
use Rattle.jl_program.specs.declared.value.Value.{Value}
use Rattle.jl_program.specs.BodyTypes.{fields_signature}
use Rattle.jl_program.specs.Scope.{all_types}
use Rattle.jl_program.specs.TypeOf.{type_of}
use Rattle.jl_sig.specs.Prepared.{IsWellPlaced}
use Rattle.jl_calculus.specs.Operations.{inferred}
use Rattle.jl_operations.specs.Conditions.{IsInferredIn}

-- each argument in a type is a normal form without variables
abbrev pub AreInside : List Decl → Ty → Type 0
AreInside ds t = (a : Given) → Contains (flat_map given_in (t ∷ [])) a → IsGround ds a.ty × IsTrue (is_closed a.ty)

-- the type that is inferred for these values, where the types of the fields admit them
pub record IsFoundType (P : Program) (name : ℕ) (vs : List Value) (t : Ty) : Type 0 where
  pub struct : IsInferredIn P name
  pub placed : IsWellPlaced (all_types P) (fields_signature (slice_get (all_types P) name))
  pub is : t ≡ inferred (all_types P) name vs
  pub applicable : Applicable (table_of (all_types P)) (fields_signature (slice_get (all_types P) name)) (map type_of vs)
