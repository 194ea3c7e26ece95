-- That the tests of the resolver tell the relations of types and the refusals of signatures.
use Rattle.std.specs.Prelude.{ℕ, ◌≡◌, ◌<◌, ◌≤◌, false, IsTrue, List, length, None, slice_get}
use Rattle.std.specs.List.{list_all}
use Rattle.jl_model.specs.declared.limits.TheConstants.{MOST_TYPE_NODES}
use Rattle.jl_model.specs.declared.ty.Ty.{Ty}
use Rattle.jl_model.specs.declared.ty.Decl.{Decl}
use Rattle.jl_model.specs.declared.ty.Written.{Written}
use Rattle.jl_model.specs.Ancestors.{table_of}
use Rattle.jl_model.specs.Counts.{nodes, IsWithinLimits}
use Rattle.jl_model.specs.Normal.{IsNormalForm}
use Rattle.jl_model.specs.SigRefusals.{types_in, IsAllowedSig, TypeLimit}
use Rattle.jl_model.specs.Subtype.{opaque, Below}
use Rattle.jl_model.specs.Valid.{is_closed, is_known}
use Rattle.jl_program.specs.BodyTypes.{fields_signature, IsAllowedType}
use Rattle.jl_sig.specs.Prepared.{HasOwnVariables}
use Rattle.jl_resolve_forms.specs.TypesIn.{Tests}
use Rattle.jl_judge.specs.Answers.{SigAnswer, BodyAnswer}
use Rattle.jl_judge.specs.Tell.{Tells}

-- it names only declared types, has no variables, is within the limits, and its normal form has at most 1,024 nodes
pub record CanBeJudged (ds : List Decl) (t : Ty) : Type 0 where
  pub known : IsTrue (is_known (length ds) t)
  pub closed : IsTrue (is_closed t)
  pub within : IsWithinLimits t
  pub small : (u : Ty) × IsNormalForm (table_of ds) t u × (nodes u ≤ MOST_TYPE_NODES)

-- both types can be judged, and the one is below the other
pub record IsJudgedBelow (ds : List Decl) (t u : Ty) : Type 0 where
  pub low : CanBeJudged ds t
  pub high : CanBeJudged ds u
  pub below : Below (table_of ds) opaque t u

-- the types in it are declared
abbrev pub NamesDeclared : List Decl → Written → Type 0
NamesDeclared ds s = IsTrue (list_all (is_known (length ds)) (types_in s))

-- The tests tell what holds over the declarations. Of a signature, and of a type in a body, they tell nothing exactly where it
-- is allowed, and else its first refusal. What names what is not there is not judged.
pub record IsRight (ds : List Decl) (t : Tests) : Type 0 where
  pub below : (low high : Ty) → Tells (t.below low high) (IsJudgedBelow ds low high)
  pub signature : (s : Written) → HasOwnVariables s → NamesDeclared ds s → SigAnswer (t.signature s) ds s
  pub allowed : (s : Written) → HasOwnVariables s → NamesDeclared ds s → IsAllowedSig ds s → t.signature s ≡ None
  pub body : (s : Written) → NamesDeclared ds s → BodyAnswer (t.body s) ds s
  pub usable : (s : Written) → NamesDeclared ds s → IsAllowedType ds s → t.body s ≡ None
  pub wide : (p : ℕ) → p < length ds → Tells (t.wide p) (TypeLimit ds (fields_signature (slice_get ds p)))
  pub foreign : (s : Written) → (HasOwnVariables s × NamesDeclared ds s → ⊥) → t.signature s ≡ None
  pub unknown : (s : Written) → (NamesDeclared ds s → ⊥) → t.body s ≡ None
  pub absent : (p : ℕ) → length ds ≤ p → t.wide p ≡ false
