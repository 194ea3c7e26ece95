-- The types of a key.
use Rattle.std.specs.Prelude.{ℕ, ◌≡◌, ◌≤◌, IsTrue, List, length, Option, None, Some}
use Rattle.std.specs.List.{AllByRecursion}
use Rattle.jl_model.specs.declared.limits.TheConstants.{MOST_ARGUMENTS}
use Rattle.jl_model.specs.declared.ty.Decl.{Decl}
use Rattle.jl_model.specs.declared.ty.Ty.{Ty}
use Rattle.jl_model.specs.declared.ty.Ty.TheViews.{Tuple}
use Rattle.jl_model.specs.Ancestors.{table_of}
use Rattle.jl_model.specs.Counts.{IsWithinLimits}
use Rattle.jl_model.specs.Normal.{IsNormal}
use Rattle.jl_model.specs.Subtype.{opaque, is_concrete}
use Rattle.jl_program.specs.declared.tree.Program.{Program}
use Rattle.jl_program.specs.Scope.{all_types}
use Rattle.jl_program.specs.Text.{type_text}
use Rattle.jl_program.specs.ValidValue.{IsValueType}

-- within the limits, concrete and normal
pub record IsKept (ds : List Decl) (t : Ty) : Type 0 where
  pub small : IsWithinLimits t
  pub concrete : IsTrue (is_concrete (table_of ds) opaque t)
  pub normal : IsNormal (table_of ds) t

-- these may be the types of a key, and this is the text of their tuple
pub record AreKeyTypes (P : Program) (text : List ℕ) (ts : List Ty) : Type 0 where
  pub few : length ts ≤ MOST_ARGUMENTS
  pub each : AllByRecursion (IsValueType (all_types P)) ts
  pub spelled : type_text P (Tuple ts) ≡ text

-- the types that are found of a text, or there are none
abbrev pub AreFound : Program → List ℕ → Option (List Ty) → Type 0
AreFound P text None = (ts : List Ty) → AreKeyTypes P text ts → ⊥
AreFound P text (Some ts) = AreKeyTypes P text ts

-- the types that are taken of those that were read, or these are none of a key
abbrev pub AreTaken : Program → List ℕ → List Ty → Option (List Ty) → Type 0
AreTaken P text us None = AreKeyTypes P text us → ⊥
AreTaken P text us (Some ts) = AreKeyTypes P text ts
