-- The arguments without variables in a declaration, one by one: their normal forms, and their declared bounds.
use Rattle.std.specs.Prelude.{ℕ, ◌+◌, ◌++◌, ◌≡◌, ◌≤◌, Bool, true, false, IsTrue, List, [], ◌∷◌, length, get_or, slice_get}
use Rattle.std.specs.List.{flat_map, Contains}
use Rattle.jl_model.specs.declared.limits.TheConstants.{MOST_TYPE_NODES}
use Rattle.jl_model.specs.declared.ty.Ty.{Ty}
use Rattle.jl_model.specs.declared.ty.Ty.TheViews as V
use Rattle.jl_model.specs.declared.ty.Bound.{Bound}
use Rattle.jl_model.specs.declared.ty.Decl.{Decl}
use Rattle.jl_model.specs.Rows.{free}
use Rattle.jl_model.specs.Counts.{nodes, IsWithinLimits}
use Rattle.jl_model.specs.Normal.{IsNormalForm}
use Rattle.jl_model.specs.Valid.{is_known, is_closed, params_of}
use Rattle.jl_model.specs.Kept.{Settled}
use Rattle.jl_model.specs.Refusals.{table_with, is_free_of, is_placed_field, Given, given_in, types_of, Between, HasLargeForm}
use Rattle.jl_types.specs.Ground.{IsGround}

-- the bounds of a place, where the declaration counts as the next type
abbrev pub bound_at : List Decl → Decl → Given → Bound
bound_at ds d a = get_or (params_of (slice_get (ds ++ d ∷ []) a.of)) a.place free

-- the arguments in the types of a declaration
abbrev pub given_of : Decl → List Given
given_of d = flat_map given_in (types_of d)

-- one of these has no variables, and a normal form that is too large
abbrev pub SomeLarge : List Decl → Decl → List Given → Type 0
SomeLarge ds d gs = (a : Given) × Contains gs a × IsTrue (is_closed a.ty) × HasLargeForm (table_with ds d) a.ty

-- it has a normal form of at most 1,024 nodes
abbrev pub HasSmallForm : List Decl → Decl → Ty → Type 0
HasSmallForm ds d t = (u : Ty) × IsNormalForm (table_with ds d) t u × (nodes u ≤ MOST_TYPE_NODES)

-- a type without variables has a small normal form, and r tells whether it is outside these bounds
pub record IsJudged (ds : List Decl) (d : Decl) (b : Bound) (t : Ty) (r : Bool) : Type 0 where
  pub small : HasSmallForm ds d t
  pub outside : r ≡ true → Between (table_with ds d) b t → ⊥
  pub inside : r ≡ false → Between (table_with ds d) b t

-- those of these that have no variables have small normal forms, and b tells whether one is outside its bounds
pub record Judged (ds : List Decl) (d : Decl) (gs : List Given) (b : Bool) : Type 0 where
  pub small : (a : Given) → Contains gs a → IsTrue (is_closed a.ty) → HasSmallForm ds d a.ty
  pub outside : b ≡ true → (a : Given) × Contains gs a × IsTrue (is_closed a.ty) × (Between (table_with ds d) (bound_at ds d a) a.ty → ⊥)
  pub inside : b ≡ false → (a : Given) → Contains gs a → IsTrue (is_closed a.ty) → Between (table_with ds d) (bound_at ds d a) a.ty

-- What is known of an argument in a declaration that is well written and within the limits, and so is what is kept of it:
-- where the new type stands in it, it is a nominal type or a variable, and is kept as it stands there.
pub record IsArgument (ds : List Decl) (d : Decl) (t : Ty) : Type 0 where
  pub known : IsTrue (is_known (length ds + 1) t)
  pub placed : IsTrue (is_placed_field (length ds) t)
  pub within : IsWithinLimits t
  pub kept : is_free_of (length ds) t ≡ false → (u : Ty) × Settled (table_with ds d) t u × IsWithinLimits u × (is_free_of (length ds) u ≡ false)
  pub shape : is_closed t ≡ true → is_free_of (length ds) t ≡ false → (k : ℕ) × (ts : List Ty) × (t ≡ V.Nominal k ts)

abbrev pub AreArguments : List Decl → Decl → List Given → Type 0
AreArguments ds d gs = (a : Given) → Contains gs a → IsArgument ds d a.ty

-- bounds that are normal forms over declared types
pub record IsGroundBound (ds : List Decl) (b : Bound) : Type 0 where
  pub low : IsGround ds b.low
  pub high : IsGround ds b.high
