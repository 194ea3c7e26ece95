-- The terms of the built-in types that a table keeps.
use Rattle.std.specs.Prelude.{◌≡◌, List, [], ◌∷◌}
use Rattle.jl_model.specs.declared.builtin.TheConstants.{NUMBER, REAL, INTEGER, SIGNED, INT64, BOOL, NOTHING, TASK}
use Rattle.jl_model.specs.declared.ty.Ty.{Ty}
use Rattle.jl_model.specs.declared.ty.Decl.{Decl}
use Rattle.jl_model.specs.Ancestors.{named}
use Rattle.jl_model.specs.Refusals.{Declared}

-- each at its number
abbrev pub builtin_terms : List Ty
builtin_terms = named NUMBER ∷ named REAL ∷ named INTEGER ∷ named SIGNED ∷ named INT64 ∷ named BOOL ∷ named NOTHING ∷ named TASK ∷ []

-- what a table of these declarations keeps: they are valid, and its terms are those of the built-in types
pub record IsTable (ds : List Decl) (terms : List Ty) : Type 0 where
  pub declared : Declared ds
  pub builtin : terms ≡ builtin_terms
