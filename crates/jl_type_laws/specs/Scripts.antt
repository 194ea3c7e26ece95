-- What is asked of the declarations that a text sees.
use Rattle.std.specs.Prelude.{ℕ, Bool, ◌≤◌, IsTrue, List, length}
use Rattle.std.specs.List.{list_all}
use Rattle.jl_model.specs.declared.builtin.TheConstants.{BUILTIN_TYPES}
use Rattle.jl_model.specs.declared.ty.Decl.{Decl}
use Rattle.jl_model.specs.Refusals.{bound_types}
use Rattle.jl_model.specs.Valid.{is_known, is_closed}

-- each nominal type in the declared bounds has a number below m
abbrev pub are_known : ℕ → List Decl → Bool
are_known m ds = list_all (λ (d : Decl). list_all (is_known m) (bound_types d.params)) ds

-- no variable stands in the declared bounds
abbrev pub are_closed : List Decl → Bool
are_closed ds = list_all (λ (d : Decl). list_all is_closed (bound_types d.params)) ds

-- The built-in types are among them, and the declared bounds name types of the list alone and have no variables.
pub record DeclsKnown (ds : List Decl) : Type 0 where
  pub builtins : BUILTIN_TYPES ≤ length ds
  pub known : IsTrue (are_known (length ds) ds)
  pub closed : IsTrue (are_closed ds)
