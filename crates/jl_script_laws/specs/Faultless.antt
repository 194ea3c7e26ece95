-- What the declarations of a script are where no fault stands.
use Rattle.std.specs.Prelude.{◌≡◌, IsTrue, length, take, drop}
use Rattle.std.specs.List.{list_all}
use Rattle.jl_model.specs.Ancestors.{builtin_types}
use Rattle.jl_program.specs.Valid.{is_named}
use Rattle.jl_declare.specs.Declarations.{Declaring}

-- the built-in types come first, the declared ones have names that may be given, and all are allowed
pub record AreFaultless (d : Declaring) : Type 0 where
  pub builtins : take (length builtin_types) d.decls ≡ builtin_types
  pub named : IsTrue (list_all is_named (drop (length builtin_types) d.decls))
  pub all_allowed : d.allowed ≡ length d.decls
