-- What is asked of what is known of a script, and of the tests over its declarations.
use Rattle.std.specs.Prelude.{ℕ, ◌≡◌, ◌<◌, false, nat_lt, IsTrue, List, length, take, drop, None}
use Rattle.std.specs.List.{flat_map, list_all}
use Rattle.jl_model.specs.declared.ty.Decl.{Decl}
use Rattle.jl_model.specs.declared.ty.Written.{Written}
use Rattle.jl_model.specs.Ancestors.{builtin_types}
use Rattle.jl_model.specs.Refusals.{Declared, bound_types}
use Rattle.jl_model.specs.Rows.{vars_in}
use Rattle.jl_model.specs.SigRefusals.{types_in, IsAllowedSig}
use Rattle.jl_model.specs.Valid.{is_known}
use Rattle.jl_program.specs.BodyTypes.{IsAllowedType, IsSmallStruct}
use Rattle.jl_program.specs.Valid.{is_named}
use Rattle.jl_grammar.specs.declared.tree.Item.{Item}
use Rattle.jl_resolve_forms.specs.declared.known.Known.{Known}
use Rattle.jl_resolve_forms.specs.Defined.{methods_of, functions_of}
use Rattle.jl_resolve_forms.specs.TypesIn.{Tests}

-- the functions are those of these items; and the declarations are valid, the built-in ones first, with names that may be given
pub record IsKnownOf (items : List Item) (k : Known) : Type 0 where
  pub functions : k.functions ≡ functions_of (methods_of items)
  pub builtins : take (length builtin_types) k.decls ≡ builtin_types
  pub declared : Declared k.decls
  pub named : IsTrue (list_all is_named (drop (length builtin_types) k.decls))

-- What the tests do not refuse is allowed: of a signature with variables and types of its own program, of a type in a body, and of
-- the fields of a declared type.
pub record AreTold (ds : List Decl) (t : Tests) : Type 0 where
  pub signature : (s : Written) → IsTrue (list_all (λ v. nat_lt v (length s.vars)) (flat_map vars_in s.parts)) → IsTrue (list_all (λ v. nat_lt v (length s.vars)) (flat_map vars_in (bound_types s.vars)))
      → IsTrue (list_all (is_known (length ds)) (types_in s)) → t.signature s ≡ None → IsAllowedSig ds s
  pub body : (s : Written) → IsTrue (list_all (is_known (length ds)) (types_in s)) → t.body s ≡ None → IsAllowedType ds s
  pub wide : (p : ℕ) → p < length ds → t.wide p ≡ false → IsSmallStruct ds p
