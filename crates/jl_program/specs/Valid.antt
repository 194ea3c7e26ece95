-- When a program is valid: what its numbers, slots and places stand for is there, its names are names, its declarations and
-- signatures are allowed, and so are the types written in its bodies.
use Rattle.std.specs.Prelude.{ℕ, ◌≡◌, ◌<◌, ◌≤◌, Bool, ◌&&◌, nat_lt, IsTrue, All, List, length, take, drop}
use Rattle.std.specs.List.{flat_map, list_all}
use Rattle.jl_model.specs.declared.ty.Decl.{Decl}
use Rattle.jl_model.specs.declared.ty.Written.{Written}
use Rattle.jl_model.specs.Refusals.{bound_types, Declared}
use Rattle.jl_model.specs.Rows.{vars_in}
use Rattle.jl_model.specs.SigRefusals.{types_in, IsAllowedSig}
use Rattle.jl_model.specs.Valid.{is_known}
use Rattle.jl_program.specs.declared.tree.Delete.{Delete}
use Rattle.jl_program.specs.declared.tree.Site.{Site}
use Rattle.jl_program.specs.declared.tree.Program.{Program}
use Rattle.jl_program.specs.BodyTypes.{IsAllowedType, IsSmallStruct}
use Rattle.jl_program.specs.Gathered.{spawned_places, written_types, inferred_structs, times}
use Rattle.jl_program.specs.Names.{are_distinct, is_free_name, is_field_name}
use Rattle.jl_program.specs.Prelude.{prelude_functions, prelude_sites}
use Rattle.jl_program.specs.Scope.{View, at_top, in_body, all_types, is_valid_expr, are_valid_items, are_valid_tasks}

-- a declared type and its fields have names that may be given
abbrev pub is_named : Decl → Bool
is_named d = is_free_name d.name && list_all (λ f. is_field_name f.name) d.fields

-- a signature has no variables but its own, names types of the program, and is allowed
pub record IsValidSig (ds : List Decl) (s : Written) : Type 0 where
  pub own : IsTrue (list_all (λ v. nat_lt v (length s.vars)) (flat_map vars_in s.parts))
  pub own_bounds : IsTrue (list_all (λ v. nat_lt v (length s.vars)) (flat_map vars_in (bound_types s.vars)))
  pub known : IsTrue (list_all (is_known (length ds)) (types_in s))
  pub allowed : IsAllowedSig ds s

-- a site of a script: its function is there, its signature is valid, and so is its body where its parameters are visible
pub record IsValidSite (P : Program) (views : List View) (site : Site) : Type 0 where
  pub function : site.function < length P.functions
  pub signature : IsValidSig (all_types P) site.sig
  pub body : IsTrue (is_valid_expr P views site.body (in_body site.sig))

-- a deletion place: its function is one of the script's, and its signature is valid
pub record IsValidDelete (P : Program) (place : Delete) : Type 0 where
  pub function : place.function < length P.functions
  pub past_prelude : length prelude_functions ≤ place.function
  pub signature : IsValidSig (all_types P) place.sig

pub record IsValid (P : Program) : Type 0 where
  -- the declarations, each as it is kept, and their names
  pub decls : Declared (all_types P)
  pub named : IsTrue (list_all is_named P.decls)
  -- the functions: the prelude's, and then those of the script
  pub prelude_names : take (length prelude_functions) P.functions ≡ prelude_functions
  pub names : IsTrue (list_all is_free_name (drop (length prelude_functions) P.functions))
  pub distinct : IsTrue (are_distinct P.functions)
  -- what is visible at each spawn place; each is the place of one `Spawn`
  pub views : List View
  pub tasks : IsTrue (are_valid_tasks P views 0 views P.spawns)
  pub once : (place : ℕ) → place < length P.spawns → times place (spawned_places P) ≡ 1
  -- the sites: the prelude's, and then those of the script
  pub prelude : take (length prelude_sites) P.sites ≡ prelude_sites
  pub sites : All (IsValidSite P views) (drop (length prelude_sites) P.sites)
  -- the deletion places
  pub deletes : All (IsValidDelete P) P.deletes
  -- the statements at the top
  pub top : IsTrue (are_valid_items P views P.top at_top)
  -- the types written in bodies, and the structs whose parameters are inferred
  pub written : All (IsAllowedType (all_types P)) (written_types P)
  pub inferred : All (IsSmallStruct (all_types P)) (inferred_structs P)
