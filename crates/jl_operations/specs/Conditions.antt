-- What the operations ask of static parameters, of written types and of structs whose type is inferred. In the bodies of a valid
-- program all of it holds.
use Rattle.std.specs.Prelude.{ℕ, ◌≡◌, Bool, true, false, IsTrue, List, get_or}
use Rattle.jl_model.specs.declared.ty.Ty.{Ty}
use Rattle.jl_model.specs.declared.ty.Ty.TheVariants as W
use Rattle.jl_model.specs.declared.ty.Decl.{Decl}
use Rattle.jl_model.specs.declared.ty.Written.{Written}
use Rattle.jl_model.specs.Valid.{IsValidType, is_closed}
use Rattle.jl_program.specs.declared.tree.Program.{Program}
use Rattle.jl_program.specs.BodyTypes.{is_seen, is_made, is_inferable, IsAllowedType}
use Rattle.jl_program.specs.Gathered.{inferred_structs}
use Rattle.jl_program.specs.Scope.{all_types}
use Rattle.jl_sig.specs.Inferred.{is_one_of}

-- a type that may be put in for a static parameter: valid, and without variables
pub record IsPutType (ds : List Decl) (t : Ty) : Type 0 where
  pub valid : IsValidType ds t
  pub closed : IsTrue (is_closed t)

-- each static parameter that is usable has such a type
abbrev pub HaveTypes : List Decl → List Bool → List Ty → Type 0
HaveTypes ds usable statics = (i : ℕ) → IsTrue (get_or usable i false) → IsPutType ds (get_or statics i W.Any)

-- a type that is written in a body, where these static parameters are visible, some of which are usable
pub record IsWrittenIn (P : Program) (statics : List Ty) (t : Written) : Type 0 where
  pub usable : List Bool
  pub types : HaveTypes (all_types P) usable statics
  pub seen : IsTrue (is_seen (all_types P) usable t)
  pub allowed : IsAllowedType (all_types P) t

-- such a type of an explicit constructor
pub record IsMadeIn (P : Program) (statics : List Ty) (t : Written) : Type 0 where
  pub written : IsWrittenIn P statics t
  pub made : IsTrue (is_made (all_types P) t)

-- a struct whose inferred constructor the program calls
pub record IsInferredIn (P : Program) (name : ℕ) : Type 0 where
  pub called : is_one_of (inferred_structs P) name ≡ true
  pub inferable : IsTrue (is_inferable (all_types P) name)
