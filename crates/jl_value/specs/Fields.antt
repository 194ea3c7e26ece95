-- Fields as the table keeps them.
use Rattle.std.specs.Prelude.{IsTrue, List, length}
use Rattle.std.specs.List.{list_all}
use Rattle.jl_model.specs.declared.ty.Ty.{Ty}
use Rattle.jl_model.specs.declared.ty.Decl.{Decl}
use Rattle.jl_model.specs.Ancestors.{table_of}
use Rattle.jl_model.specs.Kept.{Settled, AllSettled}
use Rattle.jl_model.specs.Normal.{AllNormal}
use Rattle.jl_model.specs.Valid.{is_known}

-- a field's type: its arguments are normal forms, variables, or nominal types over these, and its nominal types are declared
pub record IsFieldType (ds : List Decl) (t : Ty) : Type 0 where
  pub settled : Settled (table_of ds) t t
  pub known : IsTrue (is_known (length ds) t)

-- each of a list
pub record AreFieldTypes (ds : List Decl) (ts : List Ty) : Type 0 where
  pub settled : AllSettled (table_of ds) ts ts
  pub known : IsTrue (list_all (is_known (length ds)) ts)

-- arguments that are put in: normal forms whose nominal types are declared
pub record AreArguments (ds : List Decl) (ts : List Ty) : Type 0 where
  pub normal : AllNormal (table_of ds) ts
  pub known : IsTrue (list_all (is_known (length ds)) ts)
