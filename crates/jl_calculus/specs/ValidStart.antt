-- Valid starts of tasks: the place is there, each slot that is visible at it has a valid value, and each static parameter that is
-- usable there has a type.
use Rattle.std.specs.Prelude.{◌≡◌, ◌<◌, Bool, true, false, IsTrue, List, [], ◌∷◌, length}
use Rattle.jl_model.specs.declared.ty.Ty.{Ty}
use Rattle.jl_model.specs.declared.ty.Decl.{Decl}
use Rattle.jl_model.specs.Ancestors.{table_of}
use Rattle.jl_model.specs.Normal.{IsNormal}
use Rattle.jl_model.specs.Valid.{IsValidType, is_closed}
use Rattle.jl_program.specs.declared.tree.Program.{Program}
use Rattle.jl_program.specs.declared.tree.Start.{Start}
use Rattle.jl_program.specs.Scope.{all_types}
use Rattle.jl_program.specs.ValidValue.{AllValid}
use Rattle.jl_calculus.specs.Views.{view_at}

-- A type that a static parameter may have: a normal form without variables, and valid. It need not be within the limits of a type:
-- an argument of an ancestor, which a static parameter may stand for, can be larger than the type that was declared below it.
pub record IsStaticType (ds : List Decl) (t : Ty) : Type 0 where
  pub normal : IsNormal (table_of ds) t
  pub valid : IsValidType ds t
  pub closed : IsTrue (is_closed t)

-- a type for each static parameter; nothing is asked of that of one which is not usable
abbrev pub AreStatics : List Decl → List Bool → List Ty → Type 0
AreStatics ds [] [] = Unit {0}
AreStatics ds (true ∷ usable) (t ∷ ts) = IsStaticType ds t × AreStatics ds usable ts
AreStatics ds (false ∷ usable) (t ∷ ts) = AreStatics ds usable ts
AreStatics ds [] (t ∷ ts) = ⊥
AreStatics ds (b ∷ usable) [] = ⊥

pub record IsValidStart (P : Program) (start : Start) : Type 0 where
  pub place : start.spawn < length P.spawns
  pub values : AllValid (all_types P) start.env
  pub slots : length start.env ≡ (view_at P start.spawn).slots
  pub statics : AreStatics (all_types P) (view_at P start.spawn).statics start.bindings
