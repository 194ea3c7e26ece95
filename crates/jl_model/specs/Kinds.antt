-- Places and kinds of variables.
use Rattle.std.specs.Prelude.{ℕ, ◌+◌, ◌≡◌, ◌≤◌, Bool, true, false, cond, nat_eq, List, [], ◌∷◌}
use Rattle.jl_model.specs.declared.ty.Ty.{Ty}
use Rattle.jl_model.specs.declared.ty.Ty.TheOpen.{Ty-F, Any, Union, Tuple, Nominal, Var}
use Rattle.jl_model.specs.declared.ty.Ty.TheFolds.{fold-Ty}

-- how many covariant and invariant places a variable has
pub record Places : Type 0 where
  pub covariant : ℕ
  pub invariant : ℕ

abbrev pub nowhere : Places
nowhere = record { covariant = 0; invariant = 0 }

abbrev pub plus : Places → Places → Places
plus p q = record { covariant = p.covariant + q.covariant; invariant = p.invariant + q.invariant }

abbrev pub plus_all : List Places → Places
plus_all [] = nowhere
plus_all (p ∷ ps) = plus p (plus_all ps)

-- what stands below a nominal type is invariant
abbrev pub below_nominal : Places → Places
below_nominal p = record { covariant = 0; invariant = p.covariant + p.invariant }

abbrev pub places_step : ℕ → Ty-F Places → Places
places_step v Any = nowhere
places_step v (Union ps) = plus_all ps
places_step v (Tuple ps) = plus_all ps
places_step v (Nominal _ ps) = below_nominal (plus_all ps)
places_step v (Var w) = cond (nat_eq v w) (record { covariant = 1; invariant = 0 }) nowhere

-- the places of variable v in a type
abbrev pub places : ℕ → Ty → Places
places v = fold-Ty Places (places_step v)

pub data Kind : Type 0 where
  unused : Kind
  once : Kind
  diagonal : Kind
  bound : Kind

abbrev pub kind_of : Places → Kind
kind_of p = cond (nat_eq p.invariant 0) (cond (nat_eq p.covariant 0) unused (cond (nat_eq p.covariant 1) once diagonal)) bound
