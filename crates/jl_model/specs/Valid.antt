-- Valid types: those that name only types of a table.
use Rattle.std.specs.Prelude.{ℕ, ◌&&◌, Bool, true, nat_eq, nat_lt, IsTrue, List, [], ◌∷◌, length, Option, None, Some, slice_get}
use Rattle.std.specs.List.{flat_map, list_all}
use Rattle.jl_model.specs.declared.ty.Ty.{Ty}
use Rattle.jl_model.specs.declared.ty.Ty.TheOpen.{Ty-F, Any, Union, Tuple, Nominal, Var}
use Rattle.jl_model.specs.declared.ty.Ty.TheFolds.{fold-Ty}
use Rattle.jl_model.specs.declared.ty.Bound.{Bound}
use Rattle.jl_model.specs.declared.ty.Decl.{Decl}
use Rattle.jl_model.specs.Rows.{vars_in}

-- the numbers of the nominal types in a type
abbrev pub names_step : Ty-F (List ℕ) → List ℕ
names_step Any = []
names_step (Union ks) = flat_map (λ k. k) ks
names_step (Tuple ks) = flat_map (λ k. k) ks
names_step (Nominal k ks) = k ∷ flat_map (λ k. k) ks
names_step (Var _) = []

abbrev pub names_in : Ty → List ℕ
names_in = fold-Ty (List ℕ) names_step

-- each nominal type in it has a number below m
abbrev pub is_known : ℕ → Ty → Bool
is_known m t = list_all (λ k. nat_lt k m) (names_in t)

abbrev pub params_of : Option Decl → List Bound
params_of None = []
params_of (Some d) = d.params

abbrev pub counted_step : List Decl → Ty-F Bool → Bool
counted_step ds Any = true
counted_step ds (Union bs) = list_all (λ b. b) bs
counted_step ds (Tuple bs) = list_all (λ b. b) bs
counted_step ds (Nominal k bs) = nat_eq (length bs) (length (params_of (slice_get ds k))) && list_all (λ b. b) bs
counted_step ds (Var _) = true

-- each nominal type in it has the declared number of arguments
abbrev pub is_counted : List Decl → Ty → Bool
is_counted ds = fold-Ty Bool (counted_step ds)

-- a valid type has only nominal types of the table, each with its declared number of arguments
pub record IsValidType (ds : List Decl) (t : Ty) : Type 0 where
  pub known : IsTrue (is_known (length ds) t)
  pub counted : IsTrue (is_counted ds t)

-- no variable stands in it
abbrev pub is_closed : Ty → Bool
is_closed t = nat_eq (length (vars_in t)) 0
