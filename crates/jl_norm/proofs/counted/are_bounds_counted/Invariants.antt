use Rattle.std.proofs.Common.{◌≡◌, ◌++◌, ◌∷◌, [], drop}
use Rattle.std.specs.List.{list_all}
use Rattle.jl_model.specs.Valid.{is_counted}
use Rattle.jl_model.specs.Refusals.{bound_types}
use Rattle.jl_norm.proofs.counted.are_bounds_counted.Given as goal

abbrev pub invariant-loop-bound : goal.invariant-loop-bound
invariant-loop-bound l = list_all (is_counted (l.table ++ l.decl ∷ [])) (bound_types l.bounds) ≡ list_all (is_counted (l.table ++ l.decl ∷ [])) (bound_types (drop l.bound-index l.bounds))
