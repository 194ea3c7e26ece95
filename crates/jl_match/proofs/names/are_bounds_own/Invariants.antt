use Rattle.std.proofs.Common.{◌≡◌, nat_lt, drop}
use Rattle.std.specs.List.{flat_map, list_all}
use Rattle.jl_model.specs.Rows.{vars_in}
use Rattle.jl_model.specs.Refusals.{bound_types}
use Rattle.jl_match.proofs.names.are_bounds_own.Given as goal

abbrev pub invariant-loop-bound : goal.invariant-loop-bound
invariant-loop-bound l = list_all (λ v. nat_lt v l.count) (flat_map vars_in (bound_types l.bounds)) ≡ list_all (λ v. nat_lt v l.count) (flat_map vars_in (bound_types (drop l.bound-index l.bounds)))
