use Rattle.std.proofs.Common.{◌≡◌, drop}
use Rattle.std.specs.List.{list_any}
use Rattle.jl_model.specs.Refusals.{bound_types}
use Rattle.jl_model.specs.Usable.{stands_in}
use Rattle.jl_sig.proofs.standing.stands_in_bounds.Given as goal

abbrev pub invariant-loop-bound : goal.invariant-loop-bound
invariant-loop-bound l = list_any (stands_in l.variable) (bound_types l.bounds) ≡ list_any (stands_in l.variable) (bound_types (drop l.bound-index l.bounds))
