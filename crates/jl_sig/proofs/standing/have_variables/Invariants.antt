use Rattle.std.proofs.Common.{◌≡◌, drop}
use Rattle.std.specs.List.{list_all}
use Rattle.jl_model.specs.Refusals.{bound_types}
use Rattle.jl_model.specs.Valid.{is_closed}
use Rattle.jl_sig.proofs.standing.have_variables.Given as goal

abbrev pub invariant-loop-bound : goal.invariant-loop-bound
invariant-loop-bound l = list_all is_closed (bound_types l.bounds) ≡ list_all is_closed (bound_types (drop l.bound-index l.bounds))
