use Rattle.std.proofs.Common.{◌≡◌, ◌++◌, drop}
use Rattle.jl_model.specs.Refusals.{bound_types}
use Rattle.jl_operations.proofs.questions.push_bounds.Given as goal

abbrev pub invariant-loop-bound : goal.invariant-loop-bound
invariant-loop-bound l = (l.types.items ++ bound_types (drop l.bound-index l.bounds)) ≡ l.initial.types.items ++ bound_types l.bounds
