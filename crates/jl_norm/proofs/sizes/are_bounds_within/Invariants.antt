use Rattle.std.proofs.Common.{drop}
use Rattle.jl_model.specs.Refusals.{bound_types, AllWithinLimits}
use Rattle.jl_norm.proofs.sizes.are_bounds_within.Given as goal

abbrev pub invariant-loop-bound : goal.invariant-loop-bound
invariant-loop-bound l = record {
  whole : AllWithinLimits (bound_types (drop l.bound-index l.bounds)) → AllWithinLimits (bound_types l.bounds);
  rest : AllWithinLimits (bound_types l.bounds) → AllWithinLimits (bound_types (drop l.bound-index l.bounds));
}
