use Rattle.std.proofs.Common.{◌≡◌, length, drop}
use Rattle.jl_model.specs.SigRefusals.{are_bounds}
use Rattle.jl_match.proofs.places.are_bounds.Given as goal

abbrev pub invariant-loop-variable : goal.invariant-loop-variable
invariant-loop-variable l = are_bounds (length l.bounds) 0 l.bounds ≡ are_bounds (length l.bounds) l.variable (drop l.variable l.bounds)
