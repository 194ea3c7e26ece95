use Rattle.std.proofs.Common.{◌≡◌, ◌+◌, drop}
use Rattle.jl_search.specs.Walk.{in_above}
use Rattle.jl_search.proofs.bounds.in_bounds.Given as goal

abbrev pub invariant-loop-other : goal.invariant-loop-other
invariant-loop-other l = in_above l.variable (drop (l.variable + 1) l.bounds) (drop (l.variable + 1) l.above) ≡ in_above l.variable (drop l.other l.bounds) (drop l.other l.above)
