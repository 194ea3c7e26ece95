use Rattle.std.proofs.Common.{◌≡◌, ◌++◌, map, drop}
use Rattle.jl_program.specs.BodyTypes.{any_in_bound}
use Rattle.jl_body.proofs.statics.bounds_without_statics.Given as goal

abbrev pub invariant-loop-bound : goal.invariant-loop-bound
invariant-loop-bound l = (l.items.items ++ map (any_in_bound l.own) (drop l.bound-index l.bounds)) ≡ map (any_in_bound l.own) l.bounds
