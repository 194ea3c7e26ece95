use Rattle.std.proofs.Common.{◌≡◌, ◌++◌, map, drop}
use Rattle.jl_calculus.specs.Statics.{own_or_bound, put_bound}
use Rattle.jl_operations.proofs.statics.put_bounds.Given as goal

abbrev pub invariant-loop-bound : goal.invariant-loop-bound
invariant-loop-bound l = (l.items.items ++ map (put_bound (own_or_bound l.statics l.own)) (drop l.bound-index l.bounds)) ≡ map (put_bound (own_or_bound l.statics l.own)) l.bounds
