use Rattle.std.proofs.Common.{◌≡◌, ◌++◌, drop}
use Rattle.jl_declare.proofs.copies.copy_bounds.Given as goal

abbrev pub invariant-loop-bound : goal.invariant-loop-bound
invariant-loop-bound l = (l.out.items ++ drop l.bound-index l.bounds) ≡ l.bounds
