use Rattle.std.proofs.Common.{◌≡◌, ◌++◌, map, drop}
use Rattle.jl_types.proofs.sort.unspelled.Given as goal

abbrev pub invariant-loop-spelled : goal.invariant-loop-spelled
invariant-loop-spelled l = (l.types.items ++ map (λ s. s.ty) (drop l.spelled-index l.all)) ≡ map (λ s. s.ty) l.all
