use Rattle.std.proofs.Common.{◌≡◌, ◌++◌, map, drop}
use Rattle.jl_types.proofs.sort.all_spelled.Given as goal

abbrev pub invariant-loop-ty : goal.invariant-loop-ty
invariant-loop-ty l = (map (λ s. s.ty) l.all.items ++ drop l.ty-index l.types) ≡ l.types
