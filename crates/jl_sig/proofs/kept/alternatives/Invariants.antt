use Rattle.std.proofs.Common.{◌≡◌, ◌++◌, map, drop}
use Rattle.jl_model.specs.declared.ty.Bound.{Bound}
use Rattle.jl_model.specs.Rows.{alts}
use Rattle.jl_sig.proofs.kept.alternatives.Given as goal

abbrev pub invariant-loop-bound : goal.invariant-loop-bound
invariant-loop-bound l = (l.lists.items ++ map (λ (b : Bound). alts b.high) (drop l.bound-index l.bounds)) ≡ map (λ (b : Bound). alts b.high) l.bounds
