use Rattle.std.proofs.Common.{◌≡◌, ◌++◌, map, drop}
use Rattle.jl_model.specs.declared.ty.Ty.TheViews as V
use Rattle.jl_types.proofs.expand.tuples.Given as goal

abbrev pub invariant-loop-row : goal.invariant-loop-row
invariant-loop-row l = (l.types.items ++ map (λ us. V.Tuple us) (drop l.row-index l.rows)) ≡ map (λ us. V.Tuple us) l.rows
