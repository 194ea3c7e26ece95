use Rattle.std.proofs.Common.{◌++◌, drop, List}
use Rattle.jl_model.specs.declared.ty.Bound.{Bound}
use Rattle.jl_model.specs.declared.ty.Decl.{Decl}
use Rattle.jl_model.specs.Kept.{Bounds}
use Rattle.jl_model.specs.Refusals.{table_with}
use Rattle.jl_norm.proofs.keep.keep_bounds.Given as goal

abbrev pub invariant-loop-bound : goal.invariant-loop-bound
invariant-loop-bound l =
    (d : Decl) (cs : List Bound) → Bounds (table_with l.table d) (drop l.bound-index l.bounds) cs → Bounds (table_with l.table d) l.bounds (l.kept.items ++ cs)
