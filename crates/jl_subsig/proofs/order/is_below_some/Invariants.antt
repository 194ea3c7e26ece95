use Rattle.std.proofs.Common.{drop}
use Rattle.jl_model.specs.Ancestors.{table_of}
use Rattle.jl_model.specs.Signature.{RowBelow}
use Rattle.jl_sig.specs.SigParts.{kept_of, rows_of}
use Rattle.jl_subsig.specs.Side.{row_of, AnyOf}
use Rattle.jl_subsig.proofs.order.is_below_some.Given as goal

abbrev pub invariant-loop-other : goal.invariant-loop-other
invariant-loop-other l =
    AnyOf (λ q. RowBelow (table_of l.table) (kept_of l.left) (row_of l.row) (kept_of l.right) (row_of q)) (rows_of l.right) → AnyOf (λ q. RowBelow (table_of l.table) (kept_of l.left) (row_of l.row) (kept_of l.right) (row_of q)) (drop l.other-index (rows_of l.right))
