use Rattle.std.proofs.Common.{drop}
use Rattle.jl_model.specs.Ancestors.{table_of}
use Rattle.jl_model.specs.Signature.{RowBelow}
use Rattle.jl_sig.specs.SigParts.{kept_of, rows_of}
use Rattle.jl_subsig.specs.Side.{row_of, AnyOf, Every}
use Rattle.jl_subsig.proofs.order.are_below_some.Given as goal

abbrev pub invariant-loop-row : goal.invariant-loop-row
invariant-loop-row l =
    Every (λ k. AnyOf (λ q. RowBelow (table_of l.table) (kept_of l.left) (row_of k) (kept_of l.right) (row_of q)) (rows_of l.right)) (drop l.row-index (rows_of l.left))
    → Every (λ k. AnyOf (λ q. RowBelow (table_of l.table) (kept_of l.left) (row_of k) (kept_of l.right) (row_of q)) (rows_of l.right)) (rows_of l.left)
