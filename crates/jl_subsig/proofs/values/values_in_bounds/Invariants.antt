use Rattle.std.proofs.Common.{◌≡◌, [], drop, length}
use Rattle.jl_model.specs.Ancestors.{table_of}
use Rattle.jl_model.specs.Found.{filled}
use Rattle.jl_subsig.specs.Side.{row_of, held, sided}
use Rattle.jl_subsig.proofs.values.values_in_bounds.Given as goal

abbrev pub invariant-loop-hit : goal.invariant-loop-hit
invariant-loop-hit l = record {
  so_far : filled (table_of l.table) (held l.left l.row) (sided l.right) (row_of l.other) l.row.parts l.values.items (drop (length l.values.items) l.hit-items)
      ≡ filled (table_of l.table) (held l.left l.row) (sided l.right) (row_of l.other) l.row.parts [] l.hit-items;
  long : length l.values.items ≡ l.hit-index;
}
