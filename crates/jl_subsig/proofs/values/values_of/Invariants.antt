use Rattle.std.proofs.Common.{◌≡◌, length}
use Rattle.jl_model.specs.Ancestors.{table_of}
use Rattle.jl_model.specs.Found.{found}
use Rattle.jl_subsig.specs.Side.{row_of, held, sided}
use Rattle.jl_search.proofs.ValueLemmas.{Gives}
use Rattle.jl_subsig.proofs.values.values_of.Given as goal

abbrev pub invariant-loop-variable : goal.invariant-loop-variable
invariant-loop-variable l = record {
  so_far : Gives (found (table_of l.table) (held l.left l.row) (sided l.right) (row_of l.other) l.row.parts) l.values.items;
  long : length l.values.items ≡ l.variable;
}
