use Rattle.std.proofs.Common.{◌≡◌, ◌-◌, length}
use Rattle.jl_model.specs.Ancestors.{table_of}
use Rattle.jl_subsig.specs.Side.{row_of, held, sided}
use Rattle.jl_search.proofs.WalkLemmas.{Walked}
use Rattle.jl_subsig.proofs.values.hits_of.Given as goal

abbrev pub invariant-loop : goal.invariant-loop
invariant-loop l = record {
  hits : length l.hits.items ≡ l.counter;
  above : length l.above.items ≡ l.counter;
}

abbrev pub invariant-loop-step : goal.invariant-loop-step
invariant-loop-step l = Walked (table_of l.table) (held l.left l.row) (sided l.right) (row_of l.other) l.row.parts (l.width - l.step) l.hits.items l.above.items
