use Rattle.std.proofs.Common.{ℕ, ◌<◌}
use Rattle.jl_model.specs.Ancestors.{table_of}
use Rattle.jl_model.specs.Subtype.{at}
use Rattle.jl_subsig.specs.Side.{row_of, held, sided}
use Rattle.jl_search.specs.Serving.{ServesAt}
use Rattle.jl_subsig.proofs.serve.serve.Given as goal

abbrev pub invariant-loop-variable : goal.invariant-loop-variable
invariant-loop-variable l = (v : ℕ) → v < l.variable → ServesAt (table_of l.table) (held l.left l.row) (sided l.right) (row_of l.other) (at l.values) v
