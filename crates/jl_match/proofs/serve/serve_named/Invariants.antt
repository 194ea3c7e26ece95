use Rattle.std.proofs.Common.{ℕ, ◌<◌}
use Rattle.jl_model.specs.Ancestors.{table_of}
use Rattle.jl_model.specs.Subtype.{opaque, at}
use Rattle.jl_match.specs.KeptRow.{row_of}
use Rattle.jl_search.specs.Serving.{ServesAt}
use Rattle.jl_match.proofs.serve.serve_named.Given as goal

abbrev pub invariant-loop-variable : goal.invariant-loop-variable
invariant-loop-variable l = (v : ℕ) → v < l.variable → ServesAt (table_of l.table) opaque l.signature (row_of l.parts l.chosen) (at l.values) v
