use Rattle.std.proofs.Common.{drop}
use Rattle.jl_model.specs.Ancestors.{table_of}
use Rattle.jl_match.proofs.AppliesLemmas.{NoneFits}
use Rattle.jl_match.proofs.signature.some_row_applies.Given as goal

abbrev pub invariant-loop-row : goal.invariant-loop-row
invariant-loop-row l = NoneFits (table_of l.table) l.signature l.types (drop l.row-index l.rows) → NoneFits (table_of l.table) l.signature l.types l.rows
