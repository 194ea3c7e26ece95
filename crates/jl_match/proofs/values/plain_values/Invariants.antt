use Rattle.std.proofs.Common.{◌≡◌, length}
use Rattle.jl_model.specs.Ancestors.{table_of}
use Rattle.jl_model.specs.Subtype.{opaque}
use Rattle.jl_model.specs.Found.{found}
use Rattle.jl_match.specs.KeptRow.{row_of}
use Rattle.jl_search.proofs.ValueLemmas.{Gives}
use Rattle.jl_match.proofs.values.plain_values.Given as goal

abbrev pub invariant-loop-variable : goal.invariant-loop-variable
invariant-loop-variable l = record {
  so_far : Gives (found (table_of l.table) opaque l.signature (row_of l.parts l.chosen) l.types) l.values.items;
  long : length l.values.items ≡ l.variable;
}
