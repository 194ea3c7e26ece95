use Rattle.std.proofs.Common.{◌≡◌, [], drop, length}
use Rattle.jl_model.specs.Ancestors.{table_of}
use Rattle.jl_model.specs.Subtype.{opaque}
use Rattle.jl_model.specs.Found.{filled}
use Rattle.jl_match.specs.KeptRow.{row_of}
use Rattle.jl_match.proofs.values.named_values.Given as goal

abbrev pub invariant-loop-variable : goal.invariant-loop-variable
invariant-loop-variable l = record {
  so_far : filled (table_of l.table) opaque l.signature (row_of l.parts l.chosen) l.types l.values.items (drop (length l.values.items) l.found)
      ≡ filled (table_of l.table) opaque l.signature (row_of l.parts l.chosen) l.types [] l.found;
  long : length l.values.items ≡ l.variable;
}
