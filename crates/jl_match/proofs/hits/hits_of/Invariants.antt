use Rattle.std.proofs.Common.{◌-◌, []}
use Rattle.jl_model.specs.Ancestors.{table_of}
use Rattle.jl_model.specs.Subtype.{opaque}
use Rattle.jl_match.specs.KeptRow.{row_of}
use Rattle.jl_search.proofs.WalkLemmas.{Walked}
use Rattle.jl_match.proofs.hits.hits_of.Given as goal

abbrev pub invariant-loop-step : goal.invariant-loop-step
invariant-loop-step l = Walked (table_of l.table) opaque l.signature (row_of l.parts []) l.types (l.width - l.step) l.hits.items l.above.items
