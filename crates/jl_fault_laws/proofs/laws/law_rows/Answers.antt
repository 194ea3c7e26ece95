use Rattle.jl_fault_laws.proofs.RowLaws.{rows_only, rows_least}
use Rattle.jl_fault_laws.proofs.laws.law_rows.Goals as goal

pub returns-clause-only : goal.returns-clause-only
returns-clause-only c = rows_only

pub returns-clause-least : goal.returns-clause-least
returns-clause-least c = rows_least
