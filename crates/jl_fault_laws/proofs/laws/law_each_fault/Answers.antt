use Rattle.jl_fault_laws.proofs.RowLaws.{types_only, types_least}
use Rattle.jl_fault_laws.proofs.laws.law_each_fault.Goals as goal

pub returns-clause-only : goal.returns-clause-only
returns-clause-only c = types_only

pub returns-clause-least : goal.returns-clause-least
returns-clause-least c = types_least
