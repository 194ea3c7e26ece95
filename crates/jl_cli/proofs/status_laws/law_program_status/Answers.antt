use Rattle.jl_cli.proofs.StatusLemmas.{none_law, checked_law}
use Rattle.jl_cli.proofs.status_laws.law_program_status.Goals as goal

pub returns-clause-none : goal.returns-clause-none
returns-clause-none c = none_law

pub returns-clause-checked : goal.returns-clause-checked
returns-clause-checked c = checked_law
