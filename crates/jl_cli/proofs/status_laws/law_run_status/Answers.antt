use Rattle.jl_cli.proofs.StatusLemmas.{run_history_law, outcome_law}
use Rattle.jl_cli.proofs.status_laws.law_run_status.Goals as goal

pub returns-clause-history : goal.returns-clause-history
returns-clause-history c = run_history_law

pub returns-clause-outcome : goal.returns-clause-outcome
returns-clause-outcome c = outcome_law
