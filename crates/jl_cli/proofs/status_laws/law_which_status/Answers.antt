use Rattle.jl_cli.proofs.QuestionLemmas.{answered_law, beside_law}
use Rattle.jl_cli.proofs.status_laws.law_which_status.Goals as goal

pub returns-clause-history : goal.returns-clause-history
returns-clause-history c = answered_law

pub returns-clause-unknown : goal.returns-clause-unknown
returns-clause-unknown c = beside_law
