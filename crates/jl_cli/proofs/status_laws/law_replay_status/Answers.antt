use Rattle.jl_cli.proofs.ReplayLemmas.{alone_law, illegal_law, legal_law, found_law, refuted_law}
use Rattle.jl_cli.proofs.status_laws.law_replay_status.Goals as goal

pub returns-clause-alone : goal.returns-clause-alone
returns-clause-alone c = alone_law

pub returns-clause-illegal : goal.returns-clause-illegal
returns-clause-illegal c = illegal_law

pub returns-clause-legal : goal.returns-clause-legal
returns-clause-legal c = legal_law

pub returns-clause-found : goal.returns-clause-found
returns-clause-found c = found_law

pub returns-clause-refuted : goal.returns-clause-refuted
returns-clause-refuted c = refuted_law
