use Rattle.jl_io.specs.Faults.{Rose}
use Rattle.jl_cli.proofs.LawLemmas.{usage_line_law, fault_line_law}
use Rattle.jl_cli.proofs.QuestionLemmas.{unknown_line_law}
use Rattle.jl_cli.proofs.laws.law_refused.Goals as goal

pub returns-clause-usage : goal.returns-clause-usage
returns-clause-usage c = λ asked bytes written s s' k k'. usage_line_law asked bytes written (Rose s s') (Rose k k')

pub returns-clause-fault : goal.returns-clause-fault
returns-clause-fault c = λ asked bytes written s s' k k'. fault_line_law asked bytes written (Rose s s') (Rose k k')

pub returns-clause-unknown : goal.returns-clause-unknown
returns-clause-unknown c = λ asked bytes written s s' k k'. unknown_line_law asked bytes written (Rose s s') (Rose k k')
