use Rattle.jl_io.specs.Faults.{Rose}
use Rattle.jl_cli.proofs.LawLemmas.{history_law}
use Rattle.jl_cli.proofs.laws.law_history.Goals as goal

pub returns : goal.returns
returns c = λ asked bytes written s s' k k'. history_law asked bytes written (Rose s s') (Rose k k')
