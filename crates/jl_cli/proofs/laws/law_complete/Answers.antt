use Rattle.jl_io.specs.Faults.{Rose}
use Rattle.jl_cli.proofs.LawLemmas.{complete_law}
use Rattle.jl_cli.proofs.laws.law_complete.Goals as goal

pub returns : goal.returns
returns c = λ asked bytes written s s' k k'. complete_law asked bytes written (Rose s s') (Rose k k')
