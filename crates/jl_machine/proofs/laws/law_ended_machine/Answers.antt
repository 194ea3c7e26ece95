use Rattle.jl_machine.proofs.Whole.{ended_law}
use Rattle.jl_machine.proofs.laws.law_ended_machine.Goals as goal

pub returns : goal.returns
returns g c = ended_law _
