use Rattle.jl_machine.proofs.Whole.{lost_law}
use Rattle.jl_machine.proofs.laws.law_lost_machine.Goals as goal

pub returns : goal.returns
returns g c = lost_law _
