use Rattle.jl_machine.proofs.Whole.{grown_law}
use Rattle.jl_machine.proofs.laws.law_grown_machine.Goals as goal

pub returns : goal.returns
returns g c = grown_law _ _
