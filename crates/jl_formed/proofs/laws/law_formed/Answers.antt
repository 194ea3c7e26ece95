use Rattle.jl_formed.proofs.Scripts.{script_formed}
use Rattle.jl_formed.proofs.laws.law_formed.Goals as goal

pub returns : goal.returns
returns c = script_formed
