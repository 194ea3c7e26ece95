use Rattle.jl_valid.proofs.CleanTrees.{begins_clean}
use Rattle.jl_valid.proofs.laws.law_faults_stay.Goals as goal

pub returns : goal.returns
returns c = begins_clean
