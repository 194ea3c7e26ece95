use Rattle.jl_calculus.proofs.RunMoves.{without_places}
use Rattle.jl_calculus.proofs.laws.law_run_without_places.Goals as goal

pub returns : goal.returns
returns c = without_places
