use Rattle.jl_valid.proofs.TopLemmas.{valid}
use Rattle.jl_valid.proofs.laws.law_valid.Goals as goal

pub returns : goal.returns
returns c = valid
