use Rattle.jl_calculus.proofs.BrokenLemmas.{one_broken, broken_once}
use Rattle.jl_calculus.proofs.laws.law_bad_parameter.Goals as goal

pub returns : goal.returns
returns c = λ ds s. (one_broken ds s, broken_once ds s)
