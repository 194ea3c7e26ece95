use Rattle.jl_judge.proofs.OneLemmas.{one_tests}
use Rattle.jl_judge.proofs.laws.law_one_tests.Goals as goal

pub returns : goal.returns
returns c = one_tests
