use Rattle.jl_valid.proofs.TreeLemmas.{method_good}
use Rattle.jl_valid.proofs.laws.law_method.Goals as goal

pub returns : goal.returns
returns c = method_good
