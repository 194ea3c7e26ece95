use Rattle.jl_valid.proofs.TreeLemmas.{expr_good}
use Rattle.jl_valid.proofs.laws.law_expression.Goals as goal

pub returns : goal.returns
returns c = expr_good
