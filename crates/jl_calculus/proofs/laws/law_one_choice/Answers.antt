use Rattle.jl_calculus.proofs.SelectLemmas.{selects_one}
use Rattle.jl_calculus.proofs.laws.law_one_choice.Goals as goal

pub returns : goal.returns
returns c = selects_one
