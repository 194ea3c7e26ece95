use Rattle.jl_calculus.proofs.ChoiceLaws.{one_best, determined}
use Rattle.jl_calculus.proofs.choice_laws.law_one_chosen.Goals as goal

pub returns : goal.returns
returns c = record { best = one_best; choice = determined }
