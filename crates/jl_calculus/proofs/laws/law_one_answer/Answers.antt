use Rattle.jl_calculus.proofs.AnswerLemmas.{test_once, order_once, same_once}
use Rattle.jl_calculus.proofs.laws.law_one_answer.Goals as goal

pub returns : goal.returns
returns c = record { test = test_once; order = order_once; identity = same_once }
