use Rattle.jl_calculus.proofs.SomeAnswers.{test_one, order_one, same_one}
use Rattle.jl_calculus.proofs.answer_laws.law_test_is_one.Goals as goal

pub returns : goal.returns
returns c = record { test = test_one; order = order_one; identity = same_one }
