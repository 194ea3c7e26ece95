use Rattle.jl_calculus.proofs.SomeAnswers.{choice_one, choice_is_there, bindings_long}
use Rattle.jl_calculus.proofs.answer_laws.law_choice_is_one.Goals as goal

pub returns : goal.returns
returns c = record { one = choice_one; there = choice_is_there; bindings = bindings_long }
