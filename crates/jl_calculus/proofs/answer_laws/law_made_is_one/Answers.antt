use Rattle.jl_calculus.proofs.SomeAnswers.{tuple_one, struct_one, written_one, inferred_one}
use Rattle.jl_calculus.proofs.answer_laws.law_made_is_one.Goals as goal

pub returns : goal.returns
returns c = record { tuple = tuple_one; exact = struct_one; written = written_one; inferred = inferred_one }
