use Rattle.jl_calculus.proofs.AnswerLemmas.{tuple_once, written_once, inferred_once}
use Rattle.jl_calculus.proofs.laws.law_one_made.Goals as goal

pub returns : goal.returns
returns c = record { tuple = tuple_once; written = written_once; inferred = inferred_once }
