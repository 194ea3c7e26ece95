use Rattle.jl_calculus.proofs.ThereAnswers.{below_known, tuple_there, struct_there}
use Rattle.jl_calculus.proofs.answer_laws.law_made_is_there.Goals as goal

pub returns : goal.returns
returns c = record { below = below_known; tuple = tuple_there; exact = struct_there }
