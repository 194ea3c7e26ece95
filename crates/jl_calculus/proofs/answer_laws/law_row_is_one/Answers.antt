use Rattle.jl_calculus.proofs.SomeAnswers.{cover_one, site_there}
use Rattle.jl_calculus.proofs.answer_laws.law_row_is_one.Goals as goal

pub returns : goal.returns
returns c = record { cover = cover_one; site = site_there }
