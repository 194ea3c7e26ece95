use Rattle.jl_history.proofs.WholeLemmas.{one_text}
use Rattle.jl_history.proofs.laws.law_one_text.Goals as goal

pub returns : goal.returns
returns c = one_text
