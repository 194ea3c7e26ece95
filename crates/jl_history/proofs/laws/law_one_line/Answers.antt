use Rattle.jl_history.proofs.WholeLemmas.{one_line}
use Rattle.jl_history.proofs.laws.law_one_line.Goals as goal

pub returns : goal.returns
returns c = one_line
