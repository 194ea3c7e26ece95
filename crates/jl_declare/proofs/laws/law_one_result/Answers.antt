use Rattle.jl_declare.proofs.OneResult.{one_result}
use Rattle.jl_declare.proofs.laws.law_one_result.Goals as goal

pub returns : goal.returns
returns c = λ items d e p q. one_result items d e p q
