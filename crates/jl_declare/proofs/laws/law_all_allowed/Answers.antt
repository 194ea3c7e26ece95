use Rattle.jl_declare.proofs.Allowed.{all_allowed}
use Rattle.jl_declare.proofs.laws.law_all_allowed.Goals as goal

pub returns : goal.returns
returns c = λ items d h n. all_allowed items d h n
