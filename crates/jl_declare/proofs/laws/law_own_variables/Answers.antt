use Rattle.jl_declare.proofs.Owned.{own_variables}
use Rattle.jl_declare.proofs.laws.law_own_variables.Goals as goal

pub returns : goal.returns
returns c = λ ds k h fields declared w. own_variables ds declared k h fields w
