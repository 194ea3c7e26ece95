use Rattle.jl_formed.proofs.Returns.{anywhere_expr}
use Rattle.jl_formed.proofs.laws.law_without_return.Goals as goal

pub returns : goal.returns
returns c = anywhere_expr
