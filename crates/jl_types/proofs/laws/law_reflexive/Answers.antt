use Rattle.jl_model.proofs.SelfLemmas.{below_self}
use Rattle.jl_types.proofs.laws.law_reflexive.Goals as goal

pub returns : goal.returns
returns c = below_self
