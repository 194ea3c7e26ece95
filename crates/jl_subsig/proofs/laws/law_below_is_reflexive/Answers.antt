use Rattle.jl_subsig.proofs.ReflexiveLemmas.{reflexive}
use Rattle.jl_subsig.proofs.laws.law_below_is_reflexive.Goals as goal

pub returns : goal.returns
returns c = reflexive
