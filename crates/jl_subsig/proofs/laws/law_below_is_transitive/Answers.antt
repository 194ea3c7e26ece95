use Rattle.jl_subsig.proofs.OpenLemmas.{transitive, strictly, same}
use Rattle.jl_subsig.proofs.laws.law_below_is_transitive.Goals as goal

pub returns : goal.returns
returns c = record { below = transitive; strictly = strictly; same = same }
