use Rattle.jl_subsig.proofs.GlueLemmas.{bounds_ordered}
use Rattle.jl_subsig.proofs.laws.law_bounds_in_order.Goals as goal

pub returns : goal.returns
returns c = bounds_ordered
