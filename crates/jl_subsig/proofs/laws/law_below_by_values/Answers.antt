use Rattle.jl_subsig.proofs.ByValuesLemmas.{by_values, below_from_values}
use Rattle.jl_subsig.proofs.laws.law_below_by_values.Goals as goal

pub returns : goal.returns
returns c = record { complete = by_values; sound = below_from_values }
