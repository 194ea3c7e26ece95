use Rattle.jl_subsig.proofs.ValuesLemmas.{values_are_found}
use Rattle.jl_subsig.proofs.laws.law_values_are_found.Goals as goal

pub returns : goal.returns
returns c = values_are_found
