use Rattle.jl_calculus.proofs.ValueLemmas.{value_back, datum_back}
use Rattle.jl_calculus.proofs.laws.law_one_value.Goals as goal

pub returns : goal.returns
returns c = (value_back, datum_back)
