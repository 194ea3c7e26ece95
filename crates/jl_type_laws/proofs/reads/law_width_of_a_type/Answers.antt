use Rattle.jl_type_laws.proofs.WideLemmas.{width_is}
use Rattle.jl_type_laws.proofs.reads.law_width_of_a_type.Goals as goal

pub returns : goal.returns
returns c = width_is
