use Rattle.jl_causes.proofs.KeyLemmas.{types_are_read}
use Rattle.jl_causes.proofs.key_laws.law_types_are_read.Goals as goal

pub returns : goal.returns
returns c = types_are_read
