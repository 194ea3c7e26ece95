use Rattle.jl_causes.proofs.KeyLemmas.{keys_apart}
use Rattle.jl_causes.proofs.key_laws.law_keys_apart.Goals as goal

pub returns : goal.returns
returns c = keys_apart
