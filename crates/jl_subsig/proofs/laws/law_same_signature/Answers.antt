use Rattle.jl_subsig.proofs.ReflexiveLemmas.{reflexive}
use Rattle.jl_subsig.proofs.laws.law_same_signature.Goals as goal

pub returns : goal.returns
returns c = record { reflexive = λ n a s. (reflexive n a s, reflexive n a s); symmetric = λ n a b s. (s.1, s.0) }
