use Rattle.jl_type_laws.proofs.SignedLemmas.{method_signature_good}
use Rattle.jl_type_laws.proofs.bodies.law_signature.Goals as goal

pub returns : goal.returns
returns c = method_signature_good
