use Rattle.jl_type_laws.proofs.SignedLemmas.{deleted_signature_good}
use Rattle.jl_type_laws.proofs.bodies.law_deleted_signature.Goals as goal

pub returns : goal.returns
returns c = deleted_signature_good
