use Rattle.jl_causes.proofs.LegalLemmas.{legal_has_no_cause}
use Rattle.jl_causes.proofs.laws.law_legal_has_no_cause.Goals as goal

pub returns : goal.returns
returns c = legal_has_no_cause
