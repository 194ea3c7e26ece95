use Rattle.jl_valid.proofs.LawLemmas.{laws_hold}
use Rattle.jl_valid.proofs.laws.law_types.Goals as goal

pub returns : goal.returns
returns c = laws_hold
