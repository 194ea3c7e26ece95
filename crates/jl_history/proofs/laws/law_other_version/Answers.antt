use Rattle.jl_history.proofs.WholeLemmas.{other_version}
use Rattle.jl_history.proofs.laws.law_other_version.Goals as goal

pub returns : goal.returns
returns c = other_version
