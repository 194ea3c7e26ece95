use Rattle.jl_script_laws.proofs.Faultless.{faultless}
use Rattle.jl_script_laws.proofs.laws.law_faultless.Goals as goal

pub returns : goal.returns
returns c = faultless
