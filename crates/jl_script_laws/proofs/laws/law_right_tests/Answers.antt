use Rattle.jl_script_laws.proofs.RightLemmas.{told}
use Rattle.jl_script_laws.proofs.laws.law_right_tests.Goals as goal

pub returns : goal.returns
returns c = told
