use Rattle.jl_script_laws.proofs.Faultless.{program_valid}
use Rattle.jl_script_laws.proofs.laws.law_program.Goals as goal

pub returns : goal.returns
returns c = program_valid
