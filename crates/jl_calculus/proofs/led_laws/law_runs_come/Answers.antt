use Rattle.jl_calculus.proofs.RunComes.{run_comes}
use Rattle.jl_calculus.proofs.led_laws.law_runs_come.Goals as goal

pub returns : goal.returns
returns c = run_comes
