use Rattle.jl_calculus.proofs.RunGrowth.{run_on}
use Rattle.jl_calculus.proofs.history_laws.law_runs_stay.Goals as goal

pub returns : goal.returns
returns c = run_on
