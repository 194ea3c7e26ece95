use Rattle.jl_calculus.proofs.ApplyLemmas.{applicable_choose}
use Rattle.jl_calculus.proofs.choice_laws.law_applicable_choose.Goals as goal

pub returns : goal.returns
returns c = applicable_choose
