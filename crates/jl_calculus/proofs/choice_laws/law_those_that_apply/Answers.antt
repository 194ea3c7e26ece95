use Rattle.jl_calculus.proofs.MethodLemmas.{those_select}
use Rattle.jl_calculus.proofs.choice_laws.law_those_that_apply.Goals as goal

pub returns : goal.returns
returns c = those_select
