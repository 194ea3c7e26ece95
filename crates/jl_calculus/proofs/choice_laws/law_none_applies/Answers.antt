use Rattle.jl_calculus.proofs.ChoiceLaws.{none_apply, none_chosen}
use Rattle.jl_calculus.proofs.choice_laws.law_none_applies.Goals as goal

pub returns : goal.returns
returns c = λ n ms ts. (none_chosen n ms ts, none_apply n ms ts)
