use Rattle.jl_operations.proofs.ConditionLemmas.{statics_have, bindings_are}
use Rattle.jl_operations.proofs.laws.law_statics.Goals as goal

pub returns-clause-bound : goal.returns-clause-bound
returns-clause-bound c ds declared s vs a = bindings_are ds declared s vs a

pub returns-clause-put : goal.returns-clause-put
returns-clause-put c ds usable ts h = statics_have ds usable ts h
