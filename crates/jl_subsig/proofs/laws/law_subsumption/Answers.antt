use Rattle.jl_model.specs.Ancestors.{table_of}
use Rattle.jl_model.proofs.DeclaredLemmas.{declared_lawful}
use Rattle.jl_subsume.proofs.SubsumeLemmas.{subsumed}
use Rattle.jl_subsig.proofs.laws.law_subsumption.Goals as goal

pub returns : goal.returns
returns c = λ ds h. subsumed (table_of ds) (declared_lawful ds h)
