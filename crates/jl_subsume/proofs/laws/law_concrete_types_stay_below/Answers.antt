use Rattle.jl_model.specs.Ancestors.{table_of}
use Rattle.jl_model.proofs.DeclaredLemmas.{declared_lawful}
use Rattle.jl_subsume.proofs.SubsumeLemmas.{subsumed}
use Rattle.jl_subsume.proofs.laws.law_concrete_types_stay_below.Goals as goal

pub returns : goal.returns
returns c = λ ds h. subsumed (table_of ds) (declared_lawful ds h)
