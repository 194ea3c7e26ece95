use Rattle.jl_model.specs.Ancestors.{table_of}
use Rattle.jl_model.proofs.NormalLemmas.{normal_same}
use Rattle.jl_model.proofs.DeclaredLemmas.{declared_lawful}
use Rattle.jl_types.proofs.laws.law_normal.Goals as goal

pub returns : goal.returns
returns c = λ ds h a b p q e. normal_same (table_of ds) (declared_lawful ds h) a p b q e
