use Rattle.jl_model.specs.Ancestors.{table_of}
use Rattle.jl_model.proofs.TransLemmas.{below_trans}
use Rattle.jl_model.proofs.DeclaredLemmas.{declared_lawful}
use Rattle.jl_types.proofs.laws.law_transitive.Goals as goal

pub returns : goal.returns
returns c = λ ds h. below_trans (table_of ds) (declared_lawful ds h)
