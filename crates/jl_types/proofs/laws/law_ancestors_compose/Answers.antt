use Rattle.jl_model.specs.Ancestors.{table_of}
use Rattle.jl_model.proofs.TransLemmas.{lifted_again}
use Rattle.jl_model.proofs.DeclaredLemmas.{declared_lawful}
use Rattle.jl_types.proofs.laws.law_ancestors_compose.Goals as goal

pub returns : goal.returns
returns c = λ ds h. lifted_again (table_of ds) (declared_lawful ds h)
