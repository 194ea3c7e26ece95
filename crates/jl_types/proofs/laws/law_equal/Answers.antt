use Rattle.jl_model.specs.Ancestors.{table_of}
use Rattle.jl_model.proofs.SelfLemmas.{equal_self}
use Rattle.jl_model.proofs.TransLemmas.{equal_trans}
use Rattle.jl_model.proofs.DeclaredLemmas.{declared_lawful}
use Rattle.jl_types.proofs.laws.law_equal.Goals as goal

pub returns : goal.returns
returns c = record {
  reflexive = equal_self;
  symmetric = λ n t u e. (e.1, e.0);
  transitive = λ ds h. equal_trans (table_of ds) (declared_lawful ds h);
}
