use Rattle.jl_model.specs.Ancestors.{table_of}
use Rattle.jl_model.proofs.DeclaredLemmas.{declared_lawful}
use Rattle.jl_subsig.proofs.KeptLemmas.{order_alike, types_alike}
use Rattle.jl_subsig.proofs.laws.law_equal_arguments.Goals as goal

pub returns : goal.returns
returns c = record {
  applicable = λ ds h a b x ts. types_alike (table_of ds) (declared_lawful ds h) a b ts x;
  below = λ ds h a b c d. order_alike (table_of ds) (declared_lawful ds h) a b c d;
}
