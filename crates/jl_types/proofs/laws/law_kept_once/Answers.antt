use Rattle.jl_model.specs.Ancestors.{table_of}
use Rattle.jl_model.proofs.DeclaredLemmas.{declared_lawful}
use Rattle.jl_types.proofs.KeptOnceLemmas.{settled_same}
use Rattle.jl_types.proofs.laws.law_kept_once.Goals as goal

pub returns : goal.returns
returns c = λ ds h t u v p q. settled_same (table_of ds) (declared_lawful ds h) t u v p q
