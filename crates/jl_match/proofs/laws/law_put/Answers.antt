use Rattle.jl_model.proofs.DeclaredLemmas.{declared_lawful}
use Rattle.jl_model.specs.Ancestors.{table_of}
use Rattle.jl_match.proofs.SubstLemmas.{put_below}
use Rattle.jl_match.proofs.laws.law_put.Goals as goal

pub returns : goal.returns
returns c ds declared f t u b = put_below (table_of ds) (declared_lawful ds declared) f t u b
