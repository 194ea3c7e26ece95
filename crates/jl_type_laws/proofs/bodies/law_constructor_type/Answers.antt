use Rattle.jl_type_laws.proofs.MadeLemmas.{made_seen}
use Rattle.jl_type_laws.proofs.bodies.law_constructor_type.Goals as goal

pub returns : goal.returns
returns g = λ t k d flags c f at p i xs s. made_seen t k d flags c s f at p i xs
