use Rattle.jl_type_laws.proofs.BodyLemmas.{body_seen}
use Rattle.jl_type_laws.proofs.bodies.law_body_type.Goals as goal

pub returns : goal.returns
returns g = λ t k d flags c f text s. body_seen t k d flags c s f text
