use Rattle.jl_type_laws.proofs.KnownMore.{declared_known}
use Rattle.jl_type_laws.proofs.declarations.law_declared_bounds.Goals as goal

pub returns : goal.returns
returns c = declared_known
