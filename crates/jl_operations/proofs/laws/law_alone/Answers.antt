use Rattle.jl_operations.proofs.PreparedLemmas.{alone_stays}
use Rattle.jl_operations.proofs.laws.law_alone.Goals as goal

pub returns : goal.returns
returns c P statics t h own = alone_stays statics t own
