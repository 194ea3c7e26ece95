use Rattle.jl_core.proofs.CutLemmas.{parts_reached}
use Rattle.jl_core.proofs.laws.law_parts_are_reached.Goals as goal

pub returns : goal.returns
returns c = parts_reached
