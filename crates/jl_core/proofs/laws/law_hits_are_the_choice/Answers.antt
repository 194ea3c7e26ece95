use Rattle.jl_core.proofs.ReachedLemmas.{rows_right, hits_right}
use Rattle.jl_core.proofs.laws.law_hits_are_the_choice.Goals as goal

pub returns : goal.returns
returns c = record { rows = rows_right; hits = hits_right }
