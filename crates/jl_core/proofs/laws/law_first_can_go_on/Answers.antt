use Rattle.jl_core.proofs.ReachedLemmas.{first_knows, first_fetches, first_there}
use Rattle.jl_core.proofs.laws.law_first_can_go_on.Goals as goal

pub returns : goal.returns
returns c = record { knows = first_knows; fetches = first_fetches; there = first_there }
