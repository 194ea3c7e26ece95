use Rattle.jl_io.specs.Faults.{Rose}
use Rattle.jl_embed.proofs.LawLemmas.{complete_law}
use Rattle.jl_embed.proofs.laws.law_complete.Goals as goal

pub returns : goal.returns
returns c = λ words count allows left left' held held' s s' k k'. complete_law count allows held held' words left left' (Rose s s') (Rose k k')
