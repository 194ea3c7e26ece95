use Rattle.jl_io.specs.Faults.{Rose}
use Rattle.jl_embed.proofs.LawLemmas.{begun_law, unread_law, unwritten_law}
use Rattle.jl_embed.proofs.laws.law_begun.Goals as goal

pub returns-clause-begun : goal.returns-clause-begun
returns-clause-begun c = λ words count allows left left' held held' s s' k k'. begun_law count allows held held' words left left' (Rose s s') (Rose k k')

pub returns-clause-unread : goal.returns-clause-unread
returns-clause-unread c = λ words count allows left left' held held' s s' k k'. unread_law count allows held held' words left left' (Rose s s') (Rose k k')

pub returns-clause-unwritten : goal.returns-clause-unwritten
returns-clause-unwritten c = λ words count allows left left' held held' s s' k k'. unwritten_law count allows held held' words left left' (Rose s s') (Rose k k')
