use Rattle.jl_embed.proofs.LawLemmas.{answered_law, usage_law, refused_law, held_law}
use Rattle.jl_embed.proofs.laws.law_due.Goals as goal

pub returns-clause-answered : goal.returns-clause-answered
returns-clause-answered c = λ words count allows held held'. answered_law count allows held held' words

pub returns-clause-usage : goal.returns-clause-usage
returns-clause-usage c = λ words count allows held held'. usage_law count allows held held' words

pub returns-clause-refused : goal.returns-clause-refused
returns-clause-refused c = λ words count allows held held'. refused_law count allows held held' words

pub returns-clause-held : goal.returns-clause-held
returns-clause-held c = λ words count allows held held'. held_law count allows held held' words
