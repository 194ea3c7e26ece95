use Rattle.jl_grammar.proofs.SpelledItems.{one_script}
use Rattle.jl_grammar.proofs.laws.law_one_script.Goals as goal

pub returns : goal.returns
returns c = λ xs ys ts p q. one_script xs ys ts p q
