use Rattle.jl_grammar.proofs.Wrong.{end_is_wrong}
use Rattle.jl_grammar.proofs.laws.law_wrong_end.Goals as goal

pub returns : goal.returns
returns c = λ ts p s n e w. end_is_wrong ts p s n e w
