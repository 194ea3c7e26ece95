use Rattle.jl_grammar.proofs.Wrong.{token_is_wrong}
use Rattle.jl_grammar.proofs.laws.law_first_wrong_token.Goals as goal

pub returns : goal.returns
returns c = λ ts us t s n e w. token_is_wrong ts us t s n e w
