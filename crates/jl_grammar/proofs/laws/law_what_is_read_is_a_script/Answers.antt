use Rattle.jl_grammar.proofs.Whole.{script_ends}
use Rattle.jl_grammar.proofs.laws.law_what_is_read_is_a_script.Goals as goal

pub returns : goal.returns
returns c = λ ts p s n e. script_ends ts p s n e
