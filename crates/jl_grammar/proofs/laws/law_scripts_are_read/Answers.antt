use Rattle.jl_grammar.proofs.SpelledItems.{read_script}
use Rattle.jl_grammar.proofs.laws.law_scripts_are_read.Goals as goal

pub returns : goal.returns
returns c = λ xs ts p d. read_script xs ts d p
