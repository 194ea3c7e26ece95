use Rattle.std.proofs.Common.{rules}
use Rattle.jl_marks.proofs.PairLemmas.{unpaired}
use Rattle.jl_marks.proofs.tokens.MarkedTokens.pop.Goals as goal

pub returns-in_err-lexeme : goal.returns-in_err-lexeme
returns-in_err-lexeme c =
    let before = unpaired c.self.inside.marks c.self.inside.lexemes c.in_err-lexeme.ensures.cases.0 in
    let after = unpaired c.pop.new.self c.next.new.self c.in_err-lexeme.ensures.cases.1 in
    search rules
