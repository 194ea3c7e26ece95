use Rattle.std.proofs.Common.{◌≡◌, ◌++◌, map, drop}
use Rattle.jl_typeread.specs.Lexemes.{lexeme_of}
use Rattle.jl_grammar.specs.Newlines.{drop_newlines, drop_newlines_from}
use Rattle.jl_marks.proofs.newlines.drop_newlines.Given as goal

-- what the grammar sees so far, with what it sees of the tokens that are left, is all that it sees
abbrev pub invariant-loop-token : goal.invariant-loop-token
invariant-loop-token l = l.lexemes.items ++ drop_newlines_from l.around l.previous (map lexeme_of (drop l.token-index l.tokens)) ≡ drop_newlines (map lexeme_of l.tokens)
