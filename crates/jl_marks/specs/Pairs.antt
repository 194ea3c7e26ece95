-- Tokens with the marks that have their places.
use Rattle.std.specs.Prelude.{List, [], ◌∷◌}
use Rattle.jl_typeread.specs.declared.terminal.Lexeme.{Lexeme}
use Rattle.jl_grammar.specs.declared.mark.Marked.{Marked}
use Rattle.jl_grammar.specs.declared.mark.Marks.{Marks}

-- each token with its marks, up to the last that has some
abbrev pub pair_marks : List Marks → List Lexeme → List Marked
pair_marks [] ls = []
pair_marks (m ∷ ms) [] = []
pair_marks (m ∷ ms) (l ∷ ls) = record { lexeme = l; marks = m } ∷ pair_marks ms ls
