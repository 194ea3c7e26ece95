-- Where a `-` before a digit is the sign of a number.
use Rattle.std.specs.Prelude.{ℕ, Bool, true, false, not, List, [], ◌∷◌}
use Rattle.std.specs.List.{list_any}
use Rattle.std.specs.Str.{bytes_eq}
use lib.Chars.{codes}
use Rattle.jl_token.specs.declared.token.Operator.{Operator}
use Rattle.jl_token.specs.declared.token.Operator.TheVariants as op
use Rattle.jl_token.specs.declared.token.TokenKind.{TokenKind}
use Rattle.jl_token.specs.declared.token.TokenKind.TheVariants as kind

-- `)`, `]` or `}`
abbrev pub is_closing_bracket : Operator → Bool
is_closing_bracket op.CloseParen = true
is_closing_bracket op.CloseBracket = true
is_closing_bracket op.CloseBrace = true
is_closing_bracket _ = false

-- the reserved words but `end`, `true`, `false` and `nothing`
abbrev pub opening_words : List (List ℕ)
opening_words =
    codes "abstract" ∷ codes "struct" ∷ codes "function" ∷ codes "if" ∷ codes "elseif" ∷ codes "else" ∷ codes "begin" ∷ codes "quote" ∷ codes "return" ∷ codes "where" ∷ codes "isa"
    ∷ codes "for" ∷ codes "while" ∷ codes "try" ∷ codes "catch" ∷ codes "finally" ∷ codes "let" ∷ codes "do" ∷ codes "mutable" ∷ codes "primitive" ∷ codes "module" ∷ codes "baremodule"
    ∷ codes "import" ∷ codes "using" ∷ codes "export" ∷ codes "const" ∷ codes "global" ∷ codes "local" ∷ codes "macro" ∷ codes "break" ∷ codes "continue" ∷ []

-- the word is one of them
abbrev pub is_opening_word : List ℕ → Bool
is_opening_word word = list_any (λ opening. bytes_eq opening word) opening_words

-- behind this token is a prefix place: a newline, an operator but a closing bracket, or such a word
abbrev pub is_prefix_after : TokenKind → Bool
is_prefix_after kind.Newline = true
is_prefix_after (kind.Operator operator) = not (is_closing_bracket operator)
is_prefix_after (kind.Identifier word) = is_opening_word word
is_prefix_after _ = false
