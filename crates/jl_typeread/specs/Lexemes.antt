-- What the grammars see of a token.
use Rattle.std.specs.Prelude.{ℕ, Bool, if◌then◌else◌, codes, bytes_eq, List, [], ◌∷◌, map, Option, Some, None}
use Rattle.std.specs.List.{list_any}
use Rattle.jl_token.specs.declared.token.Token.{Token}
use Rattle.jl_token.specs.declared.token.TokenKind.{TokenKind}
use Rattle.jl_token.specs.declared.token.TokenKind.TheVariants as kind
use Rattle.jl_typeread.specs.declared.terminal.Word.{Word}
use Rattle.jl_typeread.specs.declared.terminal.Word.TheVariants as word
use Rattle.jl_typeread.specs.declared.terminal.Terminal.{Terminal}
use Rattle.jl_typeread.specs.declared.terminal.Terminal.TheVariants as S
use Rattle.jl_typeread.specs.declared.terminal.Lexeme.{Lexeme}

-- the reserved words that have no rule in the grammar
abbrev pub unruled_words : List (List ℕ)
unruled_words =
    codes "for" ∷ codes "while" ∷ codes "try" ∷ codes "catch" ∷ codes "finally" ∷ codes "let" ∷ codes "do" ∷ codes "mutable" ∷ codes "primitive" ∷ codes "module" ∷ codes "baremodule"
    ∷ codes "import" ∷ codes "using" ∷ codes "export" ∷ codes "const" ∷ codes "global" ∷ codes "local" ∷ codes "macro" ∷ codes "break" ∷ codes "continue" ∷ []

-- the word is one of them
abbrev pub is_unruled : List ℕ → Bool
is_unruled w = list_any (λ u. bytes_eq u w) unruled_words

-- the reserved words that begin a form
abbrev pub opening_word : List ℕ → Option Word
opening_word w =
    if bytes_eq w (codes "abstract") then Some word.Abstract
    else if bytes_eq w (codes "struct") then Some word.Struct
    else if bytes_eq w (codes "function") then Some word.Function
    else if bytes_eq w (codes "if") then Some word.If
    else if bytes_eq w (codes "begin") then Some word.Begin
    else if bytes_eq w (codes "quote") then Some word.Quote
    else if bytes_eq w (codes "return") then Some word.Return
    else if bytes_eq w (codes "where") then Some word.Where
    else None

-- the other reserved words with a rule
abbrev pub closing_word : List ℕ → Option Word
closing_word w =
    if bytes_eq w (codes "end") then Some word.End
    else if bytes_eq w (codes "elseif") then Some word.Elseif
    else if bytes_eq w (codes "else") then Some word.Else
    else if bytes_eq w (codes "true") then Some word.True
    else if bytes_eq w (codes "false") then Some word.False
    else if bytes_eq w (codes "nothing") then Some word.Nothing
    else if bytes_eq w (codes "isa") then Some word.Isa
    else None

-- the first of two answers that is one
abbrev pub first_of : Option Word → Option Word → Option Word
first_of (Some w) other = Some w
first_of None other = other

-- the reserved word that these bytes are
abbrev pub reserved_word : List ℕ → Option Word
reserved_word w = first_of (opening_word w) (first_of (closing_word w) (if is_unruled w then Some word.Unruled else None))

-- a reserved word, or the name of these bytes
abbrev pub name_unless : Option Word → List ℕ → Terminal
name_unless (Some w) name = S.Word w
name_unless None name = S.Name name

-- the terminal of an identifier
abbrev pub word_or_name : List ℕ → Terminal
word_or_name name = name_unless (reserved_word name) name

-- what the grammars see of a token: reserved words apart from names, and a number with its sign
abbrev pub terminal_of : TokenKind → Terminal
terminal_of (kind.Identifier name) = word_or_name name
terminal_of (kind.Number n) = S.Number n
terminal_of (kind.Negative n) = S.Number n
terminal_of (kind.Text text) = S.Text text
terminal_of (kind.Macro name) = S.Macro name
terminal_of (kind.Operator operator) = S.Operator operator
terminal_of kind.Newline = S.Newline
terminal_of kind.End = S.End

-- the same with its place
abbrev pub lexeme_of : Token → Lexeme
lexeme_of t = record { terminal = terminal_of t.kind; at = t.at }

-- the tokens of a text as the grammars see them
abbrev pub lexemes : List Token → List Lexeme
lexemes = map lexeme_of
