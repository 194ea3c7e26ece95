-- The text that tokens are printed by: each with a space behind it, but a newline alone. A negative number that does not
-- stand in a prefix place, as behind a macro word, would be an operator and a number, so a newline stands before it, which
-- is no token in brackets.
use Rattle.std.specs.Prelude.{ℕ, ℤ, pos, negsuc, ◌≡◌, ◌<◌, ◌^◌, Bool, true, false, not, ◌&&◌, ◌||◌, ◌==◌, if◌then◌else◌, codes, List, [], ◌∷◌, ◌++◌, None, IsUtf8}
use Rattle.std.proofs.Math.Utf8.{scalars}
use Rattle.std.specs.Fmt.{signed_decimal}
use Rattle.std.specs.Str.{encode_utf8_all}
use Rattle.jl_token.specs.declared.token.Operator.{Operator}
use Rattle.jl_token.specs.Grammar.{spelling, IsWord}
use Rattle.jl_token.specs.Prefix.{is_closing_bracket}
use Rattle.jl_grammar.specs.declared.mark.Around.{Around}
use Rattle.jl_grammar.specs.declared.mark.Previous.{Previous}
use Rattle.jl_grammar.specs.Newlines.{around_after, previous_after, is_shown, is_dropped}
use Rattle.jl_typeread.specs.declared.terminal.Terminal.{Terminal}
use Rattle.jl_typeread.specs.declared.terminal.Terminal.TheVariants as S
use Rattle.jl_typeread.specs.Lexemes.{reserved_word}
use Rattle.jl_typeread.specs.declared.terminal.Word.{Word}
use Rattle.jl_typeread.specs.declared.terminal.Word.TheVariants as w

-- the bytes of a reserved word that has a rule
abbrev pub word_text : Word → List ℕ
word_text w.Abstract = codes "abstract"
word_text w.Struct = codes "struct"
word_text w.Function = codes "function"
word_text w.End = codes "end"
word_text w.If = codes "if"
word_text w.Elseif = codes "elseif"
word_text w.Else = codes "else"
word_text w.Begin = codes "begin"
word_text w.Quote = codes "quote"
word_text w.Return = codes "return"
word_text w.Where = codes "where"
word_text w.True = codes "true"
word_text w.False = codes "false"
word_text w.Nothing = codes "nothing"
word_text w.Isa = codes "isa"
word_text w.Unruled = []

-- `"`, `\` and `$` do not stand for themselves in a string
abbrev pub is_special : ℕ → Bool
is_special b = (b == 34) || (b == 92) || (b == 36)

-- a byte of a string, behind a backslash where it would not stand for itself
abbrev pub escape_byte : ℕ → List ℕ
escape_byte b = if is_special b then 92 ∷ b ∷ [] else b ∷ []

-- the bytes of a string between its quotes
abbrev pub escape_text : List ℕ → List ℕ
escape_text [] = []
escape_text (b ∷ bs) = escape_byte b ++ escape_text bs

-- the bytes of an operator
abbrev pub operator_text : Operator → List ℕ
operator_text x = encode_utf8_all (spelling x)

-- a token, and the space behind it
abbrev pub terminal_text : Terminal → List ℕ
terminal_text (S.Name n) = n ++ 32 ∷ []
terminal_text (S.Word x) = word_text x ++ 32 ∷ []
terminal_text (S.Number n) = signed_decimal n ++ 32 ∷ []
terminal_text (S.Text t) = 34 ∷ (escape_text t ++ 34 ∷ 32 ∷ [])
terminal_text (S.Macro n) = 64 ∷ (n ++ 32 ∷ [])
terminal_text (S.Operator x) = operator_text x ++ 32 ∷ []
terminal_text S.Newline = 10 ∷ []
terminal_text S.End = []

abbrev pub is_negative_number : ℤ → Bool
is_negative_number (pos n) = false
is_negative_number (negsuc n) = true

-- a number below 0
abbrev pub is_negative : Terminal → Bool
is_negative (S.Number n) = is_negative_number n
is_negative s = false

-- the place behind this word is a prefix place
abbrev pub is_prefix_word : Word → Bool
is_prefix_word w.End = false
is_prefix_word w.True = false
is_prefix_word w.False = false
is_prefix_word w.Nothing = false
is_prefix_word x = true

-- the place behind a token of this terminal is a prefix place
abbrev pub is_prefix : Terminal → Bool
is_prefix (S.Operator x) = not (is_closing_bracket x)
is_prefix (S.Word x) = is_prefix_word x
is_prefix S.Newline = true
is_prefix s = false

-- what stands before a token, in a prefix place or not
abbrev pub gap : Bool → Terminal → List ℕ
gap free s = if is_negative s && not free then 10 ∷ [] else []

-- the text of tokens, in a prefix place or not
abbrev pub text_from : Bool → List Terminal → List ℕ
text_from free [] = []
text_from free (s ∷ ss) = gap free s ++ (terminal_text s ++ text_from (is_prefix s) ss)

abbrev pub text_of : List Terminal → List ℕ
text_of = text_from true

-- ---- what has a spelling

abbrev pub is_ruled : Word → Bool
is_ruled w.Unruled = false
is_ruled x = true

abbrev pub IsNumber : ℤ → Type 0
IsNumber (pos n) = n < 2 ^ 63
IsNumber (negsuc n) = n < 2 ^ 63

-- the bytes are those of an identifier
abbrev pub IsIdentifier : List ℕ → Type 0
IsIdentifier n = (v : List ℕ) × (scalars v ≡ true) × IsWord v × (n ≡ encode_utf8_all v)

-- a source can have a token of this sign
abbrev pub IsSpellable : Terminal → Type 0
IsSpellable (S.Name n) = IsIdentifier n × (reserved_word n ≡ None)
IsSpellable (S.Word x) = is_ruled x ≡ true
IsSpellable (S.Number n) = IsNumber n
IsSpellable (S.Text t) = IsUtf8 t
IsSpellable (S.Macro n) = IsIdentifier n
IsSpellable (S.Operator x) = Unit {0}
IsSpellable S.Newline = Unit {0}
IsSpellable S.End = ⊥

-- the tokens of the text, the newlines before negative numbers among them
abbrev pub spread : Bool → List Terminal → List Terminal
spread free [] = []
spread free (s ∷ ss) = if is_negative s && not free then S.Newline ∷ s ∷ spread (is_prefix s) ss else s ∷ spread (is_prefix s) ss

-- ---- newlines

-- where these forms are open, behind this, in a prefix place or not: each newline is a token, and a negative number stands
-- in no prefix place only where a newline is no token
abbrev pub Stays : Bool → List Around → Previous → List Terminal → Type 0
Stays free ns p [] = Unit {0}
Stays free ns p (s ∷ ss) =
    (is_shown s ns p ≡ true) × (((is_negative s && not free) && not (is_dropped ns p)) ≡ false) × Stays (is_prefix s) (around_after s ns) (previous_after s ns p) ss
