-- What the functions of this crate find at the front of a text: a token, or what stands between tokens; or a fault. The
-- public contracts speak of the grammar alone.
use Rattle.std.specs.Prelude.{◌≡◌, ℕ, Bool, false, ◌&&◌, ◌==◌, nat_lt, if◌then◌else◌, List, [], ◌∷◌, Option, Some, None, Result, Ok, Err, pos}
use Rattle.std.specs.Char.{is_ascii_digit}
use Rattle.std.specs.Str.{encode_utf8_all}
use Rattle.jl_token.specs.declared.token.TokenKind.{TokenKind}
use Rattle.jl_token.specs.declared.token.TokenKind.TheVariants as kind
use Rattle.jl_token.specs.declared.token.TokenFault.{TokenFault}
use Rattle.jl_token.specs.declared.token.TokenFault.TheVariants as fault
use Rattle.jl_token.specs.Characters.{is_word_start, is_blank, is_wrong_after_number, has_first, place}
use Rattle.jl_token.specs.Reading.{word, after_word, after_line, after_comment, after_string, unescape, digits}
use Rattle.jl_token.specs.Grammar.{negate}
use Rattle.jl_token.specs.Operators.{by, rest_after, operator}

-- a token and what follows it, or a fault
abbrev pub Found : Type 0
Found = Result (TokenKind × List ℕ) TokenFault

-- the fault that a function returned is what reading gives, unless memory ran out
abbrev pub Fails : {Y : Type 0} → TokenFault → Result Y TokenFault → Type 0
Fails fault.Memory read = Unit {0}
Fails f read = read ≡ Err f

-- what a function returned, seen by view, is what reading gives, unless memory ran out
abbrev pub Gives : {X Y : Type 0} → (X → Y) → Result X TokenFault → Result Y TokenFault → Type 0
Gives view (Ok x) read = read ≡ Ok (view x)
Gives view (Err e) read = Fails e read

-- a value of at most this size and what follows it, of a number that begins at `from`, its sign included
abbrev pub limit_value : ℕ → List ℕ → ℕ → ℕ × List ℕ → Result (ℕ × List ℕ) TokenFault
limit_value bytes from most found =
    if nat_lt most found.0 then Err (fault.NumberTooLarge (place bytes from))
    else (if has_first is_wrong_after_number found.1 then Err (fault.BadCharacter (place bytes found.1)) else Ok found)

-- the same of the digits at the front of a text
abbrev pub magnitude : ℕ → List ℕ → ℕ → List ℕ → Result (ℕ × List ℕ) TokenFault
magnitude bytes from most text = limit_value bytes from most (digits 0 text)

-- a token of what was read, or the same fault
abbrev pub as_kind : {A : Type 0} → (A → TokenKind) → Result (A × List ℕ) TokenFault → Found
as_kind make (Ok x) = Ok (make x.0, x.1)
as_kind make (Err f) = Err f

-- a number, and a number with its sign, whose digits stand at the front of `rest`
abbrev pub number : ℕ → List ℕ → Found
number bytes text = as_kind (λ n. kind.Number (pos n)) (magnitude bytes text 9223372036854775807 text)

abbrev pub negative_number : ℕ → List ℕ → List ℕ → Found
negative_number bytes text rest = as_kind (λ n. kind.Negative (negate n)) (magnitude bytes text 9223372036854775808 rest)

-- a string before this rest, by what its text stands for
abbrev pub text_of : ℕ → List ℕ → Result (List ℕ) (List ℕ) → Found
text_of bytes rest (Ok meant) = Ok (kind.Text meant, rest)
text_of bytes rest (Err wrong) = Err (fault.BadCharacter (place bytes wrong))

-- the string whose text behind its quote is `body`
abbrev pub string : ℕ → List ℕ → List ℕ → Found
string bytes text body = by (after_string false body) (Err (fault.OpenString (place bytes text))) (λ rest. text_of bytes rest (unescape body))

-- an identifier of this first character and this rest
abbrev pub identifier_as : (List ℕ → TokenKind) → ℕ → List ℕ → TokenKind × List ℕ
identifier_as make c cs = (make (encode_utf8_all (c ∷ word cs)), after_word cs)

-- the macro word whose identifier stands behind its `@`
abbrev pub macro_word : ℕ → List ℕ → List ℕ → Found
macro_word bytes text [] = Err (fault.BadCharacter (place bytes text))
macro_word bytes text (c ∷ cs) = if is_word_start c then Ok (identifier_as kind.Macro c cs) else Err (fault.BadCharacter (place bytes text))

-- an operator, or the fault of a character that begins nothing
abbrev pub operator_of : ℕ → ℕ → List ℕ → Found
operator_of bytes c cs = by (operator c cs) (Err (fault.BadCharacter (place bytes (c ∷ cs)))) (λ found. Ok (kind.Operator found.0, found.1))

-- the token of this first character and this rest
abbrev pub token : ℕ → Bool → ℕ → List ℕ → Found
token bytes prefix c cs =
    if is_word_start c then Ok (identifier_as kind.Identifier c cs)
    else (if is_ascii_digit c then number bytes (c ∷ cs)
    else (if c == 10 then Ok (kind.Newline, cs)
    else (if c == 34 then string bytes (c ∷ cs) cs
    else (if c == 64 then macro_word bytes (c ∷ cs) cs
    else (if (c == 45) && (prefix && has_first is_ascii_digit cs) then negative_number bytes (c ∷ cs) cs else operator_of bytes c cs)))))

-- a token or nothing, and what follows; or a fault
abbrev pub Piece : Type 0
Piece = Result (Option TokenKind × List ℕ) TokenFault

-- the comment of this text, whose rest behind its `#` is `rest`
abbrev pub comment : ℕ → List ℕ → List ℕ → Piece
comment bytes text rest =
    by (rest_after 61 rest) (Ok (None, after_line rest)) (λ body. by (after_comment 0 body) (Err (fault.OpenComment (place bytes text))) (λ after. Ok (None, after)))

-- a token as a piece
abbrev pub as_piece : Found → Piece
as_piece (Ok x) = Ok (Some x.0, x.1)
as_piece (Err f) = Err f

-- the piece at the front of a text
abbrev pub piece : ℕ → Bool → List ℕ → Piece
piece bytes prefix [] = Ok (None, [])
piece bytes prefix (c ∷ cs) =
    if is_blank c then Ok (None, cs)
    else (if c == 35 then comment bytes (c ∷ cs) cs else as_piece (token bytes prefix c cs))
