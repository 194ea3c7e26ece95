-- The grammar of tokens. A text is the list of its characters, by their codes. Here stands what text spells which token,
-- where a token may end, what stands between tokens, and where a text has its first fault.
-- The codes: 9 tab, 10 newline, 13 carriage return, 32 space, 34 `"`, 35 `#`, 36 `$`, 45 `-`, 46 `.`, 61 `=`, 64 `@`, 92 `\`, 95 `_`, 247 `÷`.
use Rattle.std.specs.Prelude.{◌≡◌, ℕ, zero, suc, ◌+◌, ◌-◌, ◌*◌, ◌^◌, ◌<◌, ◌≤◌, Bool, true, false, not, ◌&&◌, ◌||◌, ◌⊎◌, ◌==◌, List, [], ◌∷◌, ◌++◌, length, Some, None, Result, Ok, Err, ℤ, pos, negsuc}
use Rattle.std.specs.Char.{is_ascii_digit, encode_utf8}
use Rattle.std.specs.List.{AllByRecursion}
use Rattle.std.specs.Str.{encode_utf8_all, chars, IsUtf8, IsValidUpTo}
use Rattle.jl_model.specs.declared.limits.TheConstants.{MOST_SOURCE_BYTES}
use lib.Chars.{codes}
use Rattle.jl_token.specs.declared.token.Operator.{Operator}
use Rattle.jl_token.specs.declared.token.Operator.TheVariants as op
use Rattle.jl_token.specs.declared.token.Token.{Token}
use Rattle.jl_token.specs.declared.token.TokenKind.{TokenKind}
use Rattle.jl_token.specs.declared.token.TokenKind.TheVariants as kind
use Rattle.jl_token.specs.declared.token.TokenFault.{TokenFault}
use Rattle.jl_token.specs.declared.token.TokenFault.TheVariants as fault
use Rattle.jl_token.specs.Characters.{is_word_start, is_word_part, is_blank, is_wrong_after_number, escape, is_comment_end, is_comment_start, has_first, place}
use Rattle.jl_token.specs.Prefix.{is_prefix_after}

-- ---- what text spells which token

-- an identifier: a character that may begin one, and any number that may continue it
abbrev pub IsWord : List ℕ → Type 0
IsWord [] = ⊥
IsWord (c ∷ cs) = (is_word_start c ≡ true) × AllByRecursion (λ d. is_word_part d ≡ true) cs

-- ASCII digits with single `_` between digits, and the number that they write
pub data Numeral : List ℕ → ℕ → Type 0 where
  -- one digit
  digit : (c : ℕ) → is_ascii_digit c ≡ true → Numeral (c ∷ []) (c - 48)
  -- a digit more
  digit_more : (w : List ℕ) (n c : ℕ) → Numeral w n → is_ascii_digit c ≡ true → Numeral (w ++ c ∷ []) (10 * n + (c - 48))
  -- a digit more, behind a `_`
  digit_joined : (w : List ℕ) (n c : ℕ) → Numeral w n → is_ascii_digit c ≡ true → Numeral (w ++ 95 ∷ c ∷ []) (10 * n + (c - 48))

-- stands for itself in a string: neither `"` nor `\` nor `$`
abbrev pub is_plain : ℕ → Bool
is_plain c = not ((c == 34) || (c == 92) || (c == 36))

-- the text between a string's quotes, and the bytes that it stands for
pub data Quoted : List ℕ → List ℕ → Type 0 where
  -- no text
  nothing : Quoted [] []
  -- a character that stands for itself
  plain : (c : ℕ) (cs bytes : List ℕ) → is_plain c ≡ true → Quoted cs bytes → Quoted (c ∷ cs) (encode_utf8 c ++ bytes)
  -- a backslash and the character that it takes
  escaped : (c meant : ℕ) (cs bytes : List ℕ) → escape c ≡ Some meant → Quoted cs bytes → Quoted (92 ∷ c ∷ cs) (encode_utf8 meant ++ bytes)

-- the characters of each operator
abbrev pub spelling : Operator → List ℕ
spelling op.Identical = codes "==="
spelling op.NotIdentical = codes "!=="
spelling op.HasType = codes "::"
spelling op.Subtype = codes "<:"
spelling op.Supertype = codes ">:"
spelling op.Equal = codes "=="
spelling op.NotEqual = codes "!="
spelling op.LessEqual = codes "<="
spelling op.GreaterEqual = codes ">="
spelling op.And = codes "&&"
spelling op.Or = codes "||"
spelling op.Assign = codes "="
spelling op.Less = codes "<"
spelling op.Greater = codes ">"
spelling op.Plus = codes "+"
spelling op.Minus = codes "-"
spelling op.Times = codes "*"
spelling op.Divide = 247 ∷ []
spelling op.Remainder = codes "%"
spelling op.Not = codes "!"
spelling op.Question = codes "?"
spelling op.Colon = codes ":"
spelling op.Dot = codes "."
spelling op.Comma = codes ","
spelling op.Semicolon = codes ";"
spelling op.OpenParen = codes "("
spelling op.CloseParen = codes ")"
spelling op.OpenBracket = codes "["
spelling op.CloseBracket = codes "]"
spelling op.OpenBrace = codes "{"
spelling op.CloseBrace = codes "}"

-- the number with the sign `-`
abbrev pub negate : ℕ → ℤ
negate zero = pos 0
negate (suc n) = negsuc n

-- these characters spell this token; and whether they stand in a prefix place
abbrev pub Spells : Bool → List ℕ → TokenKind → Type 0
Spells prefix w (kind.Identifier word) = IsWord w × (word ≡ encode_utf8_all w)
Spells prefix w (kind.Number value) = (n : ℕ) × Numeral w n × (n < 2 ^ 63) × (value ≡ pos n)
Spells prefix w (kind.Negative value) = (v : List ℕ) × (n : ℕ) × (prefix ≡ true) × (w ≡ 45 ∷ v) × Numeral v n × (n ≤ 2 ^ 63) × (value ≡ negate n)
Spells prefix w (kind.Text meant) = (body : List ℕ) × (w ≡ 34 ∷ body ++ 34 ∷ []) × Quoted body meant
Spells prefix w (kind.Macro word) = (v : List ℕ) × (w ≡ 64 ∷ v) × IsWord v × (word ≡ encode_utf8_all v)
Spells prefix w (kind.Operator operator) = w ≡ spelling operator
Spells prefix w kind.Newline = w ≡ 10 ∷ []
Spells prefix w kind.End = ⊥

-- ---- where a token may end

-- the text begins with a `_` before a digit
abbrev pub has_separator_first : List ℕ → Bool
has_separator_first [] = false
has_separator_first (c ∷ cs) = (c == 95) && has_first is_ascii_digit cs

-- no further digit follows
abbrev pub NumeralEnds : List ℕ → Type 0
NumeralEnds rest = (has_first is_ascii_digit rest ≡ false) × (has_separator_first rest ≡ false)

-- no longer operator stands there
abbrev pub Longest : Operator → List ℕ → Type 0
Longest operator rest = (longer : Operator) (more after : List ℕ) → spelling longer ≡ spelling operator ++ more → rest ≡ more ++ after → more ≡ []

-- a `-` in a prefix place, which before a digit is the sign of a number
abbrev pub may_be_sign : Bool → Operator → Bool
may_be_sign prefix op.Minus = prefix
may_be_sign prefix _ = false

-- this token may end before this rest
abbrev pub Ends : Bool → TokenKind → List ℕ → Type 0
Ends prefix (kind.Identifier word) rest = has_first is_word_part rest ≡ false
Ends prefix (kind.Number value) rest = NumeralEnds rest × (has_first is_wrong_after_number rest ≡ false)
Ends prefix (kind.Negative value) rest = NumeralEnds rest × (has_first is_wrong_after_number rest ≡ false)
Ends prefix (kind.Text meant) rest = Unit {0}
Ends prefix (kind.Macro word) rest = has_first is_word_part rest ≡ false
Ends prefix (kind.Operator operator) rest = Longest operator rest × ((may_be_sign prefix operator && has_first is_ascii_digit rest) ≡ false)
Ends prefix kind.Newline rest = Unit {0}
Ends prefix kind.End rest = Unit {0}

-- ---- what stands between tokens

-- the text of a block comment behind its `#=`, up to and with its `=#`; comments in it nest
pub data Comment : List ℕ → Type 0 where
  -- its end
  ends : Comment (61 ∷ 35 ∷ [])
  -- another comment in it
  nested : (v w : List ℕ) → Comment v → Comment w → Comment (35 ∷ 61 ∷ v ++ w)
  -- a character that begins neither an end nor a comment
  inside : (c d : ℕ) (w : List ℕ) → is_comment_end c d ≡ false → is_comment_start c d ≡ false → Comment (d ∷ w) → Comment (c ∷ d ∷ w)

-- these characters, before this rest, separate tokens: a blank, a comment to the end of its line, a block comment
pub data Between : List ℕ → List ℕ → Type 0 where
  -- a space, a tab or a carriage return
  blank : (c : ℕ) (rest : List ℕ) → is_blank c ≡ true → Between (c ∷ []) rest
  -- `#` and all up to the newline or the end of the text, where no `=` stands behind the `#`
  line : (w rest : List ℕ) → AllByRecursion (λ c. (c == 10) ≡ false) w → has_first (λ c. c == 61) w ≡ false → has_first (λ c. not (c == 10)) rest ≡ false → Between (35 ∷ w) rest
  -- `#=` up to its `=#`
  block : (w rest : List ℕ) → Comment w → Between (35 ∷ 61 ∷ w) rest

-- ---- faults

-- a `"` that ends the string stands in the text: no backslash takes it
pub data Ended : List ℕ → Type 0 where
  -- it stands here
  quote : (cs : List ℕ) → Ended (34 ∷ cs)
  -- behind a backslash and the character that it takes
  taken : (c : ℕ) (cs : List ℕ) → Ended cs → Ended (92 ∷ c ∷ cs)
  -- behind another character
  passed : (c : ℕ) (cs : List ℕ) → (c == 34) ≡ false → (c == 92) ≡ false → Ended cs → Ended (c ∷ cs)

-- the text of a string goes on with a `$`, or with a backslash before a character that it can't escape
abbrev pub IsWrongEscape : List ℕ → Type 0
IsWrongEscape [] = ⊥
IsWrongEscape (c ∷ []) = ⊥
IsWrongEscape (c ∷ d ∷ cs) = (c ≡ 36) ⊎ ((c ≡ 92) × (escape d ≡ None))

-- a text of this first character and this rest begins neither a token nor what stands between tokens
pub record IsStray (c : ℕ) (cs : List ℕ) : Type 0 where
  pub no_blank : is_blank c ≡ false
  pub no_newline : (c == 10) ≡ false
  pub no_string : (c == 34) ≡ false
  pub no_comment : (c == 35) ≡ false
  pub no_word : is_word_start c ≡ false
  pub no_number : is_ascii_digit c ≡ false
  pub no_macro : ((c == 64) && has_first is_word_start cs) ≡ false
  pub no_operator : (operator : Operator) (rest : List ℕ) → c ∷ cs ≡ spelling operator ++ rest → ⊥

-- the text, the rest of a source of so many bytes, begins with this fault
pub data FaultAt : ℕ → Bool → List ℕ → TokenFault → Type 0 where
  -- a number past 2 ^ 63 - 1
  large : (bytes : ℕ) (prefix : Bool) (w : List ℕ) (n : ℕ) (rest : List ℕ) → Numeral w n → NumeralEnds rest → 2 ^ 63 ≤ n → FaultAt bytes prefix (w ++ rest) (fault.NumberTooLarge (place bytes (w ++ rest)))
  -- a number past - 2 ^ 63, whose sign counts as its first character
  large_negative : (bytes : ℕ) (w : List ℕ) (n : ℕ) (rest : List ℕ) → Numeral w n → NumeralEnds rest → 2 ^ 63 < n → FaultAt bytes true (45 ∷ w ++ rest) (fault.NumberTooLarge (place bytes (45 ∷ w ++ rest)))
  -- a number within its limit, and directly behind it a `.` or what begins an identifier
  spoiled : (bytes : ℕ) (prefix : Bool) (w : List ℕ) (n : ℕ) (rest : List ℕ) → Numeral w n → NumeralEnds rest → n < 2 ^ 63 → has_first is_wrong_after_number rest ≡ true → FaultAt bytes prefix (w ++ rest) (fault.BadCharacter (place bytes rest))
  -- the same behind a number with its sign
  spoiled_negative : (bytes : ℕ) (w : List ℕ) (n : ℕ) (rest : List ℕ) → Numeral w n → NumeralEnds rest → n ≤ 2 ^ 63 → has_first is_wrong_after_number rest ≡ true → FaultAt bytes true (45 ∷ w ++ rest) (fault.BadCharacter (place bytes rest))
  -- a string that has an end, and the first wrong escape in it
  wrong_escape : (bytes : ℕ) (prefix : Bool) (w meant rest : List ℕ) → Quoted w meant → IsWrongEscape rest → Ended rest → FaultAt bytes prefix (34 ∷ w ++ rest) (fault.BadCharacter (place bytes rest))
  -- a string that has no end
  open_string : (bytes : ℕ) (prefix : Bool) (body : List ℕ) → (Ended body → ⊥) → FaultAt bytes prefix (34 ∷ body) (fault.OpenString (place bytes (34 ∷ body)))
  -- a block comment that has no end
  open_comment : (bytes : ℕ) (prefix : Bool) (body : List ℕ) → ((w rest : List ℕ) → Comment w → body ≡ w ++ rest → ⊥) → FaultAt bytes prefix (35 ∷ 61 ∷ body) (fault.OpenComment (place bytes (35 ∷ 61 ∷ body)))
  -- a character that begins nothing
  stray : (bytes : ℕ) (prefix : Bool) (c : ℕ) (cs : List ℕ) → IsStray c cs → FaultAt bytes prefix (c ∷ cs) (fault.BadCharacter (place bytes (c ∷ cs)))

-- ---- a whole text

-- a token before those behind it, or the fault behind it
abbrev pub with_token : TokenKind → ℕ → Result (List Token) TokenFault → Result (List Token) TokenFault
with_token k at (Ok ts) = Ok (record { kind = k; at = at } ∷ ts)
with_token k at (Err f) = Err f

-- what the rest of a source of so many bytes reads as, in a prefix place or not: its tokens, or its first fault
pub data Reads : ℕ → Bool → List ℕ → Result (List Token) TokenFault → Type 0 where
  -- nothing is left: the end
  at_end : (bytes : ℕ) (prefix : Bool) → Reads bytes prefix [] (Ok (record { kind = kind.End; at = bytes } ∷ []))
  -- a fault stands here
  faulty : (bytes : ℕ) (prefix : Bool) (text : List ℕ) (f : TokenFault) → FaultAt bytes prefix text f → Reads bytes prefix text (Err f)
  -- what separates tokens, and what the rest reads as
  between : (bytes : ℕ) (prefix : Bool) (w rest : List ℕ) (r : Result (List Token) TokenFault) → Between w rest → Reads bytes prefix rest r → Reads bytes prefix (w ++ rest) r
  -- a token, and what the rest reads as
  token : (bytes : ℕ) (prefix : Bool) (w : List ℕ) (k : TokenKind) (rest : List ℕ) (r : Result (List Token) TokenFault) → Spells prefix w k → Ends prefix k rest → Reads bytes (is_prefix_after k) rest r
      → Reads bytes prefix (w ++ rest) (with_token k (place bytes (w ++ rest)) r)

-- what bytes read as: where they are no UTF-8, that is the fault
pub data ReadsBytes : List ℕ → Result (List Token) TokenFault → Type 0 where
  -- the bytes before this place are the longest front that is UTF-8
  bad_utf8 : (source : List ℕ) (at : ℕ) → IsValidUpTo source at → ReadsBytes source (Err (fault.BadUtf8 at))
  -- the bytes are a text, at whose beginning a prefix place is
  text : (source : List ℕ) (r : Result (List Token) TokenFault) → IsUtf8 source → Reads (length source) true (chars source) r → ReadsBytes source r

-- what a source reads as: past 1,048,576 bytes it is too long
abbrev pub ReadsSource : List ℕ → Result (List Token) TokenFault → Type 0
ReadsSource source r = ((MOST_SOURCE_BYTES < length source) × (r ≡ Err fault.SourceTooLong)) ⊎ ((length source ≤ MOST_SOURCE_BYTES) × ReadsBytes source r)

-- the fact holds of what a function returned, unless memory ran out
abbrev pub UnlessMemory : {A : Type 0} → Result A TokenFault → (Result A TokenFault → Type 0) → Type 0
UnlessMemory (Err fault.Memory) P = Unit {0}
UnlessMemory r P = P r

-- nothing else that a text reads as is left: what a function returned is all of it, unless memory ran out
abbrev pub IsOnly : Result (List Token) TokenFault → (Result (List Token) TokenFault → Type 0) → Type 0
IsOnly result P = (r : Result (List Token) TokenFault) → P r → UnlessMemory result (λ given. given ≡ r)

-- bytes that are no UTF-8 are refused as such and as nothing else, also not for memory, of which the test takes none
abbrev pub RefusesBadUtf8 : List ℕ → Result (List Token) TokenFault → Type 0
RefusesBadUtf8 source result = (at : ℕ) → IsValidUpTo source at → result ≡ Err (fault.BadUtf8 at)

-- the last token, and no other, is the end, at the length of the source
abbrev pub EndsOnce : ℕ → List Token → Type 0
EndsOnce bytes [] = ⊥
EndsOnce bytes (t ∷ []) = t ≡ record { kind = kind.End; at = bytes }
EndsOnce bytes (t ∷ u ∷ ts) = (t.kind ≡ kind.End → ⊥) × EndsOnce bytes (u ∷ ts)
