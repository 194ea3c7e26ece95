-- What the functions of this crate find at the front of a text, by kinds of tokens. The public contracts speak of the
-- grammar alone.
use Rattle.std.specs.Prelude.{◌≡◌, ℕ, ◌+◌, ◌*◌, ◌-◌, Bool, false, ◌||◌, ◌&&◌, ◌==◌, if◌then◌else◌, List, [], ◌∷◌, ◌++◌, Option, Some, None, Result, Ok, Err}
use Rattle.std.specs.Char.{is_ascii_digit, encode_utf8}
use Rattle.std.specs.Str.{chars}
use denote.Ref.{Bor}
use Rattle.jl_token.specs.Operators.{by}
use Rattle.jl_token.specs.Grammar.{is_plain}
use Rattle.jl_token.specs.Characters.{is_word_part, escape, is_comment_end, is_comment_start, has_first}

-- the characters at the front that may continue an identifier
abbrev pub word : List ℕ → List ℕ
word [] = []
word (c ∷ cs) = if is_word_part c then c ∷ word cs else []

-- what follows them
abbrev pub after_word : List ℕ → List ℕ
after_word [] = []
after_word (c ∷ cs) = if is_word_part c then after_word cs else c ∷ cs

-- what follows the line: its newline, or nothing
abbrev pub after_line : List ℕ → List ℕ
after_line [] = []
after_line (c ∷ cs) = if c == 10 then c ∷ cs else after_line cs

-- what follows a block comment's end, where so many others are open around it
abbrev pub after_comment : ℕ → List ℕ → Option (List ℕ)
after_comment around [] = None
after_comment around (c ∷ []) = None
after_comment around (c ∷ d ∷ cs) =
    if is_comment_end c d then (if around == 0 then Some cs else after_comment (around - 1) cs)
    else (if is_comment_start c d then after_comment (around + 1) cs else after_comment around (d ∷ cs))

-- what follows a string's end: a `"` that no backslash takes; and whether a backslash stands before the text
abbrev pub after_string : Bool → List ℕ → Option (List ℕ)
after_string taken [] = None
after_string taken (c ∷ cs) = if taken then after_string false cs else (if c == 34 then Some cs else after_string (c == 92) cs)

-- the bytes behind those of the front, or the same fault
abbrev pub with_front : List ℕ → Result (List ℕ) (List ℕ) → Result (List ℕ) (List ℕ)
with_front front (Ok bytes) = Ok (front ++ bytes)
with_front front (Err rest) = Err rest

-- the bytes behind what an escape stands for, or the text from the wrong escape on
abbrev pub with_escape : Option ℕ → List ℕ → Result (List ℕ) (List ℕ) → Result (List ℕ) (List ℕ)
with_escape None text read = Err text
with_escape (Some c) text read = with_front (encode_utf8 c) read

-- the bytes that a string's text stands for, up to its end; or the text from the first wrong escape on
abbrev pub unescape : List ℕ → Result (List ℕ) (List ℕ)
unescape [] = Ok []
unescape (c ∷ []) = if c == 34 then Ok [] else (if (c == 36) || (c == 92) then Err (c ∷ []) else Ok (encode_utf8 c ++ []))
unescape (c ∷ d ∷ cs) =
    if c == 34 then Ok []
    else (if c == 36 then Err (c ∷ d ∷ cs)
    else (if c == 92 then with_escape (escape d) (c ∷ d ∷ cs) (unescape cs) else with_front (encode_utf8 c) (unescape (d ∷ cs))))

-- the value of the digits at the front behind those of value n, with single `_` between digits, and what follows them
abbrev pub digits : ℕ → List ℕ → ℕ × List ℕ
digits n [] = (n, [])
digits n (c ∷ cs) =
    if is_ascii_digit c then digits (10 * n + (c - 48)) cs
    else (if (c == 95) && has_first is_ascii_digit cs then digits n cs else (n, c ∷ cs))

-- what an escape behind its backslash stands for, and what follows it
abbrev pub read_escape : List ℕ → Option (ℕ × List ℕ)
read_escape [] = None
read_escape (d ∷ cs) = by (escape d) None (λ c. Some (c, cs))

-- what follows the characters at the front that stand for themselves in a string
abbrev pub after_plain : List ℕ → List ℕ
after_plain [] = []
after_plain (c ∷ cs) = if is_plain c then after_plain cs else c ∷ cs

-- what a function returned for a string's text is what reading gives: the bytes meant and what follows the end; or,
-- if the text has an end, the text from the first wrong escape on
abbrev pub Means : Result (List ℕ × Bor (List ℕ)) (Bor (List ℕ)) → List ℕ → Type 0
Means (Ok read) text = (after_string false text ≡ Some (chars read.1.now)) × (unescape text ≡ Ok read.0)
Means (Err wrong) text = (rest : List ℕ) → after_string false text ≡ Some rest → unescape text ≡ Err (chars wrong.now)
