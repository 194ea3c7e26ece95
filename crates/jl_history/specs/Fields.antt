-- What is read from the fields of a line.
use Rattle.std.specs.Prelude.{◌≡◌, ℕ, ◌&&◌, ◌||◌, Bool, not, cond, nat_eq, nat_le, nat_lt, codes, decimal, List, [], ◌∷◌, ◌++◌, length, slice_index, bytes_eq, Option, None, Some}
use Rattle.std.specs.Str.{is_utf8}
use Rattle.std.specs.Str.Parse.{digits_value}
use Rattle.jl_report.specs.declared.entry.Step.{Step}
use Rattle.jl_report.specs.declared.entry.Step.TheVariants as S
use Rattle.jl_report.specs.declared.entry.Ending.{Ending}
use Rattle.jl_report.specs.declared.entry.Ending.TheVariants as N
use Rattle.jl_report.specs.HistoryText.{backslash, quote, newline, carriage_return}
use Rattle.jl_history.specs.declared.fields.TheConstants.{MOST_NUMBER}

infixl 10 ◌>>=◌
-- the second reading of what the first gave
abbrev pub ◌>>=◌ : {A B : Type 0} → Option A → (A → Option B) → Option B
None >>= f = None
(Some x) >>= f = f x

-- the space between fields
abbrev pub space : ℕ
space = 32

-- a byte in front of what stands before the mark
abbrev pub longer : ℕ → Option (List ℕ × List ℕ) → Option (List ℕ × List ℕ)
longer b None = None
longer b (Some p) = Some (b ∷ p.0, p.1)

-- what stands before the first mark, and what follows it
abbrev pub cut : ℕ → List ℕ → Option (List ℕ × List ℕ)
cut mark [] = None
cut mark (b ∷ bs) = cond (nat_eq b mark) (Some ([], bs)) (longer b (cut mark bs))

-- what a function tells of a text from what stands before its first space and what follows it
abbrev pub by_word : {A : Type 0} → (List ℕ → List ℕ → Option A) → List ℕ → Option A
by_word f text = cut space text >>= λ p. f p.0 p.1

-- whether a plus, or a zero before other digits, stands in front
abbrev pub is_padded : List ℕ → Bool
is_padded text = nat_lt 1 (length text) && (nat_eq (slice_index text 0) 48 || nat_eq (slice_index text 0) 43)

-- the number that a text is the decimal of, where it is at most so much
abbrev pub number_in : ℕ → List ℕ → Option ℕ
number_in most text = cond (nat_le (digits_value 10 text) most && bytes_eq text (decimal (digits_value 10 text))) (Some (digits_value 10 text)) None

-- two numbers with a space between them
abbrev pub two_in : List ℕ → Option (ℕ × ℕ)
two_in text = cut space text >>= λ p. number_in MOST_NUMBER p.0 >>= λ a. number_in MOST_NUMBER p.1 >>= λ b. Some (a, b)

-- three numbers, of which the last is at most so much
abbrev pub three_in : ℕ → List ℕ → Option (ℕ × ℕ × ℕ)
three_in most text =
    cut space text >>= λ p. cut space p.1 >>= λ q.
    number_in MOST_NUMBER p.0 >>= λ a. number_in MOST_NUMBER q.0 >>= λ b. number_in most q.1 >>= λ c. Some (a, b, c)

-- whether a text may stand in a line
abbrev pub is_text : List ℕ → Bool
is_text text = nat_lt 0 (length text) && is_utf8 text

-- the number, the function and the types of a key
abbrev pub key_in : List ℕ → Option (ℕ × List ℕ × List ℕ)
key_in text =
    cut space text >>= λ p. cut space p.1 >>= λ q.
    number_in MOST_NUMBER p.0 >>= λ a. cond (is_text q.0 && is_text q.1) (Some (a, q.0, q.1)) None

-- ---- quotes

-- the byte that a backslash and a letter stand for
abbrev pub meaning : ℕ → Option ℕ
meaning b =
    cond (nat_eq b backslash || nat_eq b quote) (Some b)
    (cond (nat_eq b 110) (Some newline)
    (cond (nat_eq b 114) (Some carriage_return) None))

-- whether a byte stands in quotes as it is
abbrev pub is_plain : ℕ → Bool
is_plain b = not (nat_eq b backslash) && (not (nat_eq b quote) && (not (nat_eq b newline) && not (nat_eq b carriage_return)))

-- the byte that the front of a text in quotes stands for, and what follows
abbrev pub byte_at : List ℕ → Option (ℕ × List ℕ)
byte_at [] = None
byte_at (b ∷ []) = cond (is_plain b) (Some (b, [])) None
byte_at (b ∷ c ∷ bs) = cond (nat_eq b backslash) (meaning c >>= λ m. Some (m, bs)) (cond (is_plain b) (Some (b, c ∷ bs)) None)

-- bytes in front of what is read
abbrev pub in_front : List ℕ → Option (List ℕ) → Option (List ℕ)
in_front bs None = None
in_front bs (Some cs) = Some (bs ++ cs)

-- the bytes that a text stands for that ends with a quote
abbrev pub unquoted : List ℕ → Option (List ℕ)
unquoted [] = None
unquoted (b ∷ []) = cond (nat_eq b quote) (Some []) None
unquoted (b ∷ c ∷ bs) =
    cond (nat_eq b backslash) (meaning c >>= λ m. in_front (m ∷ []) (unquoted bs)) (cond (is_plain b) (in_front (b ∷ []) (unquoted (c ∷ bs))) None)

-- whether a text is of this form, and new is old with its bytes at the end
abbrev pub IsUnquoted : Bool → List ℕ → List ℕ → List ℕ → Type 0
IsUnquoted b old new text = in_front old (unquoted text) ≡ cond b (Some new) None

-- what follows the quote in front of a text
abbrev pub after_quote : List ℕ → Option (List ℕ)
after_quote [] = None
after_quote (b ∷ bs) = cond (nat_eq b quote) (Some bs) None

-- bytes, where they are UTF-8
abbrev pub text_of : List ℕ → Option (List ℕ)
text_of bs = cond (is_utf8 bs) (Some bs) None

-- the bytes that a text in quotes stands for
abbrev pub output_in : List ℕ → Option (List ℕ)
output_in text = after_quote text >>= λ rest. unquoted rest >>= λ out. text_of out

-- ---- lines

-- an item of a deletion place, where it may be told
abbrev pub place_step : Bool → List ℕ → ℕ → ℕ → Option Step
place_step places word place at =
    cond (bytes_eq word (codes "del") && places) (Some (S.Del place at)) (cond (bytes_eq word (codes "absent") && places) (Some (S.Absent place at)) None)

-- an item of two numbers
abbrev pub two_step : Bool → List ℕ → List ℕ → Option Step
two_step places word fields = two_in fields >>= λ p.
    cond (bytes_eq word (codes "look")) (Some (S.Look p.0 p.1))
    (cond (bytes_eq word (codes "def")) (Some (S.Def p.0 p.1))
    (cond (bytes_eq word (codes "spawn")) (Some (S.Spawn p.0 p.1))
    (cond (bytes_eq word (codes "fetch")) (Some (S.Fetch p.0 p.1)) (place_step places word p.0 p.1))))

-- the item of a trace that a word and what follows it tell
abbrev pub step_by : Bool → List ℕ → List ℕ → Option Step
step_by places word fields =
    cond (bytes_eq word (codes "worldfull")) (number_in MOST_NUMBER fields >>= λ at. Some (S.WorldFull at))
    (cond (bytes_eq word (codes "taskfull")) (number_in MOST_NUMBER fields >>= λ at. Some (S.TaskFull at)) (two_step places word fields))

-- the item of a trace that a line tells
abbrev pub step_in : Bool → List ℕ → Option Step
step_in places line = by_word (step_by places) line

-- how a task ended, by a word and a text
abbrev pub ending_by : List ℕ → List ℕ → Option Ending
ending_by word text =
    cond (is_text text) (cond (bytes_eq word (codes "value")) (Some (N.Value text)) (cond (bytes_eq word (codes "error")) (Some (N.Error text)) None)) None

-- how a task ended, as the word of a line and what follows it tell
abbrev pub outcome_by : List ℕ → List ℕ → Option Ending
outcome_by word rest = cond (bytes_eq word (codes "outcome")) (by_word ending_by rest) None

-- how a task ended, as a line tells
abbrev pub ending_in : List ℕ → Option Ending
ending_in line = by_word outcome_by line
