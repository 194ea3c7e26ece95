-- The lines of a text, and what a line asks for.
use Rattle.std.specs.Prelude.{ℕ, ◌^◌, ℤ, pos, neg_ℤ, ◌&&◌, Bool, cond, nat_eq, nat_le, nat_lt, codes, List, [], ◌∷◌, length, slice_index, bytes_eq, Option, None, Some}
use Rattle.std.specs.Str.{all_ascii_digits}
use Rattle.std.specs.Str.Parse.{digits_value}
use Rattle.jl_program.specs.Names.{is_identifier}
use Rattle.jl_embed.specs.declared.numbers.TheConstants.{MOST_METHOD_DIGITS, MOST_NUMBER_LENGTH}
use Rattle.jl_embed.specs.declared.requests.Request.{Request}
use Rattle.jl_embed.specs.declared.requests.Request.TheVariants as R
use Rattle.jl_embed.specs.Cuts.{cut}

-- ---- lines

-- a byte in front of the first line
abbrev pub begin_with : ℕ → List (List ℕ) → List (List ℕ)
begin_with b [] = (b ∷ []) ∷ []
begin_with b (line ∷ lines) = (b ∷ line) ∷ lines

-- the lines of a text, without their newlines; what comes after the last newline is a line where it is not empty
abbrev pub lines_of : List ℕ → List (List ℕ)
lines_of [] = []
lines_of (b ∷ bs) = cond (nat_eq b 10) ([] ∷ lines_of bs) (begin_with b (lines_of bs))

-- ---- numbers

-- whether a plus is the first byte
abbrev pub has_plus : List ℕ → Bool
has_plus text = nat_lt 0 (length text) && nat_eq (slice_index text 0) 43

-- whether a text is digits, one or more
abbrev pub is_numeral : List ℕ → Bool
is_numeral text = nat_lt 0 (length text) && all_ascii_digits text

-- the number of a method of a host with so many: one or two digits
abbrev pub method_in : ℕ → List ℕ → Option ℕ
method_in count text =
    cond (nat_le (length text) MOST_METHOD_DIGITS && (is_numeral text && nat_lt (digits_value 10 text) count)) (Some (digits_value 10 text)) None

-- the number of digits, where it is one of 64 bits
abbrev pub plain_in : List ℕ → Option ℤ
plain_in text = cond (is_numeral text && nat_lt (digits_value 10 text) (2 ^ 63)) (Some (pos (digits_value 10 text))) None

-- the same after a `-`
abbrev pub negative_in : List ℕ → Option ℤ
negative_in text = cond (is_numeral text && nat_le (digits_value 10 text) (2 ^ 63)) (Some (neg_ℤ (pos (digits_value 10 text)))) None

-- a number of 64 bits: digits, after a `-` or not
abbrev pub signed_in : List ℕ → Option ℤ
signed_in [] = None
signed_in (c ∷ cs) = cond (nat_eq c 45) (negative_in cs) (plain_in (c ∷ cs))

-- the same, of at most so many characters
abbrev pub number_in : List ℕ → Option ℤ
number_in text = cond (nat_le (length text) MOST_NUMBER_LENGTH) (signed_in text) None

-- ---- requests

-- what a line asks for: nothing that is known, a line for the text, or a call of the function of this name with what the method of this
-- number answers for two numbers
pub data Asked : Type 0 where
  bad : Asked
  add : List ℕ → Asked
  call : List ℕ → ℕ → ℤ → ℤ → Asked

-- the same as the code has it
abbrev pub asked_of : Request → Asked
asked_of R.Bad = bad
asked_of (R.Add line) = add line.now
asked_of (R.Call name q) = call name.now q.method q.a q.b

infixl 10 ◌>>=◌
-- the second reading of what the first gave
abbrev pub ◌>>=◌ : {A B : Type 0} → Option A → (A → Option B) → Option B
None >>= f = None
(Some x) >>= f = f x

-- the number of a method and two numbers, with a space between two of them
abbrev pub question_in : ℕ → List ℕ → Option (ℕ × ℤ × ℤ)
question_in count text =
    cut 32 text >>= λ p. cut 32 p.1 >>= λ q.
    method_in count p.0 >>= λ n. number_in q.0 >>= λ a. number_in q.1 >>= λ b. Some (n, a, b)

-- a call of the function of this name
abbrev pub call_by : List ℕ → Option (ℕ × ℤ × ℤ) → Asked
call_by name None = bad
call_by name (Some q) = call name q.0 q.1 q.2

-- what a line whose word is `call` asks for: an identifier, and then such numbers
abbrev pub call_words : ℕ → Option (List ℕ × List ℕ) → Asked
call_words count None = bad
call_words count (Some p) = cond (is_identifier p.0) (call_by p.0 (question_in count p.1)) bad

abbrev pub call_of : ℕ → List ℕ → Asked
call_of count text = call_words count (cut 32 text)

-- what a line asks for by its first word, which a space ends: what comes after `add` is added, whatever it is
abbrev pub request_by : ℕ → Option (List ℕ × List ℕ) → Asked
request_by count None = bad
request_by count (Some p) = cond (bytes_eq p.0 (codes "add")) (add p.1) (cond (bytes_eq p.0 (codes "call")) (call_of count p.1) bad)

-- what a line asks for, of a host with so many methods
abbrev pub request_of : ℕ → List ℕ → Asked
request_of count line = request_by count (cut 32 line)
