-- Texts that may stand in a line: in UTF-8, and without a newline.
use Rattle.std.proofs.Common.{◌≡◌, refl, ap, ℕ, zero, suc, ◌+◌, ◌/◌, ◌%◌, ◌<◌, arith, Bool, true, false, not, ◌&&◌, cond, nat_eq, nat_lt, mod-lt, List, [], ◌∷◌, ◌++◌, length, get_or, decimal, ℤ, pos, negsuc}
use Rattle.std.specs.Fmt.{digit_glyph, digits_onto, digits, signed_decimal}
use Rattle.std.specs.List.{list_all}
use Rattle.std.specs.Str.{IsUtf8}
use Rattle.std.proofs.lemmas.Str.{IsUtf8-append, IsUtf8-nil, IsUtf8-from_ascii}
use Rattle.std.proofs.lemmas.Str.Ascii.{IsAscii-cons, IsAscii-nil}
use Rattle.jl_report.specs.HistoryText.{newline}
use Rattle.jl_history.specs.Form.{lacks}
use Rattle.jl_history.proofs.CutLemmas.{lacks_append}
use Rattle.jl_program.specs.Text.{joined, joined_more}

pub record IsLine (text : List ℕ) : Type 0 where
  pub one_line : lacks newline text ≡ true
  pub utf8 : IsUtf8 text

-- it is not empty
pub record IsFilled (text : List ℕ) : Type 0 where
  pub some : 0 < length text

pub nothing_line : IsLine []
nothing_line = record { one_line = refl; utf8 = IsUtf8-nil }

pub line_append : (a b : List ℕ) → IsLine a → IsLine b → IsLine (a ++ b)
line_append a b h k = record { one_line = lacks_append newline a b h.one_line k.one_line; utf8 = IsUtf8-append a b h.utf8 k.utf8 }

-- ---- plain bytes

-- a byte of ASCII that is no newline
abbrev pub is_inline : ℕ → Bool
is_inline b = nat_lt b 128 && not (nat_eq b newline)

pub both : (a b : Bool) → a && b ≡ true → (a ≡ true) × (b ≡ true)
both true b h = (refl, h)
both false b h = cc

not_is : (a : Bool) → not a ≡ true → a ≡ false
not_is true h = cc
not_is false h = refl

byte_line : (b : ℕ) → b < 128 → nat_eq b newline ≡ false → IsLine (b ∷ [])
byte_line b l n = record { one_line = ap (λ t. not t && true) n; utf8 = IsUtf8-from_ascii (b ∷ []) (IsAscii-cons b [] l IsAscii-nil) }

pub plain_line : (bs : List ℕ) → list_all is_inline bs ≡ true → IsLine bs
plain_line [] h = nothing_line
plain_line (b ∷ bs) h =
    let p = both (is_inline b) (list_all is_inline bs) h in
    let q = both (nat_lt b 128) (not (nat_eq b newline)) p.0 in
    line_append (b ∷ []) bs (byte_line b (grind (arith, q.0)) (not_is (nat_eq b newline) q.1)) (plain_line bs p.1)

-- ---- numbers, however large

glyph_line : (d : ℕ) → d < 10 → IsLine (digit_glyph false d ∷ [])
glyph_line d l = by (nat_lt d 10) refl
  where
    by : (t : Bool) → nat_lt d 10 ≡ t → IsLine (cond t (48 + d) (87 + d) ∷ [])
    by true e = byte_line (48 + d) (omega (arith, l)) (grind arith)
    by false e = absurd (grind (arith, l, e))

line_choice : (b : Bool) (xs ys : List ℕ) → IsLine xs → IsLine ys → IsLine (cond b xs ys)
line_choice true xs ys p q = p
line_choice false xs ys p q = q

onto_line : (k n : ℕ) (acc : List ℕ) → IsLine acc → IsLine (digits_onto k 10 false n acc)
onto_line zero n acc h = h
onto_line (suc k) n acc h =
    let more = line_append (digit_glyph false (n % 10) ∷ []) acc (glyph_line (n % 10) (mod-lt n (omega arith))) h in
    line_choice (nat_eq (n / 10) 0) _ _ more (onto_line k (n / 10) _ more)

pub decimal_line : (n : ℕ) → IsLine (decimal n)
unfolding digits
decimal_line n = onto_line 64 n [] nothing_line

pub signed_line : (n : ℤ) → IsLine (signed_decimal n)
signed_line (pos n) = decimal_line n
signed_line (negsuc n) = line_append (45 ∷ []) (decimal (suc n)) (plain_line (45 ∷ []) refl) (decimal_line (suc n))

some_choice : (b : Bool) (xs ys : List ℕ) → 0 < length xs → 0 < length ys → 0 < length (cond b xs ys)
some_choice true xs ys p q = p
some_choice false xs ys p q = q

onto_some : (k n : ℕ) (acc : List ℕ) → 0 < length acc → 0 < length (digits_onto k 10 false n acc)
onto_some zero n acc h = h
onto_some (suc k) n acc h =
    let more : 0 < length (digit_glyph false (n % 10) ∷ acc) = omega arith in
    some_choice (nat_eq (n / 10) 0) _ _ more (onto_some k (n / 10) (digit_glyph false (n % 10) ∷ acc) more)

one_digit : (k n : ℕ) → 0 < length (digits_onto (suc k) 10 false n [])
one_digit k n =
    let more : 0 < length (digit_glyph false (n % 10) ∷ []) = omega arith in
    some_choice (nat_eq (n / 10) 0) _ _ more (onto_some k (n / 10) (digit_glyph false (n % 10) ∷ []) more)

decimal_some : (n : ℕ) → 0 < length (decimal n)
unfolding digits
decimal_some n = one_digit 63 n

pub signed_some : (n : ℤ) → IsFilled (signed_decimal n)
signed_some (pos n) = record { some = decimal_some n }
signed_some (negsuc n) = record { some = omega arith }

-- ---- lists of texts

abbrev pub AreLines : List (List ℕ) → Type 0
AreLines [] = Unit {0}
AreLines (t ∷ ts) = IsLine t × AreLines ts

more_line : (ts : List (List ℕ)) → AreLines ts → IsLine (joined_more ts)
more_line [] h = nothing_line
more_line (t ∷ ts) h = line_append (44 ∷ 32 ∷ []) (t ++ joined_more ts) (plain_line (44 ∷ 32 ∷ []) refl) (line_append t (joined_more ts) h.0 (more_line ts h.1))

pub joined_line : (ts : List (List ℕ)) → AreLines ts → IsLine (joined ts)
joined_line [] h = nothing_line
joined_line (t ∷ ts) h = line_append t (joined_more ts) h.0 (more_line ts h.1)

-- the text at a place, and nothing past the end
pub line_at : (ts : List (List ℕ)) → AreLines ts → (n : ℕ) → IsLine (get_or ts n [])
line_at [] h n = nothing_line
line_at (t ∷ ts) h zero = h.0
line_at (t ∷ ts) h (suc n) = line_at ts h.1 n

pub lines_append : (xs ys : List (List ℕ)) → AreLines xs → AreLines ys → AreLines (xs ++ ys)
lines_append [] ys h k = k
lines_append (x ∷ xs) ys h k = (h.0, lines_append xs ys h.1 k)
