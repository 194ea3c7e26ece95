-- A text as bytes and as characters.
use Rattle.std.proofs.Common.{◌≡◌, ℕ, ◌-◌, ◌<◌, List, ◌++◌, length, take, refl, sym, ap, ◌∙◌, IfOk, Result, Ok, Err, arith, true, false, ◌==◌, [], ◌∷◌}
use Rattle.std.proofs.lemmas.Bool.{eqb-false, eqb-true}
use Rattle.std.specs.Str.{IsUtf8, chars, encode_utf8_all}
use Rattle.std.proofs.lemmas.Str.{encodes-chars, encodes-append, chars-nil}
use Rattle.std.proofs.lemmas.List.{take_at, length-append}
use Rattle.jl_token.specs.Characters.{width}

-- a text has as many bytes as its characters take
pub width-chars : (bs : List ℕ) → IsUtf8 bs → width (chars bs) ≡ length bs
width-chars bs utf8 = ap length (encodes-chars bs utf8)

-- the bytes before the rest are those of the characters before it
pub front-bytes : (text rest read : List ℕ) → IsUtf8 text → IsUtf8 rest → chars text ≡ read ++ chars rest → take (length text - length rest) text ≡ encode_utf8_all read
front-bytes text rest read utf8 rest-utf8 split =
    let whole : text ≡ encode_utf8_all read ++ rest = sym (encodes-chars text utf8) ∙ ap encode_utf8_all split ∙ encodes-append read (chars rest) ∙ ap (λ l. encode_utf8_all read ++ l) (encodes-chars rest rest-utf8) in
    let long : length (encode_utf8_all read) ≡ length text - length rest = omega (arith, ap length whole, length-append (encode_utf8_all read) rest) in
    ap (take (length text - length rest)) whole ∙ take_at (encode_utf8_all read) rest (length text - length rest) long

pub bytes-before : {E : Type 0} (text rest : List ℕ) (made : Result (List ℕ) E) → IsUtf8 text → IsUtf8 rest → IfOk made (λ bytes. bytes ≡ take (length text - length rest) text)
    → IfOk made (λ bytes. (read : List ℕ) → chars text ≡ read ++ chars rest → bytes ≡ encode_utf8_all read)
bytes-before text rest (Ok bytes) utf8 rest-utf8 is = λ read split. is ∙ front-bytes text rest read utf8 rest-utf8 split
bytes-before text rest (Err e) utf8 rest-utf8 is = tt

-- a text with bytes has characters, and one without has none
pub full-chars : (bs : List ℕ) → IsUtf8 bs → (length bs == 0) ≡ false → chars bs ≡ [] → ⊥
full-chars bs utf8 full none = eqb-false (length bs) 0 full (sym (width-chars bs utf8) ∙ ap width none)

empty-is : (bs : List ℕ) → length bs ≡ 0 → bs ≡ []
empty-is [] e = refl
empty-is (b ∷ bs) e = absurd (omega arith)

pub empty-chars : (bs : List ℕ) → (length bs == 0) ≡ true → chars bs ≡ []
empty-chars bs empty = ap chars (empty-is bs (eqb-true (length bs) 0 empty)) ∙ chars-nil

pub full-bytes : (bs : List ℕ) → (length bs == 0) ≡ false → 0 < length bs
full-bytes bs full = let some = eqb-false (length bs) 0 full in omega arith
