-- What a text of digits is read to.
use Rattle.std.proofs.Common.{◌≡◌, ◌≢◌, ◌∙◌, sym, refl, ap, subst, ℕ, zero, suc, ◌<◌, ◌≤◌, ◌^◌, arith, ℤ, pos, neg_ℤ, Bool, true, false, ◌&&◌, cond, nat_eq, nat_le, nat_lt, List, [], ◌∷◌, length, get_or, None, Some, Result, Ok, Err, w64}
use Rattle.std.specs.Result.{OkIff}
use Rattle.std.specs.Str.{IsUtf8, IsAscii, is_utf8, all_ascii_digits}
use Rattle.std.specs.Str.Parse.{IsNumeral, digits_value, signed_digits_value, without_leading_sign, ParsesUnsigned, ParsesSigned}
use Rattle.std.specs.Prelude.{FitsSigned}
use Rattle.std.proofs.lemmas.Str.{IsUtf8-from_ascii, IsUtf8-from_is_utf8}
use Rattle.std.proofs.lemmas.Str.Parse.{IsNumeralModel, numerals_by_value, tells_all_ascii_digits, digits_value_short, parse_plain, parse_signed_minus, parse_signed_plain}
use Rattle.std.proofs.lemmas.Fmt.{IsAscii-from_digits}
use Rattle.jl_embed.specs.Requests.{has_plus, is_numeral, method_in, plain_in, negative_in, signed_in}

abbrev AreDigits : List ℕ → Type 0
AreDigits ds = all_ascii_digits ds ≡ true

own : IsNumeralModel AreDigits (digits_value 10)
own = numerals_by_value AreDigits tells_all_ascii_digits

-- ---- tests

pub not_utf8 : (bs : List ℕ) → (IsUtf8 bs → ⊥) → is_utf8 bs ≡ false
not_utf8 bs h = by (is_utf8 bs) refl
  where
    by : (t : Bool) → is_utf8 bs ≡ t → is_utf8 bs ≡ false
    by true e = absurd (h (IsUtf8-from_is_utf8 bs e))
    by false e = e

chosen : {A : Type 0} (a b : Bool) (x : A) → a ≡ true → b ≡ true → Some x ≡ cond (a && b) (Some x) None
chosen a b x e f = λ i. cond (sym e i && sym f i) (Some x) None

left_out : {A : Type 0} (a b : Bool) (x : A) → (a ≡ true → b ≡ true → ⊥) → None ≡ cond (a && b) (Some x) None
left_out true true x h = absurd (h refl refl)
left_out true false x h = refl
left_out false b x h = refl

pub both : (a b : Bool) → a && b ≡ true → (a ≡ true) × (b ≡ true)
both true b h = (refl, h)
both false b h = (let bad : false ≡ true = h in cc)

and_true : (a b : Bool) → a ≡ true → b ≡ true → a && b ≡ true
and_true a b e f = λ i. e i && f i

pub no_plus : (text : List ℕ) → has_plus text ≡ false → get_or text 0 0 ≢ 43
no_plus [] h = λ z. absurd (omega (arith, z))
no_plus (c ∷ cs) h = λ z.
    let y : nat_eq c 43 ≡ true = grind (arith, z) in
    (let bad : true ≡ false = sym (and_true (nat_lt 0 (length (c ∷ cs))) (nat_eq c 43) (grind arith) y) ∙ h in cc)

-- ---- what is not UTF-8 is no number

digits_ascii : (ds : List ℕ) → AreDigits ds → IsAscii ds
digits_ascii ds h = IsAscii-from_digits ds (own.to ds h)

after_minus : (c : ℕ) (ds : List ℕ) → nat_eq c 45 ≡ true → AreDigits ds → IsAscii (c ∷ ds)
after_minus c ds e h zero = grind (arith, e)
after_minus c ds e h (suc i) = digits_ascii ds h i

-- ---- the number of a method

abbrev IsMethod : ℕ → List ℕ → Bool
IsMethod count text = is_numeral text && nat_lt (digits_value 10 text) count

numeral_parts : (text : List ℕ) → is_numeral text ≡ true → (0 < length text) × AreDigits text
numeral_parts text h = let p = both (nat_lt 0 (length text)) (all_ascii_digits text) h in (grind (arith, p.0), p.1)

numeral_is : (text : List ℕ) → 0 < length text → AreDigits text → is_numeral text ≡ true
numeral_is text l h = and_true (nat_lt 0 (length text)) (all_ascii_digits text) (grind (arith, l)) h

pub method_other : (count : ℕ) (text : List ℕ) → (IsUtf8 text → ⊥) → None ≡ method_in count text
method_other count text h =
    left_out (nat_le (length text) 2) (IsMethod count text) (digits_value 10 text)
    (λ e f. h (IsUtf8-from_ascii text (digits_ascii text (numeral_parts text (both (is_numeral text) (nat_lt (digits_value 10 text) count) f).0).1)))

method_fails : {E : Type 0} (count : ℕ) (text : List ℕ) (x : E) → length text ≤ 2 → OkIff (Err x) (AreDigits text × (0 < length text) × (digits_value 10 text < 2 ^ 32)) (digits_value 10 text) → None ≡ method_in count text
method_fails count text x few not_so =
    left_out (nat_le (length text) 2) (IsMethod count text) (digits_value 10 text) (λ e f.
    let p = numeral_parts text (both (is_numeral text) (nat_lt (digits_value 10 text) count) f).0 in
    let small : digits_value 10 text < 100 = digits_value_short own text 2 p.1 few in
    not_so (p.1, p.0, omega (arith, small)))

pub method_failed : {E : Type 0} (count : ℕ) (text : List ℕ) (r : Result ℕ E) (x : E) → length text ≤ 2 → has_plus text ≡ false → ParsesUnsigned 32 10 text r → r ≡ Err x → None ≡ method_in count text
method_failed {E} count text r x few plus h e =
    method_fails count text x few (subst (λ (z : Result ℕ E). OkIff z (AreDigits text × (0 < length text) × (digits_value 10 text < 2 ^ 32)) (digits_value 10 text)) e (parse_plain own 32 text r h (no_plus text plus)))

method_found : {E : Type 0} (text : List ℕ) (r : Result ℕ E) (n : ℕ) → has_plus text ≡ false → ParsesUnsigned 32 10 text r → r ≡ Ok n → (is_numeral text ≡ true) × (n ≡ digits_value 10 text)
method_found {E} text r n plus h e =
    let p = subst (λ (z : Result ℕ E). OkIff z (AreDigits text × (0 < length text) × (digits_value 10 text < 2 ^ 32)) (digits_value 10 text)) e (parse_plain own 32 text r h (no_plus text plus)) in
    (numeral_is text p.0.1 p.0.0, p.1)

pub method_is : {E : Type 0} (count : ℕ) (text : List ℕ) (r : Result ℕ E) (n : ℕ) → length text ≤ 2 → has_plus text ≡ false → ParsesUnsigned 32 10 text r → r ≡ Ok n → n < count → Some n ≡ method_in count text
method_is count text r n few plus h e l =
    let p = method_found text r n plus h e in
    ap (λ z. Some z) p.1
    ∙ chosen (nat_le (length text) 2) (IsMethod count text) (digits_value 10 text) (grind (arith, few)) (and_true (is_numeral text) (nat_lt (digits_value 10 text) count) p.0 (grind (arith, l, p.1)))

-- ---- a number of 64 bits

abbrev IsPlain : List ℕ → Type 0
IsPlain text = AreDigits text × (0 < length text) × (digits_value 10 text < 2 ^ 63)

abbrev IsNegative : List ℕ → Type 0
IsNegative text = AreDigits text × (0 < length text) × (digits_value 10 text ≤ 2 ^ 63)

plain_some : (text : List ℕ) (z : ℤ) → IsPlain text → z ≡ pos (digits_value 10 text) → Some z ≡ plain_in text
plain_some text z p e = ap (λ y. Some y) e ∙ chosen (is_numeral text) (nat_lt (digits_value 10 text) (2 ^ 63)) (pos (digits_value 10 text)) (numeral_is text p.1 p.0) (grind (arith, p.2))

plain_none : (text : List ℕ) → (IsPlain text → ⊥) → None ≡ plain_in text
plain_none text not_so =
    left_out (is_numeral text) (nat_lt (digits_value 10 text) (2 ^ 63)) (pos (digits_value 10 text)) (λ e f.
    let p = numeral_parts text e in not_so (p.1, p.0, grind (arith, f)))

negative_some : (text : List ℕ) (z : ℤ) → IsNegative text → z ≡ neg_ℤ (pos (digits_value 10 text)) → Some z ≡ negative_in text
negative_some text z p e =
    ap (λ y. Some y) e ∙ chosen (is_numeral text) (nat_le (digits_value 10 text) (2 ^ 63)) (neg_ℤ (pos (digits_value 10 text))) (numeral_is text p.1 p.0) (grind (arith, p.2))

negative_none : (text : List ℕ) → (IsNegative text → ⊥) → None ≡ negative_in text
negative_none text not_so =
    left_out (is_numeral text) (nat_le (digits_value 10 text) (2 ^ 63)) (neg_ℤ (pos (digits_value 10 text))) (λ e f.
    let p = numeral_parts text e in not_so (p.1, p.0, grind (arith, f)))

-- what a text is read to, by whether its first byte is a `-`
signed_minus : (c : ℕ) (cs : List ℕ) → nat_eq c 45 ≡ true → signed_in (c ∷ cs) ≡ negative_in cs
signed_minus c cs e = ap (λ t. cond t (negative_in cs) (plain_in (c ∷ cs))) e

signed_plain : (c : ℕ) (cs : List ℕ) → nat_eq c 45 ≡ false → signed_in (c ∷ cs) ≡ plain_in (c ∷ cs)
signed_plain c cs e = ap (λ t. cond t (negative_in cs) (plain_in (c ∷ cs))) e

abbrev IsReadTo : {E : Type 0} → Result ℤ E → List ℕ → Type 0
IsReadTo (Ok z) text = Some z ≡ signed_in text
IsReadTo (Err x) text = None ≡ signed_in text

read_minus : {E : Type 0} (r : Result ℤ E) (c : ℕ) (cs : List ℕ) → nat_eq c 45 ≡ true → OkIff r (IsNegative cs) (neg_ℤ (pos (digits_value 10 cs))) → IsReadTo r (c ∷ cs)
read_minus (Ok z) c cs e p = negative_some cs z p.0 p.1 ∙ sym (signed_minus c cs e)
read_minus (Err x) c cs e not_so = negative_none cs not_so ∙ sym (signed_minus c cs e)

read_plain : {E : Type 0} (r : Result ℤ E) (c : ℕ) (cs : List ℕ) → nat_eq c 45 ≡ false → OkIff r (IsPlain (c ∷ cs)) (pos (digits_value 10 (c ∷ cs))) → IsReadTo r (c ∷ cs)
read_plain (Ok z) c cs e p = plain_some (c ∷ cs) z p.0 p.1 ∙ sym (signed_plain c cs e)
read_plain (Err x) c cs e not_so = plain_none (c ∷ cs) not_so ∙ sym (signed_plain c cs e)

read_nothing : {E : Type 0} (r : Result ℤ E) → OkIff r (IsPlain []) (pos (digits_value 10 [])) → IsReadTo r []
read_nothing (Ok z) p = absurd (omega (arith, p.0.1))
read_nothing (Err x) not_so = refl

read_to : {E : Type 0} (text : List ℕ) (r : Result ℤ E) → has_plus text ≡ false → ParsesSigned w64 10 text r → IsReadTo r text
read_to [] r plus h = read_nothing r (parse_signed_plain own w64 [] r h (no_plus [] plus) (λ z. absurd (omega (arith, z))))
read_to {E} (c ∷ cs) r plus h = by (nat_eq c 45) refl
  where
    by : (t : Bool) → nat_eq c 45 ≡ t → IsReadTo r (c ∷ cs)
    by true e = read_minus r c cs e (parse_signed_minus own w64 (c ∷ cs) r h (grind (arith, e)))
    by false e = read_plain r c cs e (parse_signed_plain own w64 (c ∷ cs) r h (no_plus (c ∷ cs) plus) (λ z. absurd (grind (arith, e, z))))

pub signed_is : {E : Type 0} (text : List ℕ) (r : Result ℤ E) (z : ℤ) → has_plus text ≡ false → ParsesSigned w64 10 text r → r ≡ Ok z → Some z ≡ signed_in text
signed_is {E} text r z plus h e = subst (λ (y : Result ℤ E). IsReadTo y text) e (read_to text r plus h)

pub signed_failed : {E : Type 0} (text : List ℕ) (r : Result ℤ E) (x : E) → has_plus text ≡ false → ParsesSigned w64 10 text r → r ≡ Err x → None ≡ signed_in text
signed_failed {E} text r x plus h e = subst (λ (y : Result ℤ E). IsReadTo y text) e (read_to text r plus h)

-- a number that is read is one of 64 bits
pub signed_fits : {E : Type 0} (text : List ℕ) (r : Result ℤ E) (z : ℤ) → ParsesSigned w64 10 text r → r ≡ Ok z → FitsSigned w64 z
signed_fits {E} text r z h e =
    let p : (IsNumeral 10 (without_leading_sign text) × FitsSigned w64 (signed_digits_value 10 text)) × (z ≡ signed_digits_value 10 text) = subst (λ (y : Result ℤ E). ParsesSigned w64 10 text y) e h in
    subst (λ (y : ℤ). FitsSigned w64 y) (sym p.1) p.0.1

pub signed_other : (text : List ℕ) → (IsUtf8 text → ⊥) → None ≡ signed_in text
signed_other [] h = refl
signed_other (c ∷ cs) h = by (nat_eq c 45) refl
  where
    by : (t : Bool) → nat_eq c 45 ≡ t → None ≡ signed_in (c ∷ cs)
    by true e = negative_none cs (λ d. h (IsUtf8-from_ascii (c ∷ cs) (after_minus c cs e d.0))) ∙ sym (signed_minus c cs e)
    by false e = plain_none (c ∷ cs) (λ d. h (IsUtf8-from_ascii (c ∷ cs) (digits_ascii (c ∷ cs) d.0))) ∙ sym (signed_plain c cs e)
