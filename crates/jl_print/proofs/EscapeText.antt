-- The text of a string between its quotes: byte by byte it is what it is character by character.
use Rattle.std.proofs.Common.{◌≡◌, ℕ, suc, nat_lt, get_or, length, ◌≤◌, ◌<◌, Bool, true, false, not, cond, ◌&&◌, ◌||◌, ◌==◌, ◌⊎◌, inl, inr, List, [], ◌∷◌, ◌++◌, Some, refl, sym, ap, ◌∙◌, subst, append_assoc, arith}
use Rattle.std.proofs.Math.Utf8.{scalar, scalars, encode}
use Rattle.std.proofs.lemmas.Bool.{eqb-true, ne_eqb, ltb-true, ltb-false}
use Rattle.std.proofs.lemmas.List.{append-nil}
use Rattle.std.proofs.lemmas.Str.{encodes-append, encode_ascii, inside_one}
use Rattle.std.specs.Char.{encode_utf8}
use Rattle.std.specs.Str.{encode_utf8_all}
use Rattle.jl_token.specs.Characters.{escape}
use Rattle.jl_token.specs.Grammar.{Quoted, nothing, plain, escaped as taken}
use Rattle.jl_print.specs.Spelling.{is_special, escape_byte, escape_text}

pub escape_text-append : (a b : List ℕ) → escape_text (a ++ b) ≡ escape_text a ++ escape_text b
escape_text-append [] b = refl
escape_text-append (c ∷ a) b = ap (λ l. escape_byte c ++ l) (escape_text-append a b) ∙ sym (append_assoc (escape_byte c) (escape_text a) (escape_text b))

-- ---- bytes from 128 on stand for themselves

high : (b : ℕ) → 128 ≤ b → is_special b ≡ false
high b h = rw (ne_eqb b 34 (λ e. absurd (omega arith)), ne_eqb b 92 (λ e. absurd (omega arith)), ne_eqb b 36 (λ e. absurd (omega arith))) refl

high-byte : (b : ℕ) → 128 ≤ b → escape_byte b ≡ b ∷ []
high-byte b h = ap (λ t. cond t (92 ∷ b ∷ []) (b ∷ [])) (high b h)

-- ---- characters

low-char : (c : ℕ) → c < 128 → (t : Bool) → encode_utf8_all (cond t (92 ∷ c ∷ []) (c ∷ [])) ≡ cond t (92 ∷ c ∷ []) (c ∷ [])
low-char c h true = rw (encode_ascii 92 (omega arith), encode_ascii c h) refl
low-char c h false = rw (encode_ascii c h) refl

-- a text without special bytes stands for itself
plain-all : (bs : List ℕ) → ((k : ℕ) → k < length bs → is_special (get_or bs k 0) ≡ false) → escape_text bs ≡ bs
plain-all [] none = refl
plain-all (b ∷ bs) none =
    ap (λ t. cond t (92 ∷ b ∷ []) (b ∷ []) ++ escape_text bs) (none 0 (omega arith)) ∙ ap (λ l. b ∷ l) (plain-all bs (λ k l. none (suc k) (omega arith)))

inner-byte : (c k : ℕ) → 128 ≤ c → k < length (encode_utf8 c) → is_special (get_or (encode_utf8 c) k 0) ≡ false
inner-byte c k h l = by (nat_lt (get_or (encode_utf8 c) k 0) 128) refl
  where
    by : (t : Bool) → nat_lt (get_or (encode_utf8 c) k 0) 128 ≡ t → is_special (get_or (encode_utf8 c) k 0) ≡ false
    by false e = high (get_or (encode_utf8 c) k 0) (ltb-false (get_or (encode_utf8 c) k 0) 128 e)
    by true e =
        let low : get_or (encode_utf8 c) k 0 < 128 = ltb-true (get_or (encode_utf8 c) k 0) 128 e in
        let same : c ≡ get_or (encode_utf8 c) k 0 = inside_one c [] (encode_utf8 c) k (sym (append-nil (encode_utf8 c))) l low in
        absurd (omega (arith, low, h, same))

escape_text-scalar : (c : ℕ) → escape_text (encode_utf8 c) ≡ encode_utf8_all (escape_byte c)
escape_text-scalar c = by (nat_lt c 128) refl
  where
    by : (t : Bool) → nat_lt c 128 ≡ t → escape_text (encode_utf8 c) ≡ encode_utf8_all (escape_byte c)
    by true e =
        let h : c < 128 = ltb-true c 128 e in
        ap escape_text (encode_ascii c h) ∙ append-nil (escape_byte c) ∙ sym (low-char c h (is_special c))
    by false e =
        let h : 128 ≤ c = ltb-false c 128 e in
        plain-all (encode_utf8 c) (λ k l. inner-byte c k h l) ∙ sym (ap encode_utf8_all (high-byte c h) ∙ append-nil (encode_utf8 c))

-- both of two tests
both : (a b : Bool) → (a && b) ≡ true → (a ≡ true) × (b ≡ true)
both true b e = (refl, e)
both false b e = absurd cc

either : (a b : Bool) → (a || b) ≡ true → (a ≡ true) ⊎ (b ≡ true)
either true b e = inl refl
either false b e = inr e

pub scalars-append : (a b : List ℕ) → scalars a ≡ true → scalars b ≡ true → scalars (a ++ b) ≡ true
scalars-append [] b p q = q
scalars-append (c ∷ a) b p q = let x = both (scalar c) (scalars a) p in rw (x.0, scalars-append a b x.1 q) refl

pub escape_text-chars : (cs : List ℕ) → scalars cs ≡ true → escape_text (encode_utf8_all cs) ≡ encode_utf8_all (escape_text cs)
escape_text-chars [] s = refl
escape_text-chars (c ∷ cs) s =
    let b = both (scalar c) (scalars cs) s in
    escape_text-append (encode_utf8 c) (encode_utf8_all cs) ∙ ap (λ l. l ++ escape_text (encode_utf8_all cs)) (escape_text-scalar c)
    ∙ ap (λ l. encode_utf8_all (escape_byte c) ++ l) (escape_text-chars cs b.1) ∙ sym (encodes-append (escape_byte c) (escape_text cs))

byte-scalars : (c : ℕ) → scalar c ≡ true → (t : Bool) → scalars (cond t (92 ∷ c ∷ []) (c ∷ [])) ≡ true
byte-scalars c s true = rw s refl
byte-scalars c s false = rw s refl

pub escape_text-scalars : (cs : List ℕ) → scalars cs ≡ true → scalars (escape_text cs) ≡ true
escape_text-scalars [] s = refl
escape_text-scalars (c ∷ cs) s =
    let b = both (scalar c) (scalars cs) s in
    scalars-append (escape_byte c) (escape_text cs) (byte-scalars c b.0 (is_special c)) (escape_text-scalars cs b.1)

-- ---- the text is one of a string of these characters

special-escape : (c : ℕ) → is_special c ≡ true → escape c ≡ Some c
special-escape c e = by (either ((c == 34) || (c == 92)) (c == 36) e)
  where
    found : (k : ℕ) → escape k ≡ Some k → (c == k) ≡ true → escape c ≡ Some c
    found k g h = subst (λ d. escape d ≡ Some d) (sym (eqb-true c k h)) g

    first : (c == 34) ≡ true ⊎ (c == 92) ≡ true → escape c ≡ Some c
    first (inl h) = found 34 refl h
    first (inr h) = found 92 refl h

    by : ((c == 34) || (c == 92)) ≡ true ⊎ (c == 36) ≡ true → escape c ≡ Some c
    by (inl h) = first (either (c == 34) (c == 92) h)
    by (inr h) = found 36 refl h

quoted-more : (c : ℕ) (v bytes : List ℕ) (t : Bool) → is_special c ≡ t → Quoted v bytes → Quoted (cond t (92 ∷ c ∷ []) (c ∷ []) ++ v) (encode_utf8 c ++ bytes)
quoted-more c v bytes true e q = taken c c v bytes (special-escape c e) q
quoted-more c v bytes false e q = plain c v bytes (ap not e) q

pub quoted_escape_text : (cs : List ℕ) → Quoted (escape_text cs) (encode_utf8_all cs)
quoted_escape_text [] = nothing
quoted_escape_text (c ∷ cs) = quoted-more c (escape_text cs) (encode_utf8_all cs) (is_special c) refl (quoted_escape_text cs)

-- `÷`
pub divide_bytes : encode_utf8_all (247 ∷ []) ≡ 195 ∷ 183 ∷ []
unfolding encode
divide_bytes = refl
