-- Digits are read off the front of a text.
use Rattle.std.proofs.Common.{◌≡◌, ℕ, ◌+◌, ◌-◌, ◌*◌, ◌≤◌, ◌<◌, true, false, cond, ◌&&◌, ◌==◌, List, [], ◌∷◌, length, ap, arith}
use Rattle.std.specs.Char.{is_ascii_digit, encode_utf8}
use Rattle.std.specs.Str.{IsUtf8, chars, encode_utf8_all}
use Rattle.std.proofs.lemmas.Str.{length-encode, len_utf8_bounds}
use Rattle.std.proofs.lemmas.List.{length-append}
use Rattle.jl_token.specs.Characters.{has_first, width}
use Rattle.jl_token.specs.Reading.{digits}
use Rattle.jl_token.proofs.Texts.{width-chars}

-- each character takes a byte or more
pub width-cons : (c : ℕ) (cs : List ℕ) → width cs < width (c ∷ cs)
width-cons c cs = omega (arith, length-append (encode_utf8 c) (encode_utf8_all cs), length-encode c, (len_utf8_bounds c).0)

pub digits-width : (n : ℕ) (cs : List ℕ) → width (digits n cs).1 ≤ width cs
digits-width n [] = omega arith
digits-width n (c ∷ cs) =
    elim (is_ascii_digit c) as (λ t. width (cond t (digits (10 * n + (c - 48)) cs) (cond ((c == 95) && has_first is_ascii_digit cs) (digits n cs) (n, c ∷ cs))).1 ≤ width (c ∷ cs)) [
      | true ↦ omega (arith, digits-width (10 * n + (c - 48)) cs, width-cons c cs)
      | false ↦
          elim ((c == 95) && has_first is_ascii_digit cs) as (λ t. width (cond t (digits n cs) (n, c ∷ cs)).1 ≤ width (c ∷ cs)) [
            | true ↦ omega (arith, digits-width n cs, width-cons c cs)
            | false ↦ omega arith
          ]
    ]

digits-shorter : (cs : List ℕ) → has_first is_ascii_digit cs ≡ true → width (digits 0 cs).1 < width cs
digits-shorter [] digit = absurd cc
digits-shorter (c ∷ cs) digit =
    let step : digits 0 (c ∷ cs) ≡ digits (10 * 0 + (c - 48)) cs = ap (λ t. cond t (digits (10 * 0 + (c - 48)) cs) (cond ((c == 95) && has_first is_ascii_digit cs) (digits 0 cs) (0, c ∷ cs))) digit in
    omega (arith, ap (λ p. width p.1) step, digits-width (10 * 0 + (c - 48)) cs, width-cons c cs)

pub digits-progress : (text rest : List ℕ) → IsUtf8 text → IsUtf8 rest → chars rest ≡ (digits 0 (chars text)).1 → has_first is_ascii_digit (chars text) ≡ true → length rest < length text
digits-progress text rest utf8 rest-utf8 is digit = omega (arith, width-chars text utf8, width-chars rest rest-utf8, ap width is, digits-shorter (chars text) digit)
