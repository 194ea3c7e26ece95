-- A value that stops at the greatest number.
use Rattle.std.proofs.Common.{◌≡◌, ℕ, ◌+◌, ◌-◌, ◌*◌, ◌^◌, ◌<◌, min, true, false, cond, ◌&&◌, ◌==◌, List, [], ◌∷◌, sym, ap, ◌∙◌, arith}
use Rattle.std.specs.Char.{is_ascii_digit}
use Rattle.jl_token.specs.Characters.{has_first}
use Rattle.jl_token.specs.Reading.{digits}

-- a value and a rest, where the value is at most the greatest `u64`
abbrev pub capped : ℕ × List ℕ → ℕ × List ℕ
capped p = (min p.0 (2 ^ 64 - 1), p.1)

pub capped-once : (n d : ℕ) → min (10 * min n (2 ^ 64 - 1) + d) (2 ^ 64 - 1) ≡ min (10 * n + d) (2 ^ 64 - 1)
capped-once n d = omega arith

-- digits behind two values that are the same up to the greatest `u64`
pub capped-digits : (m n : ℕ) (cs : List ℕ) → min m (2 ^ 64 - 1) ≡ min n (2 ^ 64 - 1) → capped (digits m cs) ≡ capped (digits n cs)
capped-digits m n [] e = ap (λ k. (k, [])) e
capped-digits m n (c ∷ cs) e =
    elim (is_ascii_digit c) as (λ t. capped (cond t (digits (10 * m + (c - 48)) cs) (cond ((c == 95) && has_first is_ascii_digit cs) (digits m cs) (m, c ∷ cs)))
    ≡ capped (cond t (digits (10 * n + (c - 48)) cs) (cond ((c == 95) && has_first is_ascii_digit cs) (digits n cs) (n, c ∷ cs)))) [
      | true ↦ capped-digits (10 * m + (c - 48)) (10 * n + (c - 48)) cs (omega arith)
      | false ↦
          elim ((c == 95) && has_first is_ascii_digit cs) as (λ t. capped (cond t (digits m cs) (m, c ∷ cs)) ≡ capped (cond t (digits n cs) (n, c ∷ cs))) [
            | true ↦ capped-digits m n cs e
            | false ↦ ap (λ k. (k, c ∷ cs)) e
          ]
    ]

-- one more digit
pub capped-digit : (n sat c : ℕ) (rest after : List ℕ) (all : ℕ × List ℕ) → rest ≡ c ∷ after → is_ascii_digit c ≡ true
    → sat ≡ min (min (n * 10) (2 ^ 64 - 1) + (c - 48)) (2 ^ 64 - 1) → capped (digits n rest) ≡ all → capped (digits sat after) ≡ all
capped-digit n sat c rest after all split digit is same =
    let step : digits n rest ≡ digits (10 * n + (c - 48)) after = ap (digits n) split ∙ ap (λ t. cond t (digits (10 * n + (c - 48)) after) (cond ((c == 95) && has_first is_ascii_digit after) (digits n after) (n, c ∷ after))) digit in
    capped-digits sat (10 * n + (c - 48)) after (omega arith) ∙ sym (ap capped step) ∙ same

-- no more digits
pub capped-ends : (n : ℕ) (rest : List ℕ) (all : ℕ × List ℕ) → n < 2 ^ 64 → digits n rest ≡ (n, rest) → capped (digits n rest) ≡ capped all → n ≡ min all.0 (2 ^ 64 - 1)
capped-ends n rest all small ends same =
    let e : min n (2 ^ 64 - 1) ≡ min all.0 (2 ^ 64 - 1) = ap (λ p. p.0) (sym (ap capped ends) ∙ same) in
    omega arith

pub digits-stop : (n c : ℕ) (rest after : List ℕ) → rest ≡ c ∷ after → is_ascii_digit c ≡ false → ((c == 95) && has_first is_ascii_digit after) ≡ false → digits n rest ≡ (n, rest)
digits-stop n c rest after split other stop =
    ap (digits n) split
    ∙ ap (λ t. cond t (digits (10 * n + (c - 48)) after) (cond ((c == 95) && has_first is_ascii_digit after) (digits n after) (n, c ∷ after))) other
    ∙ ap (λ t. cond t (digits n after) (n, c ∷ after)) stop
    ∙ ap (λ l. (n, l)) (sym split)

pub digits-end : (n : ℕ) (rest : List ℕ) → rest ≡ [] → digits n rest ≡ (n, rest)
digits-end n rest ends = ap (digits n) ends ∙ ap (λ l. (n, l)) (sym ends)

pub capped-rest : (n : ℕ) (rest : List ℕ) (all : ℕ × List ℕ) → digits n rest ≡ (n, rest) → capped (digits n rest) ≡ capped all → rest ≡ all.1
capped-rest n rest all ends same = ap (λ p. p.1) (sym (ap capped ends) ∙ same)
