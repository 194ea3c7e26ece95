-- Numerals: what the digits at the front are, and that a numeral is read whole.
use Rattle.std.proofs.Common.{◌≡◌, ℕ, ◌+◌, ◌-◌, ◌*◌, true, false, cond, ◌&&◌, ◌==◌, List, [], ◌∷◌, ◌++◌, refl, sym, ap, ◌∙◌, subst, append_assoc, arith}
use Rattle.std.proofs.lemmas.Bool.{eqb-true}
use Rattle.std.proofs.lemmas.List.{append-nil}
use Rattle.std.specs.Char.{is_ascii_digit}
use Rattle.jl_token.specs.Characters.{has_first}
use Rattle.jl_token.specs.Grammar.{Numeral, digit, digit_more, digit_joined, NumeralEnds}
use Rattle.jl_token.specs.Reading.{digits}
use Rattle.jl_token.proofs.Choices.{if-sound, both-and}

abbrev step : ℕ → ℕ → ℕ
step n c = 10 * n + (c - 48)

pub digits-one : (n c : ℕ) (cs : List ℕ) → is_ascii_digit c ≡ true → digits n (c ∷ cs) ≡ digits (step n c) cs
digits-one n c cs e = ap (λ t. cond t (digits (step n c) cs) (cond ((c == 95) && has_first is_ascii_digit cs) (digits n cs) (n, c ∷ cs))) e

pub digits-over : (n d : ℕ) (cs : List ℕ) → is_ascii_digit d ≡ true → digits n (95 ∷ d ∷ cs) ≡ digits (step n d) cs
digits-over n d cs e = ap (λ t. cond t (digits n (d ∷ cs)) (n, 95 ∷ d ∷ cs)) e ∙ digits-one n d cs e

pub digits-last : (n : ℕ) (rest : List ℕ) → NumeralEnds rest → digits n rest ≡ (n, rest)
digits-last n [] ends = refl
digits-last n (c ∷ cs) ends =
    ap (λ t. cond t (digits (step n c) cs) (cond ((c == 95) && has_first is_ascii_digit cs) (digits n cs) (n, c ∷ cs))) ends.0
    ∙ ap (λ t. cond t (digits n cs) (n, c ∷ cs)) ends.1

-- a numeral is read whole
pub numeral-goes : (w : List ℕ) (n : ℕ) → Numeral w n → (rest : List ℕ) → digits 0 (w ++ rest) ≡ digits n rest
numeral-goes _ _ (digit c is) rest = let same : step 0 c ≡ c - 48 = omega arith in digits-one 0 c rest is ∙ ap (λ k. digits k rest) same
numeral-goes _ _ (digit_more w n c before is) rest = ap (digits 0) (append_assoc w (c ∷ []) rest) ∙ numeral-goes w n before (c ∷ rest) ∙ digits-one n c rest is
numeral-goes _ _ (digit_joined w n c before is) rest = ap (digits 0) (append_assoc w (95 ∷ c ∷ []) rest) ∙ numeral-goes w n before (95 ∷ c ∷ rest) ∙ digits-over n c rest is

-- the text is a numeral of this value, and this rest, where no further digit follows
pub record IsNumeral (text : List ℕ) (found : ℕ × List ℕ) : Type 0 where
  pub front : List ℕ
  pub split : text ≡ front ++ found.1
  pub numeral : Numeral front found.0
  pub ends : NumeralEnds found.1

moved : (text other : List ℕ) (found : ℕ × List ℕ) → text ≡ other → IsNumeral other found → IsNumeral text found
moved text other found e i = record { front = i.front; split = e ∙ i.split; numeral = i.numeral; ends = i.ends }

-- the digits behind a numeral go on with it
pub digits-numeral : (cs w : List ℕ) (n : ℕ) → Numeral w n → IsNumeral (w ++ cs) (digits n cs)
digits-numeral [] w n before = record { front = w; split = refl; numeral = before; ends = (refl, refl) }
digits-numeral (c ∷ []) w n before =
    if-sound (IsNumeral (w ++ c ∷ [])) (is_ascii_digit c) (step n c, []) (cond ((c == 95) && false) (n, []) (n, c ∷ []))
    (λ is. record { front = w ++ c ∷ []; split = sym (append-nil (w ++ c ∷ [])); numeral = digit_more w n c before is; ends = (refl, refl) })
    (λ other. if-sound (IsNumeral (w ++ c ∷ [])) ((c == 95) && false) (n, []) (n, c ∷ [])
    (λ joined. let never : false ≡ true = (both-and (c == 95) false joined).1 in absurd cc)
    (λ stops. record { front = w; split = refl; numeral = before; ends = (other, stops) }))
digits-numeral (c ∷ d ∷ cs) w n before =
    if-sound (IsNumeral (w ++ c ∷ d ∷ cs)) (is_ascii_digit c) (digits (step n c) (d ∷ cs)) (cond ((c == 95) && is_ascii_digit d) (digits n (d ∷ cs)) (n, c ∷ d ∷ cs))
    (λ is. moved _ _ _ (sym (append_assoc w (c ∷ []) (d ∷ cs))) (digits-numeral (d ∷ cs) (w ++ c ∷ []) (step n c) (digit_more w n c before is)))
    (λ other. if-sound (IsNumeral (w ++ c ∷ d ∷ cs)) ((c == 95) && is_ascii_digit d) (digits n (d ∷ cs)) (n, c ∷ d ∷ cs)
    (λ joined.
    let both = both-and (c == 95) (is_ascii_digit d) joined in
    let over : w ++ c ∷ d ∷ cs ≡ (w ++ 95 ∷ d ∷ []) ++ cs = ap (λ k. w ++ k ∷ d ∷ cs) (eqb-true c 95 both.0) ∙ sym (append_assoc w (95 ∷ d ∷ []) cs) in
    subst (IsNumeral (w ++ c ∷ d ∷ cs)) (sym (digits-one n d cs both.1)) (moved _ _ _ over (digits-numeral cs (w ++ 95 ∷ d ∷ []) (step n d) (digit_joined w n d before both.1))))
    (λ stops. record { front = w; split = refl; numeral = before; ends = (other, stops) }))

-- what the digits at the front of a text that begins with one are
pub digits-found : (c : ℕ) (cs : List ℕ) → is_ascii_digit c ≡ true → IsNumeral (c ∷ cs) (digits 0 (c ∷ cs))
digits-found c cs is =
    let same : step 0 c ≡ c - 48 = omega arith in
    subst (IsNumeral (c ∷ cs)) (sym (digits-one 0 c cs is ∙ ap (λ k. digits k cs) same)) (digits-numeral cs (c ∷ []) (c - 48) (digit c is))
