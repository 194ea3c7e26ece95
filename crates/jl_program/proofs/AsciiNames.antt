-- ASCII letters and digits, a letter first, are an identifier.
use Rattle.std.proofs.Common.{◌≡◌, ◌∙◌, refl, ap, ℕ, zero, suc, ◌<◌, ◌≤◌, arith, Bool, true, false, ◌&&◌, ◌||◌, ◌==◌, nat_le, leb-true, List, [], ◌∷◌}
use Rattle.std.specs.List.{list_all}
use Rattle.std.specs.Char.{is_ascii_alphabetic}
use Rattle.std.specs.Str.{IsAscii}
use Rattle.std.proofs.lemmas.Str.{IsUtf8-from_ascii, is_utf8-from_IsUtf8, chars-IsAscii}
use Rattle.unicode_ident.proofs.IdentLemmas.{is_xid_start-ascii, is_xid_continue-ascii}
use Rattle.jl_program.specs.Names.{is_lower, is_upper, is_digit, starts_name, continues_name, is_word, is_identifier}

-- an ASCII letter or digit
abbrev pub is_letter_or_digit : ℕ → Bool
is_letter_or_digit c = is_lower c || (is_upper c || is_digit c)

both : (a b : Bool) → a ≡ true → b ≡ true → (a && b) ≡ true
both a b p q = rw (p, q) refl

left : (a b : Bool) → (a && b) ≡ true → a ≡ true
left true b e = refl
left false b e = cc

right : (a b : Bool) → (a && b) ≡ true → b ≡ true
right true b e = e
right false b e = cc

within : (low high c : ℕ) → (nat_le low c && nat_le c high) ≡ true → (low ≤ c) × (c ≤ high)
within low high c e = (leb-true low c (left _ _ e), leb-true c high (right (nat_le low c) _ e))

starts : (c : ℕ) → is_lower c ≡ true → starts_name c ≡ true
starts c e = let w = within 97 122 c e in ap (λ b. b || (c == 95)) (is_xid_start-ascii c (omega (arith, w.1)) ∙ alphabetic c e)
  where
    alphabetic : (c : ℕ) → is_lower c ≡ true → is_ascii_alphabetic c ≡ true
    alphabetic c e = elim (is_upper c) as (λ b. (b || is_lower c) ≡ true) [ true ↦ refl | false ↦ e ]

turned : (a b d z : Bool) → (a || (b || d)) ≡ true → ((((d || b) || a) || z) || z) ≡ true
turned true true true z e = refl
turned true true false z e = refl
turned true false true z e = refl
turned true false false z e = refl
turned false true true z e = refl
turned false true false z e = refl
turned false false true z e = refl
turned false false false z e = cc

either : (P : Type 0) (a b : Bool) → (a || b) ≡ true → (a ≡ true → P) → (b ≡ true → P) → P
either P true b e f g = f refl
either P false b e f g = g e

small : (c : ℕ) → is_letter_or_digit c ≡ true → c < 128
small c e =
    either (c < 128) (is_lower c) _ e (λ l. omega (arith, (within 97 122 c l).1))
    (λ r. either (c < 128) (is_upper c) _ r (λ u. omega (arith, (within 65 90 c u).1)) (λ d. omega (arith, (within 48 57 c d).1)))

continues : (c : ℕ) → is_letter_or_digit c ≡ true → continues_name c ≡ true
continues c e = ap (λ b. b || (c == 95)) (is_xid_continue-ascii c (small c e)) ∙ turned (is_lower c) (is_upper c) (is_digit c) (c == 95) e

all_continue : (cs : List ℕ) → list_all is_letter_or_digit cs ≡ true → list_all continues_name cs ≡ true
all_continue [] e = refl
all_continue (c ∷ cs) e = both _ _ (continues c (left _ _ e)) (all_continue cs (right (is_letter_or_digit c) _ e))

all_small : (cs : List ℕ) → list_all is_letter_or_digit cs ≡ true → IsAscii cs
all_small [] e i = omega arith
all_small (c ∷ cs) e zero = small c (left _ _ e)
all_small (c ∷ cs) e (suc i) = all_small cs (right (is_letter_or_digit c) _ e) i

pub ascii_identifier : (c : ℕ) (cs : List ℕ) → is_lower c ≡ true → list_all is_letter_or_digit cs ≡ true → is_identifier (c ∷ cs) ≡ true
ascii_identifier c cs l e =
    let ascii : IsAscii (c ∷ cs) = all_small (c ∷ cs) (both _ _ (ap (λ b. b || (is_upper c || is_digit c)) l) e) in
    both _ _ (is_utf8-from_IsUtf8 (c ∷ cs) (IsUtf8-from_ascii (c ∷ cs) ascii))
    (ap is_word (chars-IsAscii (c ∷ cs) ascii) ∙ both _ _ (starts c l) (all_continue cs e))
