-- Which texts are names, computed.
use Rattle.std.proofs.Common.{◌≡◌, refl, true, false, codes, [], ◌∷◌}
use Rattle.jl_program.specs.Names.{is_free_name, is_field_name}
use Rattle.jl_program.proofs.Computing.{names}

plain_name : is_free_name (codes "f") ≡ true
unfolding names
plain_name = refl

name_with_digits : is_free_name (codes "ab1_2") ≡ true
unfolding names
name_with_digits = refl

underscore : is_free_name (codes "_") ≡ true
unfolding names
underscore = refl

-- the letter é in UTF-8, and the letter π in front of a digit
letter : is_free_name (195 ∷ 169 ∷ []) ≡ true
unfolding names
letter = refl

letter_and_digit : is_free_name (207 ∷ 128 ∷ 50 ∷ []) ≡ true
unfolding names
letter_and_digit = refl

no_empty_name : is_free_name [] ≡ false
unfolding names
no_empty_name = refl

no_digit_first : is_free_name (codes "1x") ≡ false
unfolding names
no_digit_first = refl

no_reserved : is_free_name (codes "end") ≡ false
unfolding names
no_reserved = refl

no_builtin : is_free_name (codes "println") ≡ false
unfolding names
no_builtin = refl

no_operator : is_free_name (codes "+") ≡ false
unfolding names
no_operator = refl

-- a first byte of two without the second
no_utf8 : is_free_name (195 ∷ []) ≡ false
unfolding names
no_utf8 = refl

field_like_builtin : is_field_name (codes "print") ≡ true
unfolding names
field_like_builtin = refl

no_reserved_field : is_field_name (codes "end") ≡ false
unfolding names
no_reserved_field = refl
