-- A name whose second byte is none of those that such names have is not looked for in a list of them.
use Rattle.std.proofs.Common.{◌≡◌, ◌∙◌, refl, ap, sym, ℕ, arith, Bool, true, false, ◌||◌, ◌&&◌, nat_eq, List, [], ◌∷◌}
use Rattle.jl_program.specs.Names.{same_text, is_among}
use Rattle.jl_written.specs.Meaning.{has_small_second}

same_word : (xs ys : List ℕ) → same_text xs ys ≡ true → xs ≡ ys
same_word [] [] h = refl
same_word [] (y ∷ ys) h = absurd (let f : false ≡ true = h in cc)
same_word (x ∷ xs) [] h = absurd (let f : false ≡ true = h in cc)
same_word (x ∷ xs) (y ∷ ys) h = by (nat_eq x y) refl h (same_word xs ys)
  where
    by : (b : Bool) → nat_eq x y ≡ b → (b && same_text xs ys) ≡ true → (same_text xs ys ≡ true → xs ≡ ys) → x ∷ xs ≡ y ∷ ys
    by true e g r = let p : x ≡ y = grind (arith, e) in let q = r g in cc
    by false e g r = absurd (let f : false ≡ true = g in cc)

-- each name of a list has such a second byte
abbrev pub are_small_second : List (List ℕ) → Bool
are_small_second [] = true
are_small_second (u ∷ us) = has_small_second u && are_small_second us

pub not_among : (us : List (List ℕ)) (w : List ℕ) → are_small_second us ≡ true → has_small_second w ≡ false → is_among w us ≡ false
not_among [] w h e = refl
not_among (u ∷ us) w h e = by (has_small_second u) (same_text w u) refl refl h (λ z. not_among us w z e)
  where
    by : (s b : Bool) → has_small_second u ≡ s → same_text w u ≡ b → (s && are_small_second us) ≡ true → (are_small_second us ≡ true → is_among w us ≡ false) → (b || is_among w us) ≡ false
    by false b f g h1 r = absurd (let z : false ≡ true = h1 in cc)
    by true false f g h1 r = r h1
    by true true f g h1 r = let i = same_word w u g in absurd (let z : true ≡ false = sym f ∙ ap has_small_second (sym i) ∙ e in cc)
