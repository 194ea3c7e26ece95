-- A word is looked for only among those of its own length.
use Rattle.std.proofs.Common.{◌≡◌, ◌≢◌, ◌∙◌, refl, ap, sym, ℕ, ◌<◌, arith, Bool, true, false, cond, ◌||◌, ◌&&◌, nat_eq, nat_lt, List, [], ◌∷◌, length}
use Rattle.std.specs.List.{filter, list_any}
use Rattle.std.specs.Str.{bytes_eq}
use Rattle.std.specs.Cmp.Lexicographic.{unequal}
use Rattle.jl_token.specs.Characters.{may_be_reserved}

-- the word is in the list
abbrev pub is_in : List ℕ → List (List ℕ) → Bool
is_in w = list_any (λ u. bytes_eq u w)

module _ (w : List ℕ) (p : List ℕ → Bool) (out : (u : List ℕ) → p u ≡ false → length u ≢ length w) where
  step : (u : List ℕ) (us : List (List ℕ)) (b : Bool) → p u ≡ b → is_in w (filter p us) ≡ is_in w us → is_in w (cond b (u ∷ filter p us) (filter p us)) ≡ (bytes_eq u w || is_in w us)
  step u us true e same = ap (λ t. bytes_eq u w || t) same
  step u us false e same = same ∙ sym (ap (λ t. t || is_in w us) (unequal nat_eq u w (out u e)))

  -- what is left out is not the word
  pub kept : (us : List (List ℕ)) → is_in w (filter p us) ≡ is_in w us
  kept [] = refl
  kept (u ∷ us) = step u us (p u) refl (kept us)

-- a word of this length
pub of_length : (us : List (List ℕ)) (w : List ℕ) (n : ℕ) → length w ≡ n → is_in w (filter (λ u. nat_eq (length u) n) us) ≡ is_in w us
of_length us w n e = kept w (λ u. nat_eq (length u) n) (λ u no same. grind (arith, no, same, e)) us

-- a longer word
pub longer : (us : List (List ℕ)) (w : List ℕ) (n : ℕ) → n < length w → is_in w (filter (λ u. nat_lt n (length u)) us) ≡ is_in w us
longer us w n e = kept w (λ u. nat_lt n (length u)) (λ u no same. grind (arith, no, same, e)) us

same_word : (xs ys : List ℕ) → bytes_eq xs ys ≡ true → xs ≡ ys
same_word [] [] h = refl
same_word [] (y ∷ ys) h = absurd (let f : false ≡ true = h in cc)
same_word (x ∷ xs) [] h = absurd (let f : false ≡ true = h in cc)
same_word (x ∷ xs) (y ∷ ys) h = by (nat_eq x y) refl h (same_word xs ys)
  where
    by : (b : Bool) → nat_eq x y ≡ b → (b && bytes_eq xs ys) ≡ true → (bytes_eq xs ys ≡ true → xs ≡ ys) → x ∷ xs ≡ y ∷ ys
    by true e g r = let p : x ≡ y = grind (arith, e) in let q = r g in cc
    by false e g r = absurd (let f : false ≡ true = g in cc)

-- each word of a list begins as a reserved word may
abbrev pub may_all_be_reserved : List (List ℕ) → Bool
may_all_be_reserved [] = true
may_all_be_reserved (u ∷ us) = may_be_reserved u && may_all_be_reserved us

-- what does not begin so is none of words that do
pub not_in : (us : List (List ℕ)) (w : List ℕ) → may_all_be_reserved us ≡ true → may_be_reserved w ≡ false → is_in w us ≡ false
not_in [] w h e = refl
not_in (u ∷ us) w h e = by (may_be_reserved u) (bytes_eq u w) refl refl h (λ z. not_in us w z e)
  where
    by : (s b : Bool) → may_be_reserved u ≡ s → bytes_eq u w ≡ b → (s && may_all_be_reserved us) ≡ true → (may_all_be_reserved us ≡ true → is_in w us ≡ false) → (b || is_in w us) ≡ false
    by false b f g h1 r = absurd (let z : false ≡ true = h1 in cc)
    by true false f g h1 r = r h1
    by true true f g h1 r = let i = same_word u w g in absurd (let z : true ≡ false = sym f ∙ ap may_be_reserved i ∙ e in cc)
