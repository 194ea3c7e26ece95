-- Identifiers: the characters of one, and what follows them.
use Rattle.std.proofs.Common.{◌≡◌, ℕ, true, false, cond, List, [], ◌∷◌, ◌++◌, refl, ap, ◌∙◌}
use Rattle.std.specs.List.{AllByRecursion}
use Rattle.jl_token.specs.Characters.{is_word_part, has_first}
use Rattle.jl_token.specs.Reading.{word, after_word}
use Rattle.jl_token.proofs.Choices.{if-sound}

-- the text is the characters that continue an identifier, and what follows them
pub word-split : (cs : List ℕ) → word cs ++ after_word cs ≡ cs
word-split [] = refl
word-split (c ∷ cs) =
    elim (is_word_part c) as (λ t. cond t (c ∷ word cs) [] ++ cond t (after_word cs) (c ∷ cs) ≡ c ∷ cs) [
      | true ↦ ap (λ l. c ∷ l) (word-split cs)
      | false ↦ refl
    ]

abbrev pub Continue : List ℕ → Type 0
Continue = AllByRecursion (λ d. is_word_part d ≡ true)

pub word-continues : (cs : List ℕ) → Continue (word cs)
word-continues [] = tt
word-continues (c ∷ cs) = if-sound Continue (is_word_part c) (c ∷ word cs) [] (λ goes. (goes, word-continues cs)) (λ _. tt)

abbrev Stops : List ℕ → Type 0
Stops rest = has_first is_word_part rest ≡ false

pub after_word-stops : (cs : List ℕ) → Stops (after_word cs)
after_word-stops [] = refl
after_word-stops (c ∷ cs) = if-sound Stops (is_word_part c) (after_word cs) (c ∷ cs) (λ _. after_word-stops cs) (λ stops. stops)

-- an identifier's characters, before what can't continue it, are read whole
pub word-goes : (w rest : List ℕ) → Continue w → Stops rest → (word (w ++ rest) ≡ w) × (after_word (w ++ rest) ≡ rest)
word-goes [] [] all stops = (refl, refl)
word-goes [] (c ∷ rest) all stops = (ap (λ t. cond t (c ∷ word rest) []) stops, ap (λ t. cond t (after_word rest) (c ∷ rest)) stops)
word-goes (c ∷ w) rest all stops =
    let more = word-goes w rest all.1 stops in (
      ap (λ t. cond t (c ∷ word (w ++ rest)) []) all.0 ∙ ap (λ l. c ∷ l) more.0,
      ap (λ t. cond t (after_word (w ++ rest)) (c ∷ w ++ rest)) all.0 ∙ more.1,
    )
