-- What reads take from a source and what writes add to a sink, where these tell it.
use Rattle.std.specs.Prelude.{◌≡◌, ℕ, ◌↔◌, List, [], ◌++◌, Option, None, Some, option_map, ⊤}

-- what is left before is these bytes and then what is left after; what tells nothing goes on telling nothing
abbrev pub Gives : (before : Option (List ℕ)) (bytes : List ℕ) (after : Option (List ℕ)) → Type 0
Gives before bytes after = before ≡ option_map (λ rest. bytes ++ rest) after

-- what is written after is what was written before and then these bytes; what tells nothing goes on telling nothing
abbrev pub Takes : (before : Option (List ℕ)) (bytes : List ℕ) (after : Option (List ℕ)) → Type 0
Takes before bytes after = after ≡ option_map (λ written. written ++ bytes) before

-- nothing is left, where that is told
abbrev pub NothingLeft : Option (List ℕ) → Type 0
NothingLeft None = ⊤
NothingLeft (Some rest) = rest ≡ []

-- a read of this many bytes: none exactly where nothing is left, where that is told
abbrev pub EndsExactly : (before : Option (List ℕ)) → ℕ → Type 0
EndsExactly None count = ⊤
EndsExactly (Some rest) count = (count ≡ 0) ↔ (rest ≡ [])
