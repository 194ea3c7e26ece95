-- The methods of a host, by their numbers.
use Rattle.std.specs.Prelude.{ℕ, ◌≡◌, ◌<◌, List, length, get_or}

-- the first has number 0, and each other one the next
abbrev pub AreNumbered : List ℕ → Type 0
AreNumbered ns = (i : ℕ) → i < length ns → get_or ns i 0 ≡ i
