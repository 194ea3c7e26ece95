-- How many of some numbers in order are up to another.
use Rattle.std.specs.Prelude.{ℕ, ◌<◌, ◌≤◌, List, length, get_or}

-- so many are at most this number, and all after them are above it
pub record IsCountUpTo (ns : List ℕ) (most count : ℕ) : Type 0 where
  pub within : count ≤ length ns
  pub low : (k : ℕ) → k < count → get_or ns k 0 ≤ most
  pub high : (k : ℕ) → count ≤ k → k < length ns → most < get_or ns k 0
