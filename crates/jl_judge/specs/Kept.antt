-- Answers that are kept.
use Rattle.std.specs.Prelude.{ℕ, ◌≡◌, ◌<◌, Bool, List, length, get_or}

-- at the place of each number is what the test answers of it
abbrev pub AreAnswers : (ℕ → Bool) → List Bool → Type 0
AreAnswers test bs = (n : ℕ) (d : Bool) → n < length bs → get_or bs n d ≡ test n
