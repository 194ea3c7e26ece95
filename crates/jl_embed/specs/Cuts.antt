-- Bytes that are cut at a byte.
use Rattle.std.specs.Prelude.{ℕ, cond, nat_eq, List, [], ◌∷◌, Option, None, Some}

-- a byte in front of what comes before the mark
abbrev pub longer : ℕ → Option (List ℕ × List ℕ) → Option (List ℕ × List ℕ)
longer b None = None
longer b (Some p) = Some (b ∷ p.0, p.1)

-- what comes before the first mark, and what comes after it
abbrev pub cut : ℕ → List ℕ → Option (List ℕ × List ℕ)
cut mark [] = None
cut mark (b ∷ bs) = cond (nat_eq b mark) (Some ([], bs)) (longer b (cut mark bs))
