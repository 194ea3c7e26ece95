-- What is left to write of a list of texts.
use Rattle.std.proofs.Common.{ℕ, zero, suc, List, map, drop}
use Rattle.jl_program.specs.Text.{joined, joined_more}

-- texts from a place on, with ", " before each but the one at place 0
abbrev pub joined_from : ℕ → List (List ℕ) → List ℕ
joined_from zero ts = joined ts
joined_from (suc i) ts = joined_more ts

-- the texts of what is left of a list from a place on
abbrev pub rest : {X : Type 0} → (X → List ℕ) → List X → ℕ → List ℕ
rest f xs i = joined_from i (map f (drop i xs))
