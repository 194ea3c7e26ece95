-- The worlds around one in which a choice does not change: between two worlds of changes that touch a key (Belyakova et al.,
-- OOPSLA 2020).
use Rattle.std.specs.Prelude.{ℕ, ◌+◌, ◌≡◌, ◌<◌, ◌≤◌, ◌⊎◌, Option, None, Some}
use Rattle.jl_program.specs.Prelude.{prelude_count}
use Rattle.jl_rows.specs.declared.span.Span.{Span}

module _ (Is : ℕ → Type 0) where
  -- no such world is past the first and at most the other
  abbrev pub NoneBetween : ℕ → ℕ → Type 0
  NoneBetween first w = (d : ℕ) → Is d → first < d → d ≤ w → ⊥

  -- the first such world past a first one is the world after this last one; without a last one there is none
  abbrev pub EndsSo : ℕ → Option ℕ → Type 0
  EndsSo first None = (d : ℕ) → Is d → first < d → ⊥
  EndsSo first (Some last) = (first ≤ last) × Is (last + 1) × NoneBetween first last

  -- the span around a world begins at the last such world that is at most the world, or in the last world of the prelude where none
  -- past it is, and ends just before the next of them
  pub record IsSpanAt (w : ℕ) (span : Span) : Type 0 where
    pub begun : (span.first ≡ prelude_count) ⊎ ((prelude_count < span.first) × Is span.first)
    pub low : span.first ≤ w
    pub between : NoneBetween span.first w
    pub ends : EndsSo span.first span.last
