-- The shortest list of ranges of worlds in which one thing is chosen for a key (Julia manual, Redefining Methods; Belyakova et al.,
-- OOPSLA 2020).
use Rattle.std.specs.Prelude.{ℕ, ◌+◌, ◌<◌, ◌≤◌, List, [], ◌∷◌, length, None, Some}
use Rattle.jl_model.specs.declared.ty.Key.{Key}
use Rattle.jl_program.specs.declared.choice.Choice.{Choice}
use Rattle.jl_program.specs.declared.tree.Program.{Program}
use Rattle.jl_program.specs.Prelude.{prelude_count}
use Rattle.jl_calculus.specs.declared.history.Event.{Event}
use Rattle.jl_calculus.specs.World.{world_of, Selects}
use Rattle.jl_reflect.specs.declared.ranges.Span.{Span}

module _ (P : Program) (es : List Event) (key : Key) where
  -- in each of these worlds this is chosen
  abbrev pub IsChosenFrom : ℕ → ℕ → Choice → Type 0
  IsChosenFrom first last c = (w : ℕ) → first ≤ w → w ≤ last → Selects P es key.function key.types w c

  -- the ranges cover the worlds from a first one to the newest once each, in order, with one choice each; the last has no end
  pub data CoverWorlds : ℕ → List Span → Type 0 where
    ends : (first : ℕ) (c : Choice) → first ≤ world_of es → IsChosenFrom first (world_of es) c → CoverWorlds first (record { first = first; last = None; choice = c } ∷ [])
    goes_on : (first last : ℕ) (c : Choice) (rest : List Span) → first ≤ last → last < world_of es → IsChosenFrom first last c → CoverWorlds (last + 1) rest
        → CoverWorlds first (record { first = first; last = Some last; choice = c } ∷ rest)

  -- they cover the worlds from that in which a script begins, and no shorter list does
  pub record AreSpans (spans : List Span) : Type 0 where
    pub covers : CoverWorlds prelude_count spans
    pub shortest : (others : List Span) → CoverWorlds prelude_count others → length spans ≤ length others
