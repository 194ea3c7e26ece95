-- Which changes touch a key, by flags, and what they tell of the row that covers a world.
use Rattle.std.specs.Prelude.{ℕ, ◌≡◌, ◌+◌, ◌-◌, ◌<◌, ◌≤◌, ◌⊎◌, ◌↔◌, Bool, true, cond, IsTrue, List, [], ◌∷◌, ◌++◌, Option, None, Some, slice_get}
use Rattle.jl_model.specs.declared.ty.Key.{Key}
use Rattle.jl_program.specs.declared.choice.Choice.TheVariants as C
use Rattle.jl_program.specs.declared.tree.Program.{Program}
use Rattle.jl_program.specs.Prelude.{prelude_count}
use Rattle.jl_calculus.specs.declared.history.Change.{Change}
use Rattle.jl_calculus.specs.declared.history.Change.TheVariants as Ch
use Rattle.jl_calculus.specs.declared.history.Def.{Def}
use Rattle.jl_calculus.specs.declared.history.Del.{Del}
use Rattle.jl_calculus.specs.declared.history.Event.{Event}
use Rattle.jl_calculus.specs.Ranges.{Head, head_of, HeadTouches, Covers, SelectsSite, MayBegin}
use Rattle.jl_calculus.specs.Words.{IsLastWorld}
use Rattle.jl_calculus.specs.World.{Selects}
use Rattle.jl_core.specs.declared.range.Range.{Range}

-- a change touches a key
abbrev pub IsTouching : Program → Key → Change → Type 0
IsTouching P key c = HeadTouches P (head_of P c) key

abbrev pub HeadIsOf : Option Head → ℕ → Type 0
HeadIsOf None f = ⊥
HeadIsOf (Some h) f = h.function ≡ f

-- a change is of a function
abbrev pub IsOfFunction : Program → ℕ → Change → Type 0
IsOfFunction P f c = HeadIsOf (head_of P c) f

-- a flag for each change tells whether this is true of it
abbrev pub AreFlags : (Change → Type 0) → List Change → List Bool → Type 0
AreFlags Q [] [] = Unit {0}
AreFlags Q (c ∷ cs) (b ∷ flags) = (IsTrue b ↔ Q c) × AreFlags Q cs flags
AreFlags Q [] (b ∷ flags) = ⊥
AreFlags Q (c ∷ cs) [] = ⊥

-- the definition that a change is, in the world that it makes
abbrev pub def_in : ℕ → Change → List Def
def_in w (Ch.Def site) = record { world = w; site = site } ∷ []
def_in w (Ch.Del place) = []

-- the deletion that it is
abbrev pub del_in : ℕ → Change → List Del
del_in w (Ch.Def site) = []
del_in w (Ch.Del place) = record { world = w; place = place } ∷ []

-- what the flagged changes are, which are numbered from here on
abbrev pub picked : {X : Type 0} → (ℕ → Change → List X) → ℕ → List Change → List Bool → List X
picked one n [] flags = []
picked one n (c ∷ cs) [] = []
picked one n (c ∷ cs) (b ∷ flags) = cond b (one n c) [] ++ picked one (n + 1) cs flags

-- the change that makes the world after this one is flagged
abbrev pub IsFlagged : List Bool → ℕ → Type 0
IsFlagged flags d = slice_get flags d ≡ Some true

-- the first world of the row that covers a world
pub record IsFirst (flags : List Bool) (w first : ℕ) : Type 0 where
  pub low : prelude_count ≤ first
  pub high : first ≤ w
  pub begun : (first ≡ prelude_count) ⊎ ((prelude_count < first) × IsFlagged flags (first - 1))
  pub going : (d : ℕ) → first ≤ d → d < w → IsFlagged flags d → ⊥

-- its last world, and 0 where it has no end
abbrev pub IsLast : List Bool → ℕ → ℕ → Type 0
IsLast flags w last =
    ((last ≡ 0) × ((d : ℕ) → w ≤ d → IsFlagged flags d → ⊥)) ⊎ ((w ≤ last) × IsFlagged flags last × ((d : ℕ) → w ≤ d → d < last → IsFlagged flags d → ⊥))

-- the row of a key that covers a world, with the site of the choice in that world
pub record IsRange (P : Program) (es : List Event) (key : Key) (w : ℕ) (range : Range) : Type 0 where
  pub begun : MayBegin P es key range.first
  pub choice : SelectsSite P es key w range.site
  pub covers : Covers P es key range.first w
  pub last : IsLastWorld P es key range.first range.last

-- or no method is chosen there
abbrev pub IsRangeOrNone : Program → List Event → Key → ℕ → Option Range → Type 0
IsRangeOrNone P es key w None = (d : ℕ) → Selects P es key.function key.types w (C.Method d) → ⊥
IsRangeOrNone P es key w (Some range) = IsRange P es key w range
