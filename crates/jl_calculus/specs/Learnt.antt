-- What the seat of a task may have learnt of the first events of a history. Each item tells how many events it speaks of, and
-- asks that there are so many.
use Rattle.std.specs.Prelude.{ℕ, ◌≡◌, ◌≤◌, List, length, take, slice_get, Some}
use Rattle.jl_model.specs.declared.ty.Ty.{Ty}
use Rattle.jl_model.specs.declared.ty.Key.{Key}
use Rattle.jl_calculus.specs.declared.history.Event.{Event}
use Rattle.jl_calculus.specs.declared.history.TraceItem.{TraceItem}
use Rattle.jl_program.specs.declared.choice.Choice.{Choice}
use Rattle.jl_program.specs.declared.tree.Program.{Program}
use Rattle.jl_calculus.specs.Kept.{Places, IsKeptFor}
use Rattle.jl_calculus.specs.Past.{IsTrueOf}
use Rattle.jl_calculus.specs.Ranges.{keys_of, IsCovered, SelectsSite}
use Rattle.jl_calculus.specs.World.{world_of, Selects}

pub data Learnt : Type 0 where
  -- an item of a trace
  traced : TraceItem → Learnt
  -- a key has this number
  named : (number : ℕ) (key : Key) (p : ℕ) → Learnt
  -- a call in a world has this choice
  answered : (function : ℕ) (types : List Ty) (w : ℕ) (choice : Choice) (p : ℕ) → Learnt
  -- a row of the key covers a world, in which a method of this site is chosen
  chosen : (number w site p : ℕ) → Learnt
  -- no row of the key covers a world
  uncovered : (number w p : ℕ) → Learnt
  -- a call in a world is kept for these places
  kept : (function : ℕ) (types : List Ty) (w : ℕ) (room : Places) (p : ℕ) → Learnt

-- a key has this number among the events
abbrev pub IsNamed : List Event → ℕ → Key → Type 0
IsNamed es number key = slice_get (keys_of es) number ≡ Some key

module _ (P : Program) where
  -- a row of the key of this number covers a world of the events, in which a method of this site is chosen
  pub record IsChosen (es : List Event) (number w site : ℕ) : Type 0 where
    pub known : w ≤ world_of es
    pub key : Key
    pub named : IsNamed es number key
    pub covered : IsCovered P es number key w
    pub choice : SelectsSite P es key w site

  -- no row of the key of this number covers the world
  abbrev pub IsUncovered : List Event → ℕ → ℕ → Type 0
  IsUncovered es number w = (key : Key) → IsNamed es number key → IsCovered P es number key w → ⊥

  -- an item is true of the events, for the task of the seat
  abbrev pub IsLearntOf : List Event → ℕ → Learnt → Type 0
  IsLearntOf es task (traced i) = IsTrueOf P es task i
  IsLearntOf es task (named number key p) = (p ≤ length es) × IsNamed (take p es) number key
  IsLearntOf es task (answered f ts w c p) = (p ≤ length es) × (w ≤ world_of (take p es)) × Selects P (take p es) f ts w c
  IsLearntOf es task (chosen number w site p) = (p ≤ length es) × IsChosen (take p es) number w site
  IsLearntOf es task (uncovered number w p) = (p ≤ length es) × IsUncovered (take p es) number w
  IsLearntOf es task (kept f ts w room p) = (p ≤ length es) × IsKeptFor P (take p es) room f ts w
