-- The choice for a key in each world in which it may become another.
use Rattle.std.specs.Prelude.{ℕ, ◌≡◌, ◌<◌, ◌≤◌, List, map, length, get_or, Option, None, Some}
use Rattle.std.specs.List.{All, Contains}
use Rattle.std.specs.List.Sorted.{IsStrictlyIncreasing}
use Rattle.jl_model.specs.declared.ty.Key.{Key}
use Rattle.jl_program.specs.declared.tree.Program.{Program}
use Rattle.jl_program.specs.Prelude.{prelude_count}
use Rattle.jl_calculus.specs.declared.history.Change.{Change}
use Rattle.jl_calculus.specs.declared.history.Change.TheVariants as Ch
use Rattle.jl_calculus.specs.declared.history.Event.{Event}
use Rattle.jl_calculus.specs.declared.history.Event.TheVariants as Ev
use Rattle.jl_calculus.specs.Ranges.{Touches}
use Rattle.jl_calculus.specs.World.{world_of, Selects}
use Rattle.jl_reflect.specs.declared.choices.Chosen.{Chosen}

-- the change that an event makes
abbrev pub change_in : Event → Option Change
change_in (Ev.Def task site) = Some (Ch.Def site)
change_in (Ev.Del task place) = Some (Ch.Del place)
change_in (Ev.Begin fuel) = None
change_in (Ev.Key key) = None
change_in (Ev.Fill key site first) = None
change_in (Ev.Spawn task child start) = None
change_in (Ev.Done task ended) = None

abbrev pub worlds : List Chosen → List ℕ
worlds all = map (λ (c : Chosen). c.world) all

-- in each of these worlds this is chosen
abbrev pub AreSelected : Program → List Event → Key → List Chosen → Type 0
AreSelected P es key all = All (λ (c : Chosen). Selects P es key.function key.types c.world c.choice) all

-- the worlds, up to the one that so many events make, in which the choice for a key may become another, with the choice in each
pub record AreChosenUpTo (P : Program) (es : List Event) (key : Key) (newest : ℕ) (all : List Chosen) : Type 0 where
  pub begins : 0 < length all
  pub first : get_or (worlds all) 0 0 ≡ prelude_count
  pub ordered : IsStrictlyIncreasing (worlds all)
  pub within : All (λ w. (prelude_count ≤ w) × (w ≤ newest)) (worlds all)
  pub selected : AreSelected P es key all
  pub whole : (d : ℕ) → prelude_count < d → d ≤ newest → Touches P es d key → Contains (worlds all) d

-- those of a whole history
abbrev pub AreChosen : Program → List Event → Key → List Chosen → Type 0
AreChosen P es key all = AreChosenUpTo P es key (world_of es) all
