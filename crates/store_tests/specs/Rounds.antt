-- The history in which the first definition of a script is made again and again, with a row for each world.
use Rattle.std.specs.Prelude.{ℕ, zero, suc, ◌+◌, ◌≡◌, List, [], ◌∷◌, ◌++◌}
use Rattle.jl_model.specs.declared.ty.Key.{Key}
use Rattle.jl_calculus.specs.declared.history.Event.{Event}
use Rattle.jl_calculus.specs.declared.history.Event.TheVariants as Ev
use Rattle.jl_world.specs.declared.view.BookView.{BookView}
use Rattle.jl_world.specs.Views.{HasTask}

-- the key of a call of `f`
abbrev pub f_key : Key
f_key = record { function = 12; types = [] }

-- a row that begins in the newest world, and a definition that ends it
abbrev pub rounds : ℕ → List Event
rounds zero = []
rounds (suc n) = rounds n ++ Ev.Fill 0 14 (15 + n) ∷ Ev.Def 0 14 ∷ []

abbrev pub history : ℕ → ℕ → List Event
history fuel n = Ev.Begin fuel ∷ Ev.Def 0 14 ∷ Ev.Key f_key ∷ rounds n

-- after so many rounds
pub record IsRound (fuel n : ℕ) (b : BookView) : Type 0 where
  pub events : b.events ≡ history fuel n
  pub held : HasTask 0 b.held
  pub uncut : b.cut ≡ []
