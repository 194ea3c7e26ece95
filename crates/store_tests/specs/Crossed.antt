-- What the index notes: four definitions, the first and the last of one site, and a key after the first.
use Rattle.std.specs.Prelude.{List, [], ◌∷◌}
use Rattle.jl_model.specs.declared.ty.Key.{Key}
use Rattle.jl_calculus.specs.declared.history.Event.{Event}
use Rattle.jl_calculus.specs.declared.history.Event.TheVariants as Ev

abbrev pub begun : List Event
begun = Ev.Begin 0 ∷ []

abbrev pub one_made : List Event
one_made = Ev.Begin 0 ∷ Ev.Def 0 14 ∷ []

abbrev pub keyed : Key → List Event
keyed key = Ev.Begin 0 ∷ Ev.Def 0 14 ∷ Ev.Key key ∷ []

abbrev pub two_made : Key → List Event
two_made key = Ev.Begin 0 ∷ Ev.Def 0 14 ∷ Ev.Key key ∷ Ev.Def 0 15 ∷ []

abbrev pub three_made : Key → List Event
three_made key = Ev.Begin 0 ∷ Ev.Def 0 14 ∷ Ev.Key key ∷ Ev.Def 0 15 ∷ Ev.Def 0 16 ∷ []

abbrev pub four_made : Key → List Event
four_made key = Ev.Begin 0 ∷ Ev.Def 0 14 ∷ Ev.Key key ∷ Ev.Def 0 15 ∷ Ev.Def 0 16 ∷ Ev.Def 0 14 ∷ []
