-- What holds of each holds of every one.
use Rattle.std.proofs.Common.{refl, List, [], ◌∷◌}
use Rattle.std.specs.List.{Contains}
use Rattle.jl_methods.proofs.FilterLemmas.{here, there}
use Rattle.jl_subsig.specs.Side.{Every}

pub every_of : {X : Type 0} (Is : X → Type 0) (ds : List X) → ((d : X) → Contains ds d → Is d) → Every Is ds
every_of Is [] h = tt
every_of Is (d ∷ ds) h = (h d (here d d ds refl), every_of Is ds (λ e c. h e (there d e ds c)))
