-- When a method is to run in place of another one that applies too, told by these two alone.
use Rattle.std.specs.Prelude.{◌≡◌, ◌<◌, ◌⊎◌}
use Rattle.jl_model.specs.Choice.{Method}
use Rattle.jl_model.specs.Signature.{SigBelow}
use Rattle.jl_model.specs.Subtype.{Table}

-- it is the same, or its signature is below the other's, which is earlier or whose signature is not below in turn
abbrev pub Precedes : Table → Method → Method → Type 0
Precedes n m o = (o.number ≡ m.number) ⊎ (SigBelow n m.sig o.sig × ((o.number < m.number) ⊎ (SigBelow n o.sig m.sig → ⊥)))
