-- Below, member by member.
use Rattle.std.specs.Prelude.{List, [], ◌∷◌, ◌⊎◌}
use Rattle.jl_model.specs.declared.ty.Ty.{Ty}
use Rattle.jl_model.specs.Subtype.{Table, opaque, Below}

-- each is below u
abbrev pub EachBelow : Table → List Ty → Ty → Type 0
EachBelow n [] u = Unit {0}
EachBelow n (t ∷ ts) u = Below n opaque t u × EachBelow n ts u

-- t is below some of them
abbrev pub BelowSome : Table → Ty → List Ty → Type 0
BelowSome n t [] = ⊥
BelowSome n t (u ∷ us) = Below n opaque t u ⊎ BelowSome n t us
