-- Types that a key may have: of integers, of truth values, of nothing and of tasks.
use Rattle.std.specs.Prelude.{ℕ, ◌+◌, ◌≡◌, ◌<◌, List, [], ◌∷◌}
use Rattle.jl_model.specs.declared.ty.Ty.{Ty}
use Rattle.jl_model.specs.Ancestors.{named}

abbrev pub IsSimple : Ty → Type 0
IsSimple t = (k : ℕ) × (k < 4) × (t ≡ named (4 + k))

abbrev pub AreSimple : List Ty → Type 0
AreSimple [] = Unit {0}
AreSimple (t ∷ ts) = IsSimple t × AreSimple ts
