-- Which variables are those of a row, told by a flag for each, from the last variable to the first: a bound mentions only variables
-- before its own.
use Rattle.std.specs.Prelude.{ℕ, ◌+◌, ◌<◌, Bool, false, ◌&&◌, ◌||◌, not, List, [], ◌∷◌}
use Rattle.std.specs.List.{list_all, Contains}
use Rattle.jl_model.specs.declared.ty.Ty.{Ty}
use Rattle.jl_model.specs.declared.ty.Bound.{Bound}
use Rattle.jl_model.specs.declared.ty.Written.{Written}
use Rattle.jl_model.specs.Rows.{width, high, vars_in}
use Rattle.jl_search.specs.Absent.{lacks}

-- of m variables, v stands in the upper bound of one that has its flag, where `bs` and `fs` are the bounds and flags of some
abbrev pub in_flagged : ℕ → ℕ → List Bound → List Bool → Bool
in_flagged m v [] fs = false
in_flagged m v (b ∷ bs) [] = false
in_flagged m v (b ∷ bs) (f ∷ fs) = (f && not (lacks m v b.high)) || in_flagged m v bs fs

-- it stands in the row, or in such a bound
abbrev pub is_flagged : ℕ → List Ty → ℕ → List Bound → List Bool → Bool
is_flagged m row v bs fs = not (list_all (lacks m v) row) || in_flagged m v bs fs

-- the flags of the variables from v on, where `bs` are their bounds
abbrev pub flags : ℕ → List Ty → ℕ → List Bound → List Bool
flags m row v [] = []
flags m row v (b ∷ bs) = is_flagged m row v bs (flags m row (v + 1) bs) ∷ flags m row (v + 1) bs

-- an upper bound mentions only variables before its own
abbrev pub IsInOrder : Written → Type 0
IsInOrder s = (v w : ℕ) → v < width s → Contains (vars_in (high s v)) w → w < v
