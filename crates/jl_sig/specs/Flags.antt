-- Flags of variables by their numbers.
use Rattle.std.specs.Prelude.{ℕ, ◌+◌, Bool, cond, nat_eq, not, List, [], ◌∷◌}
use Rattle.jl_model.specs.declared.ty.Ty.{Ty}
use Rattle.jl_model.specs.Kinds.{places}

-- this flag at each variable that passes the test, from number i on
abbrev pub with_flag : (ℕ → Bool) → Bool → ℕ → List Bool → List Bool
with_flag test value i [] = []
with_flag test value i (b ∷ bs) = cond (test i) value b ∷ with_flag test value (i + 1) bs

-- the variable has an invariant place in a type
abbrev pub is_below : ℕ → Ty → Bool
is_below v t = not (nat_eq (places v t).invariant 0)
