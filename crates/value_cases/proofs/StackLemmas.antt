-- The values on a stack stay valid.
use Rattle.std.proofs.Common.{◌≡◌, sym, subst, ℕ, zero, suc, ◌<◌, arith, List, [], ◌∷◌, map, length, take, drop, get_or}
use Rattle.jl_program.specs.declared.value.Value.{Value}
use Rattle.jl_program.specs.Meaning.{datum}
use Rattle.jl_program.specs.ValidValue.{IsValid, AllValid, none, more}
use Rattle.jl_value.specs.Samples.{sample_types}

-- the first values
pub first-valid : (n : ℕ) (vs : List Value) → AllValid sample_types (map datum vs) → AllValid sample_types (map datum (take n vs))
first-valid zero vs h = none
first-valid (suc n) [] h = none
first-valid (suc n) (v ∷ vs) (more d ps p q) = more (datum v) (map datum (take n vs)) p (first-valid n vs q)

-- the others
pub other-valid : (n : ℕ) (vs : List Value) → AllValid sample_types (map datum vs) → AllValid sample_types (map datum (drop n vs))
other-valid zero vs h = h
other-valid (suc n) [] h = none
other-valid (suc n) (v ∷ vs) (more d ps p q) = other-valid n vs q

-- one of them
pub one-of-valid : (vs : List Value) (i : ℕ) (v : Value) → AllValid sample_types (map datum vs) → i < length vs → v ≡ get_or vs i v → IsValid sample_types (datum v)
one-of-valid [] i v h l e = absurd (omega (arith, l))
one-of-valid (w ∷ vs) zero v (more d ps p q) l e = subst (λ z. IsValid sample_types (datum z)) (sym e) p
one-of-valid (w ∷ vs) (suc i) v (more d ps p q) l e = one-of-valid vs i v q (omega (arith, l)) e

pub ruleset stacks = (first-valid, other-valid, one-of-valid)
