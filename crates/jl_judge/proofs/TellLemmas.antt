-- Tests of decided facts tell them.
use Rattle.std.proofs.Common.{◌≡◌, refl, Bool, true, false, inl, inr}
use Rattle.std.proofs.Math.Logic.{∥∥₁_elim}
use Rattle.jl_types.proofs.DecideLemmas.{Decided}
use Rattle.jl_judge.specs.Decision.{Marks, test_prop, test_by, test_of}
use Rattle.jl_judge.specs.Tell.{Tells}

pub test_tells : (D P : Type 0) (f : D → Decided P) (h : ∥ D ∥₁) → D → Tells (test_of D P f h) P
unfolding test_of
test_tells D P f h d = tells (f d) (∥∥₁_elim h (test_prop P) (λ g. test_by P (f g)))
  where
    tells : Decided P → (c : (r : Bool) × Marks P r) → Tells c.0 P
    tells (inl p) c = ((λ e. p), c.1.found)
    tells (inr x) c = ((λ e. absurd (c.1.holds e x)), c.1.found)

-- two tests of one fact are the same
pub told_same : (P : Type 0) (a b : Bool) → Tells a P → Tells b P → a ≡ b
told_same P true true t u = refl
told_same P false false t u = refl
told_same P true false t u = let e : false ≡ true = u.1 (t.0 refl) in cc
told_same P false true t u = let e : false ≡ true = t.1 (u.0 refl) in cc

pub not_told : (P : Type 0) → Tells false P → P → ⊥
not_told P t p = let e : false ≡ true = t.1 p in cc
