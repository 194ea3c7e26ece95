-- The kind of a variable, and whether its number is a small one.
use Rattle.std.proofs.Common.{◌≡◌, refl, ℕ, ◌<◌, arith, Bool, true, false, nat_lt, ◌⊎◌, inl, inr}
use Rattle.jl_model.specs.Kinds.{Kind, unused, once, diagonal, bound}
use Rattle.jl_model.specs.Signature.{is_diagonal}

pub less_or : (k m : ℕ) → (k < m) ⊎ (nat_lt k m ≡ false)
less_or k m = by_test (nat_lt k m) refl
  where
    by_test : (b : Bool) → nat_lt k m ≡ b → (k < m) ⊎ (nat_lt k m ≡ false)
    by_test true e = inl (grind (arith, e))
    by_test false e = inr e

pub is_diag : (k : Kind) → is_diagonal k ≡ true → k ≡ diagonal
is_diag unused h = let e : false ≡ true = h in cc
is_diag once h = let e : false ≡ true = h in cc
is_diag diagonal h = refl
is_diag bound h = let e : false ≡ true = h in cc
