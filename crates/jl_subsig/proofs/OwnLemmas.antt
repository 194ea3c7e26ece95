-- A variable's number, or that of its atom's variable.
use Rattle.std.proofs.Common.{◌≡◌, ◌∙◌, sym, ap, ℕ, ◌%◌, ◌<◌, ◌≤◌, arith, nat_eq, nat_lt, ◌⊎◌, inl, inr}
use Rattle.jl_model.specs.declared.ty.Ty.{Ty}
use Rattle.jl_model.specs.declared.ty.Ty.TheOpen.{Var}
use Rattle.jl_model.specs.declared.ty.Ty.TheViews.{out-Ty, outs-Var}
use Rattle.jl_model.specs.declared.ty.Ty.TheVariants as W
use Rattle.jl_types.proofs.GroundLemmas.{Tells}

zero_mod : (k : ℕ) → k % 0 ≡ k
zero_mod k = grind arith

number_of : (v w : ℕ) → W.Var v ≡ W.Var w → v ≡ w
number_of v w e = let i : Var v ≡ Var w = sym (outs-Var v) ∙ ap out-Ty e ∙ outs-Var w in cc

pub atom_own : (u : Ty) (other number len m : ℕ) → u ≡ W.Var other → len ≡ m → (other ≡ number → ⊥) → Tells (nat_eq other (number % len)) ((u ≡ W.Var number) ⊎ (u ≡ W.Var (number % m)))
atom_own u other number len m e l f = (
  (λ y. let i : other ≡ number % len = grind (arith, y) in inr (e ∙ ap (λ z. W.Var z) (i ∙ ap (λ z. number % z) l))),
  (λ o. elim o [
    | inl a ↦ absurd (f (number_of other number (sym e ∙ a)))
    | inr a ↦ let i : other ≡ number % len = number_of other (number % m) (sym e ∙ a) ∙ ap (λ z. number % z) (sym l) in grind (arith, i)
  ]),
)

pub none_own : (u : Ty) (other number len m : ℕ) → u ≡ W.Var other → len ≡ m → (other ≡ number → ⊥) → len ≤ 0 → Tells (nat_lt 0 len) ((u ≡ W.Var number) ⊎ (u ≡ W.Var (number % m)))
none_own u other number len m e l f z =
    let k : m ≡ 0 = omega (arith, z, l) in (
      (λ y. let j : 0 < len = grind (arith, y) in absurd (omega (arith, j, z))),
      (λ o. elim o [
        | inl a ↦ absurd (f (number_of other number (sym e ∙ a)))
        | inr a ↦ let i : other ≡ number = number_of other (number % m) (sym e ∙ a) ∙ ap (λ z. number % z) k ∙ zero_mod number in absurd (f i)
      ]),
    )
