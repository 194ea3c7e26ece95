-- The change that made a world, and lists that are sorted.
use Rattle.std.proofs.Common.{◌≡◌, ◌∙◌, ap, sym, subst, ℕ, zero, suc, ◌-◌, ◌<◌, ◌≤◌, arith, eqb, nat_cmp, List, length, get_or, slice_get, Some}
use Rattle.std.specs.Prelude.{◌↔◌}
use Rattle.std.specs.List.{Contains, dedup}
use Rattle.std.specs.List.Sorted.{IsSorted, IsPermutation}
use Rattle.std.proofs.lemmas.List.Kept.{Contains-dedup_nat, Contains-from_dedup}
use Rattle.std.proofs.lemmas.List.Sorted.{Contains-permutation, IsPermutation-sym}
use Rattle.std.proofs.lemmas.Map.Keys.{IsStrictlyIncreasing-dedup}
use Rattle.jl_calculus.specs.declared.history.Change.{Change}
use Rattle.jl_calculus.specs.declared.history.Event.{Event}
use Rattle.jl_calculus.specs.World.{changes, change_at}
use Rattle.jl_methods.specs.Numbered.{RisesFrom}
use Rattle.jl_methods.proofs.ChangeLemmas.{get_at}
use Rattle.jl_methods.proofs.TouchLemmas.{rises_of}

-- the change that made a world, as the index reads it
pub change_known : (es : List Event) (cs : List Change) (w : ℕ) (c : Change) → cs ≡ changes es → 1 ≤ w → w ≤ length cs → c ≡ get_or cs (w - 1) c → change_at es w ≡ Some c
change_known es cs zero c e low high r = absurd (omega (arith, low))
change_known es cs (suc n) c e low high r =
    let at : suc n - 1 ≡ n = omega arith in
    ap (λ cs. slice_get cs n) (sym e) ∙ get_at cs n c (omega (arith, high)) (r ∙ ap (λ k. get_or cs k c) at)

-- what is sorted and has each once is the same
pub same_sorted : (both sorted all : List ℕ) → IsPermutation both sorted → all ≡ dedup eqb sorted → (w : ℕ) → Contains all w ↔ Contains both w
same_sorted both sorted all p e w = (
  λ c. Contains-permutation sorted both w (IsPermutation-sym both sorted p) (Contains-from_dedup eqb sorted w (subst (λ xs. Contains xs w) e c)),
  λ c. subst (λ xs. Contains xs w) (sym e) (Contains-dedup_nat sorted w (Contains-permutation both sorted w p c)),
)

pub sorted_rises : (sorted all : List ℕ) → IsSorted nat_cmp sorted → all ≡ dedup eqb sorted → RisesFrom 0 all
sorted_rises sorted all s e = subst (RisesFrom 0) (sym e) (rises_of (dedup eqb sorted) (IsStrictlyIncreasing-dedup sorted s))
