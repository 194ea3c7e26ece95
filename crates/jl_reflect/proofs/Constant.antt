-- What is chosen from a world on, up to the next one that a change made which touches the key.
use Rattle.std.proofs.Common.{◌≡◌, ◌∙◌, ap, sym, refl, subst, arith, ℕ, zero, suc, ◌<◌, ◌≤◌, ◌+◌, List, [], ◌∷◌, length, get_or}
use Rattle.std.specs.List.{All}
use Rattle.std.specs.List.Sorted.{IsStrictlyIncreasing}
use Rattle.std.proofs.lemmas.List.Elements.{All-get_or}
use Rattle.std.proofs.lemmas.List.Kept.{AllPairs-from_increasing}
use Rattle.jl_model.specs.declared.ty.Key.{Key}
use Rattle.jl_program.specs.declared.choice.Choice.{Choice}
use Rattle.jl_program.specs.declared.tree.Program.{Program}
use Rattle.jl_program.specs.Prelude.{prelude_count}
use Rattle.jl_program.specs.Valid.{IsValid}
use Rattle.jl_calculus.specs.declared.history.Event.{Event}
use Rattle.jl_calculus.specs.Legal.{IsKeyOf}
use Rattle.jl_calculus.specs.Ranges.{Touches}
use Rattle.jl_calculus.specs.World.{world_of}
use Rattle.jl_calculus.proofs.BetweenLemmas.{choice_after}
use Rattle.jl_calculus.proofs.GrowthLemmas.{touches_known}
use Rattle.jl_reflect.specs.declared.choices.Chosen.{Chosen}
use Rattle.jl_reflect.specs.Chosen.{worlds, AreChosen}
use Rattle.jl_reflect.proofs.Tight.{Beside, lower, same, upper, beside}
use Rattle.jl_reflect.proofs.Steps.{ChosenAt, IsConstantBefore}

-- what stands at a place of a list, whatever would be taken past the end
same_at : (xs : List ℕ) (i a b : ℕ) → i < length xs → get_or xs i a ≡ get_or xs i b
same_at [] i a b l = absurd (omega (arith, l))
same_at (x ∷ xs) zero a b l = refl
same_at (x ∷ xs) (suc i) a b l = same_at xs i a b (omega (arith, l))

pub world_at : (all : List Chosen) (i : ℕ) (d : Chosen) → i < length all → get_or (worlds all) i 0 ≡ (get_or all i d).world
world_at [] i d l = absurd (omega (arith, l))
world_at (c ∷ cs) zero d l = refl
world_at (c ∷ cs) (suc i) d l = world_at cs i d (omega (arith, l))

pub worlds_length : (all : List Chosen) → length (worlds all) ≡ length all
worlds_length [] = refl
worlds_length (c ∷ cs) = ap suc (worlds_length cs)

module _ (P : Program) (valid : IsValid P) (es : List Event) (key : Key) (proper : IsKeyOf P key) (start : Chosen) (rest : List Chosen) (h : AreChosen P es key (start ∷ rest)) where
  abbrev ws : List ℕ
  ws = worlds (start ∷ rest)

  rises : (i j : ℕ) → i < j → j < length ws → get_or ws i 0 < get_or ws j 0
  rises i j l m = AllPairs-from_increasing ws h.ordered i j 0 l m

  low : (i : ℕ) → i < length ws → prelude_count ≤ get_or ws i 0
  low i l = (All-get_or (λ w. (prelude_count ≤ w) × (w ≤ world_of es)) ws i 0 l h.within).0

  no_other : (i : ℕ) → i < length ws → (w d : ℕ) → ((j : ℕ) → i < j → j < length ws → w < get_or ws j 0) → get_or ws i 0 < d → d ≤ w → (k : ℕ) → k < length ws → get_or ws k 0 ≡ d → Beside k i → ⊥
  no_other i l w d below m n k kl e (lower x) = let z = rises k i x l in absurd (omega (arith, z, e, m))
  no_other i l w d below m n k kl e (same x) = let z : get_or ws i 0 ≡ d = subst (λ j. get_or ws j 0 ≡ d) x e in absurd (omega (arith, z, m))
  no_other i l w d below m n k kl e (upper x) = let z = below k x kl in absurd (omega (arith, z, e, n))

  untouched : (i : ℕ) → i < length ws → (w : ℕ) → ((j : ℕ) → i < j → j < length ws → w < get_or ws j 0) → (d : ℕ) → get_or ws i 0 < d → d ≤ w → Touches P es d key → ⊥
  untouched i l w below d m n t =
      let z = low i l in
      let (k, kl, e) = h.whole d (omega (arith, z, m)) (touches_known P es d key t) t in
      no_other i l w d below m n k kl (same_at ws k 0 d kl ∙ e) (beside k i)

  -- what is chosen in one of the worlds is chosen in each up to just before the next
  constant : (i : ℕ) → i < length ws → (c : Choice) → ChosenAt P es key (get_or ws i 0) c → (w : ℕ) → get_or ws i 0 ≤ w → ((j : ℕ) → i < j → j < length ws → w < get_or ws j 0) → ChosenAt P es key w c
  constant i l c s w up below = choice_after P valid es key proper (get_or ws i 0) w (record { begun = up; going = λ d m n t. untouched i l w below d m n t }) c s

  pub starts_constant : IsConstantBefore (ChosenAt P es key) (worlds rest) 0 start.choice
  starts_constant w l before after = constant 0 (omega arith) start.choice (h.selected 0 start (omega arith)) w (omega (arith, h.first, l)) (λ j lt m. by j lt m)
    where
      by : (j : ℕ) → 0 < j → j < length ws → w < get_or ws j 0
      by zero lt m = absurd (omega (arith, lt))
      by (suc j) lt m = after j (omega arith) (omega (arith, m))

  pub goes_constant : (i : ℕ) (c d : Chosen) → i < length rest → get_or rest i d ≡ c → IsConstantBefore (ChosenAt P es key) (worlds rest) (i + 1) c.choice
  goes_constant i c d l e w from before after =
      let many = worlds_length rest in
      let inside : suc i < length ws = omega (arith, l, many) in
      let at : get_or ws (suc i) 0 ≡ c.world = world_at rest i d l ∙ ap (λ (x : Chosen). x.world) e in
      let chosen : ChosenAt P es key (get_or ws (suc i) 0) c.choice = subst (λ v. ChosenAt P es key v c.choice) (sym at) (subst (λ (x : Chosen). ChosenAt P es key x.world x.choice) e (h.selected (suc i) d (omega (arith, l)))) in
      constant (suc i) inside c.choice chosen w (before i (omega arith)) (λ j lt m. by j lt m)
    where
      by : (j : ℕ) → suc i < j → j < length ws → w < get_or ws j 0
      by zero lt m = absurd (omega (arith, lt))
      by (suc j) lt m = after j (omega (arith, lt)) (omega (arith, m))

  pub there : prelude_count ≤ world_of es
  there = let z = All-get_or (λ w. (prelude_count ≤ w) × (w ≤ world_of es)) ws 0 0 (omega arith) h.within in omega (arith, z.0, z.1)

  rises_next : (k : ℕ) → k + 1 < length (worlds rest) → get_or (worlds rest) k 0 < get_or (worlds rest) (k + 1) 0
  rises_next k l = subst (λ n. get_or (worlds rest) k 0 < get_or ws n 0) (let e : suc (suc k) ≡ suc (k + 1) = omega arith in e) (rises (suc k) (suc (suc k)) (omega arith) (omega (arith, l)))

  pub increasing : IsStrictlyIncreasing (worlds rest)
  increasing k inside = rises_next k (omega (arith, inside))

  pub within : All (λ w. (prelude_count < w) × (w ≤ world_of es)) (worlds rest)
  within k d l =
      let z = All-get_or (λ w. (prelude_count ≤ w) × (w ≤ world_of es)) ws (suc k) 0 (omega (arith, l)) h.within in
      let r = rises 0 (suc k) (omega arith) (omega (arith, l)) in
      let first = h.first in
      let e = same_at (worlds rest) k 0 d l in
      (omega (arith, r, first, e), omega (arith, z.1, e))
