-- Rows are cut one after another for the open change.
use Rattle.std.proofs.Common.{◌≡◌, sym, subst, refl, ℕ, zero, suc, ◌+◌, ◌<◌, ◌⊎◌, inl, inr, arith, List, [], ◌∷◌, ◌++◌, append_assoc, append-nil, Some}
use Rattle.std.specs.List.{Contains}
use Rattle.std.proofs.lemmas.List.Elements.{Contains-append_cases}
use Rattle.jl_program.specs.declared.tree.Program.{Program}
use Rattle.jl_calculus.specs.declared.history.Change.{Change}
use Rattle.jl_calculus.specs.declared.step.Step.TheVariants as St
use Rattle.jl_calculus.specs.Core.{Opened, Core, CanOpen, Reaches, stays, goes, first_core, with_opened}
use Rattle.jl_calculus.specs.Kept.{Places}
use Rattle.jl_calculus.specs.Words.{IsToCut}
use Rattle.jl_core.specs.Laws.{AreApart}
use Rattle.jl_core.specs.Reached.{IsReached}

there : (y x : ℕ) (xs : List ℕ) → Contains xs x → Contains (y ∷ xs) x
there y x xs (k, l, e) = (suc k, omega (arith, l), e)

only : (y x : ℕ) → Contains (y ∷ []) x → y ≡ x
only y x (zero, l, e) = e
only y x (suc k, l, e) = absurd (omega (arith, l))

module _ (P : Program) (room : Places) (s : Core) (task : ℕ) (change : Change) where
  abbrev opened : List ℕ → Opened
  opened cut = record { task = task; change = change; cut = cut }

  abbrev after : List ℕ → Core
  after cut = with_opened s (Some (opened cut))

  -- some were cut, and the others are
  more_cut : (first : Core) (done cut : List ℕ) → Reaches P room first (after done) → ((r : ℕ) → Contains done r → Contains cut r → ⊥) → AreApart cut
      → ((r : ℕ) → Contains cut r → IsToCut P s.events change r) → Reaches P room first (after (done ++ cut))
  more_cut first done [] way new apart ends = subst (λ xs. Reaches P room first (after xs)) (sym (append-nil done)) way
  more_cut first done (r ∷ cut) way new apart ends =
      subst (λ xs. Reaches P room first (after xs)) (append_assoc done (r ∷ []) cut)
      (more_cut first (done ++ r ∷ []) cut one_more still apart.1 (λ x c. ends x (there r x cut c)))
    where
      here : Contains (r ∷ cut) r
      here = (0, omega arith, refl)

      one_more : Reaches P room first (after (done ++ r ∷ []))
      one_more =
          goes first (after done) (after (done ++ r ∷ [])) (St.Cut r) way
          (opened done, refl, record { ends = ends r here; not_cut = λ c. new r c here })
          (opened done, refl, refl)

      still : (x : ℕ) → Contains (done ++ r ∷ []) x → Contains cut x → ⊥
      still x c d = by (Contains-append_cases done (r ∷ []) x c)
        where
          by : Contains done x ⊎ Contains (r ∷ []) x → ⊥
          by (inl a) = new x a (there r x cut d)
          by (inr b) = apart.0 (subst (λ y. Contains cut y) (sym (only r x b)) d)

none_cut : (r : ℕ) → Contains {X = ℕ} [] r → ⊥
none_cut r (k, l, e) = omega (arith, l)

pub parts_reached : (P : Program) (room : Places) (s : Core) → IsReached P room s → (task : ℕ) (change : Change) → CanOpen P room s task change
    → (cut : List ℕ) → AreApart cut → ((r : ℕ) → Contains cut r → IsToCut P s.events change r)
    → IsReached P room (with_opened s (Some (record { task = task; change = change; cut = cut })))
parts_reached P room s h task change can cut apart ends = record {
  valid = h.valid;
  fuel = h.fuel;
  allowed = h.allowed;
  few_keys = h.few_keys;
  few_rows = h.few_rows;
  way = more_cut P room s task change (first_core h.fuel) [] cut (goes (first_core h.fuel) s (with_opened s (Some (record { task = task; change = change; cut = [] }))) (St.Open task change) h.way can refl) (λ r c. absurd (none_cut r c)) apart ends;
}
