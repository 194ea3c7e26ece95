-- Which rows are cut.
use Rattle.std.proofs.Common.{◌≡◌, ◌∙◌, ap, sym, subst, refl, ℕ, ◌+◌, ◌<◌, ◌≤◌, ◌⊎◌, inl, inr, ⊎_elim, List, [], ◌∷◌, length, take, get_or, slice_get, Some}
use Rattle.std.specs.Prelude.{◌↔◌}
use Rattle.std.specs.List.{Contains}
use Rattle.std.proofs.lemmas.List.{take_all}
use Rattle.jl_program.specs.declared.tree.Program.{Program}
use Rattle.jl_calculus.specs.declared.history.Change.{Change}
use Rattle.jl_calculus.specs.declared.history.Event.{Event}
use Rattle.jl_calculus.specs.Legal.{MayStand}
use Rattle.jl_calculus.specs.Ranges.{keys_of}
use Rattle.jl_calculus.specs.Words.{IsToCut, AreAllCut}
use Rattle.jl_methods.specs.Filters.{AreTouched}
use Rattle.jl_methods.proofs.FilterLemmas.{here, there, here_or_there, none_there}
use Rattle.jl_world.specs.declared.view.BookView.{BookView}
use Rattle.jl_rows.specs.Open.{IsOpenOf, IsOpenAmong, AreOpenCut, with_cut}
use Rattle.jl_rows.proofs.Numbers.{one_after, after_first, after_last}
use Rattle.jl_rows.proofs.OpenLemmas.{one_open}

-- a view in which other rows are cut is that with its own rows cut
pub cut_same : (new old : BookView) (cut : List ℕ) → new ≡ with_cut cut old → new ≡ with_cut new.cut old
cut_same new old cut e = e ∙ ap (λ c. with_cut c old) (sym (ap (λ (b : BookView). b.cut) e))

-- and so again
pub cut_again : (new mid old : BookView) → new ≡ with_cut new.cut mid → mid ≡ with_cut mid.cut old → new ≡ with_cut new.cut old
cut_again new mid old e f = e ∙ ap (with_cut new.cut) f

module _ (P : Program) (es : List Event) where
  -- the row of a key that was found is cut
  pub one_cut : (stand : MayStand P es) (number row : ℕ) (old new : List ℕ) → new ≡ row ∷ old → IsOpenOf P es number row
      → (r : ℕ) → Contains new r ↔ (Contains old r ⊎ IsOpenOf P es number r)
  one_cut stand number row old new e h r = (
    λ c. ⊎_elim (λ q. inr (subst (IsOpenOf P es number) q h)) (λ d. inl d) (here_or_there row r old (subst (λ xs. Contains xs r) e c)),
    λ s. subst (λ xs. Contains xs r) (sym e) (⊎_elim (λ d. there row r old d) (λ k. here row r old (one_open P es stand number row r h k)) s),
  )

  -- none was found
  pub none_cut : (number : ℕ) (old new : List ℕ) → new ≡ old → AreOpenCut P es number old → (r : ℕ) → Contains new r ↔ (Contains old r ⊎ IsOpenOf P es number r)
  none_cut number old new e h r = (
    λ c. inl (subst (λ xs. Contains xs r) e c),
    λ s. subst (λ xs. Contains xs r) (sym e) (⊎_elim (λ d. d) (λ k. h r k) s),
  )

  -- ---- the keys one by one

  abbrev pub AreCutOf : List ℕ → List ℕ → Type 0
  AreCutOf numbers cut = (r : ℕ) → Contains cut r ↔ IsOpenAmong P es numbers r

  pub cut_start : (numbers cut : List ℕ) → cut ≡ [] → AreCutOf (take 0 numbers) cut
  cut_start numbers cut e r = (
    λ c. absurd (none_there r [] refl (subst (λ xs. Contains xs r) e c)),
    λ (o : IsOpenAmong P es (take 0 numbers) r). absurd (none_there o.0 (take 0 numbers) (nothing numbers) o.1),
  )
    where
      nothing : (xs : List ℕ) → take 0 xs ≡ []
      nothing [] = refl
      nothing (x ∷ xs) = refl

  module _ (numbers old new : List ℕ) (i : ℕ) (l : i < length numbers) (h : AreCutOf (take i numbers) old)
      (k : (r : ℕ) → Contains new r ↔ (Contains old r ⊎ IsOpenOf P es (get_or numbers i 0) r)) where
    among_more : (r : ℕ) → IsOpenAmong P es (take i numbers) r → IsOpenAmong P es (take (i + 1) numbers) r
    among_more r (n, c, o) = (n, after_first numbers i n l c, o)

    among_back : (r : ℕ) → IsOpenAmong P es (take (i + 1) numbers) r → Contains old r ⊎ IsOpenOf P es (get_or numbers i 0) r
    among_back r (n, c, o) = ⊎_elim (λ d. inl ((h r).1 (n, d, o))) (λ e. inr (subst (λ m. IsOpenOf P es m r) (sym e) o)) (one_after numbers i n l c)

    pub cut_more : AreCutOf (take (i + 1) numbers) new
    cut_more r = (
      λ c. ⊎_elim (λ d. among_more r ((h r).0 d)) (λ o. (get_or numbers i 0, after_last numbers i l, o)) ((k r).0 c),
      λ o. (k r).1 (among_back r o),
    )

  -- at the end they are those that a change ends
  pub all_cut : (numbers cut : List ℕ) (i : ℕ) (change : Change) → length numbers ≤ i → AreCutOf (take i numbers) cut → AreTouched P (keys_of es) change numbers → AreAllCut P es change cut
  all_cut numbers cut i change l h touched r = (λ c. to_cut ((h r).0 c), λ t. (h r).1 (from_cut t))
    where
      to_cut : IsOpenAmong P es (take i numbers) r → IsToCut P es change r
      to_cut (n, c, o) =
          let a = o.is_open in
          let named : slice_get (keys_of es) n ≡ Some a.key = subst (λ m. slice_get (keys_of es) m ≡ Some a.key) o.of_key a.named in
          record {
            row = a.row;
            stands = a.stands;
            key = a.key;
            named = a.named;
            no_end = a.no_end;
            touched = (touched.exact n a.key named).0 (subst (λ xs. Contains xs n) (take_all i numbers l) c);
          }

      from_cut : IsToCut P es change r → IsOpenAmong P es (take i numbers) r
      from_cut t = (
        t.row.key,
        subst (λ xs. Contains xs t.row.key) (sym (take_all i numbers l)) ((touched.exact t.row.key t.key t.named).1 t.touched),
        record { is_open = record { row = t.row; stands = t.stands; key = t.key; named = t.named; no_end = t.no_end }; of_key = refl },
      )
