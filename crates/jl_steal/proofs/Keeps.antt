-- Each move keeps the rule of a deque.
use Rattle.std.proofs.Common.{◌≡◌, ◌≢◌, ℕ, zero, suc, Bool, true, false, true≢false, List, [], ◌∷◌, ◌++◌, length, set, sym, refl, ap, ◌∙◌, subst, ⊎_elim, append_assoc, append-nil}
use Rattle.std.proofs.lemmas.List.Sorted.{IsPermutation-refl, IsPermutation-trans, IsPermutation-append_left, IsPermutation-append_right, IsPermutation-append_comm}
use Rattle.std.specs.Prelude.{IsPermutation}
use mathlib.Core.Option.{some, some-injective, some-ne-none}
use lib.ListN.{get_elem?}
use Rattle.crossbeam_deque.specs.Tasks.{Pushes, Takes, Admits}
use Rattle.crossbeam_deque.proofs.Lists.{at_set, at_snoc}
use Rattle.jl_steal.specs.declared.deque.Log.{Log}
use Rattle.jl_steal.specs.Deques.{log, taken_of, InOrder, IsThief, TakesNext, Pops}

module _ {T : Type 0} where
  -- the last two of three lists change places
  turn : (xs ys zs : List T) → IsPermutation (xs ++ ys ++ zs) (xs ++ zs ++ ys)
  turn xs ys zs = subst (λ l. IsPermutation l (xs ++ zs ++ ys)) (sym (append_assoc xs ys zs))
      (subst (IsPermutation (xs ++ (ys ++ zs))) (sym (append_assoc xs zs ys)) (IsPermutation-append_right xs _ _ (IsPermutation-append_comm ys zs)))

  -- values that one side takes more come to what all took
  taken_more : (views : List (Log T)) (port : ℕ) (v w : Log T) (xs : List T) → get_elem? views port ≡ some v → w.taken ≡ v.taken ++ xs
      → IsPermutation (taken_of views ++ xs) (taken_of (set views port w))
  taken_more [] port v w xs at more = absurd (some-ne-none v (sym at))
  taken_more (u ∷ us) zero v w xs at more =
      let is : w.taken ≡ u.taken ++ xs = more ∙ ap (λ (y : Log T). y.taken ++ xs) (sym (some-injective u v at)) in
      subst (λ l. IsPermutation (u.taken ++ taken_of us ++ xs) (l ++ taken_of us)) (sym is) (turn u.taken (taken_of us) xs)
  taken_more (u ∷ us) (suc port) v w xs at more =
      subst (λ l. IsPermutation l (u.taken ++ taken_of (set us port w))) (sym (append_assoc u.taken (taken_of us) xs))
      (IsPermutation-append_right u.taken _ _ (taken_more us port v w xs at more))

  -- what one side took is part of what all took
  others_of : (views : List (Log T)) (port : ℕ) (v : Log T) → get_elem? views port ≡ some v → (others : List T) × IsPermutation (taken_of views) (v.taken ++ others)
  others_of [] port v at = absurd (some-ne-none v (sym at))
  others_of (u ∷ us) zero v at = (taken_of us, subst (λ (y : Log T). IsPermutation (u.taken ++ taken_of us) (y.taken ++ taken_of us)) (some-injective u v at) (IsPermutation-refl _))
  others_of (u ∷ us) (suc port) v at =
      let rest = others_of us port v at in (
        rest.0 ++ u.taken,
        IsPermutation-trans _ _ _ (IsPermutation-append_comm u.taken (taken_of us))
            (subst (IsPermutation (taken_of us ++ u.taken)) (append_assoc v.taken rest.0 u.taken) (IsPermutation-append_left u.taken _ _ rest.1)),
      )

  -- a thief goes on to know a beginning where more is pushed
  pushed_more : (pushed xs : List T) (v : Log T) → IsThief pushed v → IsThief (pushed ++ xs) v
  pushed_more pushed xs v is = (is.0, is.1 ++ xs, ap (λ l. l ++ xs) is.2 ∙ append_assoc v.pushed is.1 xs)

  pub begins : InOrder {T = T} [] (log true [] [] ∷ [])
  begins = (refl, ([], refl, IsPermutation-refl []), λ port v at. absurd (some-ne-none v (sym at)))

  pub admits : Admits (InOrder {T = T}) (log false [] [])
  admits items [] h = absurd h
  admits items (u ∷ us) h = (
    h.0,
    ((h.1).0, (h.1).1, subst (λ l. IsPermutation (h.1).0 (u.taken ++ l)) (none us) (h.1).2),
    λ port v at. ⊎_elim (λ old. h.2 port v old) (λ (is : log false [] [] ≡ v). subst (IsThief u.pushed) is (refl, u.pushed, refl)) (at_snoc us (log false [] []) v port at),
  )
    where
      none : (vs : List (Log T)) → taken_of vs ≡ taken_of (vs ++ log false [] [] ∷ [])
      none [] = refl
      none (w ∷ ws) = ap (λ l. w.taken ++ l) (none ws)

  pub steals : (port : ℕ) (v : Log T) → v.works ≡ false → Takes (InOrder {T = T}) port v 1 (TakesNext v)
  steals port v off xs items [] _ _ h at = absurd h
  steals zero v off xs items (u ∷ us) _ _ h at = absurd (true≢false (sym h.0 ∙ ap (λ (y : Log T). y.works) (some-injective u v at) ∙ off))
  steals (suc port) v off xs items (u ∷ us) _ _ h at =
      let taken : List T = (h.1).0 in
      let w : Log T = log v.works (taken ++ xs) (v.taken ++ xs) in
      let is : u.pushed ≡ taken ++ xs ++ items = (h.1).1 ∙ sym (append_assoc taken xs items) in
      let part = others_of (u ∷ us) (suc port) v at in (
        w,
        (
          h.0,
          (taken ++ xs, is, IsPermutation-trans _ _ _ (IsPermutation-append_left xs _ _ (h.1).2) (taken_more (u ∷ us) (suc port) v w xs at refl)),
          λ j y e. ⊎_elim (λ (x : (j ≡ port) × (w ≡ y)). subst (IsThief u.pushed) x.1 (off, items, is)) (λ (x : (j ≢ port) × (get_elem? us j ≡ some y)). h.2 j y x.1) (at_set us port j w y e),
        ),
        (taken, [], part.0, sym (append-nil (taken ++ xs)), IsPermutation-trans _ _ _ (h.1).2 part.1, refl, refl),
      )

  pub pops : (v : Log T) → Takes (InOrder {T = T}) 0 v 1 (Pops v)
  pops v xs items [] _ _ h at = absurd h
  pops v xs items (u ∷ us) _ _ h at =
      let taken : List T = (h.1).0 in
      let w : Log T = log v.works v.pushed (v.taken ++ xs) in
      let same : u ≡ v = some-injective u v at in
      let is : v.pushed ≡ taken ++ xs ++ items = ap (λ (y : Log T). y.pushed) (sym same) ∙ (h.1).1 ∙ sym (append_assoc taken xs items) in (
        w,
        (
          ap (λ (y : Log T). y.works) (sym same) ∙ h.0,
          (taken ++ xs, is, IsPermutation-trans _ _ _ (IsPermutation-append_left xs _ _ (h.1).2) (taken_more (u ∷ us) 0 v w xs at refl)),
          λ j y e. subst (λ (l : Log T). IsThief l.pushed y) same (h.2 j y e),
        ),
        ((taken, items, taken_of us, is, subst (λ (y : Log T). IsPermutation taken (y.taken ++ taken_of us)) same (h.1).2, refl, refl), refl),
      )

  pub pushes : (v : Log T) (xs : List T) → Pushes (InOrder {T = T}) 0 v xs (λ w. w ≡ log v.works (v.pushed ++ xs) v.taken)
  pushes v xs items [] h at = absurd h
  pushes v xs items (u ∷ us) h at =
      let taken : List T = (h.1).0 in
      let same : u ≡ v = some-injective u v at in (
        log v.works (v.pushed ++ xs) v.taken,
        (
          ap (λ (y : Log T). y.works) (sym same) ∙ h.0,
          (taken, ap (λ (y : Log T). y.pushed ++ xs) (sym same) ∙ ap (λ l. l ++ xs) (h.1).1 ∙ append_assoc taken items xs, subst (λ (y : Log T). IsPermutation taken (y.taken ++ taken_of us)) same (h.1).2),
          λ j y e. subst (λ (l : Log T). IsThief (l.pushed ++ xs) y) same (pushed_more u.pushed xs y (h.2 j y e)),
        ),
        refl,
      )
