-- The tables of one more event: the counts after each number of events, and what is known of each task.
use Rattle.std.proofs.Common.{◌≡◌, ◌∙◌, ap, sym, subst, refl, ℕ, zero, suc, ◌+◌, ◌<◌, ◌≤◌, ◌⊎◌, inl, inr, arith, Bool, true, false, ◌||◌, cond, nat_eq, nat_lt, List, [], ◌∷◌, ◌++◌, length, take, slice_get, Some, None, IsSome}
use Rattle.std.specs.Option.{is_some}
use Rattle.std.specs.Prelude.{◌↔◌}
use Rattle.std.proofs.lemmas.List.{take-append-le, take_all, length_push}
use Rattle.std.proofs.lemmas.Option.{slice_get_within}
use Rattle.jl_calculus.specs.declared.history.Event.{Event}
use Rattle.jl_calculus.specs.declared.history.Event.TheVariants as Ev
use Rattle.jl_calculus.specs.declared.history.Record.{Record}
use Rattle.jl_calculus.specs.Past.{done_of}
use Rattle.jl_world.proofs.Growth.{done_append}
use Rattle.jl_causes.specs.declared.places.Counts.{Counts}
use Rattle.jl_causes.specs.declared.places.Places.{Places}
use Rattle.jl_causes.specs.Tables.{AreCounts, ArePlaces, IsEndOf}

-- ---- lists

pub get_push : {X : Type 0} (xs : List X) (y x : X) (n : ℕ) → slice_get (xs ++ y ∷ []) n ≡ Some x → (slice_get xs n ≡ Some x) ⊎ ((n ≡ length xs) × (y ≡ x))
get_push [] y x zero e = inr (refl, cc)
get_push [] y x (suc n) e = inl e
get_push (z ∷ xs) y x zero e = inl e
get_push (z ∷ xs) y x (suc n) e = by (get_push xs y x n e)
  where
    by : (slice_get xs n ≡ Some x) ⊎ ((n ≡ length xs) × (y ≡ x)) → (slice_get xs n ≡ Some x) ⊎ ((suc n ≡ suc (length xs)) × (y ≡ x))
    by (inl q) = inl q
    by (inr (q, r)) = inr (ap suc q, r)

-- the first of one more, where they are fewer than all
pub take_old : (n : ℕ) (es : List Event) (e : Event) → n ≤ length es → take n (es ++ e ∷ []) ≡ take n es
take_old n es e l = take-append-le n es (e ∷ []) l

pub take_whole : (n : ℕ) (es : List Event) (e : Event) → length es < n → take n (es ++ e ∷ []) ≡ es ++ e ∷ []
take_whole n es e l = take_all n (es ++ e ∷ []) (omega (arith, l, length_push es e))

-- ---- the counts

pub places_more : (es : List Event) (e : Event) (p q : Places) (c : Counts) → q.rows.items ≡ p.rows.items ++ c ∷ [] → q.newest ≡ c → ArePlaces es p → AreCounts (es ++ e ∷ []) c → ArePlaces (es ++ e ∷ []) q
places_more es e p q c rows newest h k = record {
  many = omega (arith, ap length rows, length_push p.rows.items c, length_push es e, h.many);
  each = λ n d at. by n d (get_push p.rows.items c d n (subst (λ (rs : List Counts). slice_get rs n ≡ Some d) rows at));
  last = subst (AreCounts (es ++ e ∷ [])) (sym newest) k;
}
  where
    by : (n : ℕ) (d : Counts) → (slice_get p.rows.items n ≡ Some d) ⊎ ((n ≡ length p.rows.items) × (c ≡ d)) → AreCounts (take n (es ++ e ∷ [])) d
    by n d (inl old) = subst (λ ds. AreCounts ds d) (sym (take_old n es e (omega (arith, h.many, slice_get_within p.rows.items n d old)))) (h.each n d old)
    by n d (inr (i, is)) =
        subst (λ ds. AreCounts ds d) (sym (take_whole n es e (omega (arith, i, h.many)))) (subst (AreCounts (es ++ e ∷ [])) is k)

-- ---- the end of a task

ends_append : (t : ℕ) (es more : List Event) → is_some (done_of t (es ++ more)) ≡ (is_some (done_of t es) || is_some (done_of t more))
ends_append t [] more = refl
ends_append t (Ev.Begin fuel ∷ es) more = ends_append t es more
ends_append t (Ev.Key key ∷ es) more = ends_append t es more
ends_append t (Ev.Fill key site begins ∷ es) more = ends_append t es more
ends_append t (Ev.Def by site ∷ es) more = ends_append t es more
ends_append t (Ev.Del by place ∷ es) more = ends_append t es more
ends_append t (Ev.Spawn by child start ∷ es) more = ends_append t es more
ends_append t (Ev.Done by ended ∷ es) more = go (nat_eq by t) (ends_append t es more)
  where
    go : (b : Bool) → is_some (done_of t (es ++ more)) ≡ (is_some (done_of t es) || is_some (done_of t more))
        → is_some (cond b (Some ended) (done_of t (es ++ more))) ≡ (is_some (cond b (Some ended) (done_of t es)) || is_some (done_of t more))
    go true h = refl
    go false h = h

or_false : (b : Bool) → (b || false) ≡ b
or_false true = refl
or_false false = refl

-- an event that is not the end of the task
pub end_kept : (es : List Event) (e : Event) (t n : ℕ) → done_of t (e ∷ []) ≡ None → IsEndOf es t n → IsEndOf (es ++ e ∷ []) t n
end_kept es e t n other h = record { within = omega (arith, h.within, length_push es e); exact = λ p l. by p l (nat_lt (length es) p) refl }
  where
    whole : (p : ℕ) → length es < p → is_some (done_of t (take p (es ++ e ∷ []))) ≡ is_some (done_of t (take (length es) es))
    whole p l =
        ap (λ ds. is_some (done_of t ds)) (take_whole p es e l) ∙ ends_append t es (e ∷ [])
        ∙ ap (λ o. is_some (done_of t es) || is_some o) other ∙ or_false (is_some (done_of t es)) ∙ ap (λ ds. is_some (done_of t ds)) (sym (take_all (length es) es (omega arith)))

    by : (p : ℕ) → p ≤ length (es ++ e ∷ []) → (b : Bool) → nat_lt (length es) p ≡ b → IsSome (done_of t (take p (es ++ e ∷ []))) ↔ ((0 < n) × (n ≤ p))
    by p l false q =
        let few : p ≤ length es = grind (arith, q) in
        subst (λ ds. IsSome (done_of t ds) ↔ ((0 < n) × (n ≤ p))) (sym (take_old p es e few)) (h.exact p few)
    by p l true q =
        let all : length es < p = grind (arith, q) in
        let k = h.exact (length es) (omega arith) in (
          (λ s. let r = k.0 (sym (whole p all) ∙ s) in (r.0, omega (arith, r.1, all))),
          (λ r. whole p all ∙ k.1 (r.0, h.within)),
        )

-- the end of a task that is running
pub end_now : (es : List Event) (e : Event) (t : ℕ) (r : Record) → done_of t es ≡ None → IsEndOf es t 0 → done_of t (e ∷ []) ≡ Some r → IsEndOf (es ++ e ∷ []) t (length es + 1)
end_now es e t r none h is = record { within = omega (arith, length_push es e); exact = λ p l. by p l (nat_lt (length es) p) refl }
  where
    by : (p : ℕ) → p ≤ length (es ++ e ∷ []) → (b : Bool) → nat_lt (length es) p ≡ b → IsSome (done_of t (take p (es ++ e ∷ []))) ↔ ((0 < length es + 1) × (length es + 1 ≤ p))
    by p l false q =
        let few : p ≤ length es = grind (arith, q) in (
          (λ s. let z = (h.exact p few).0 (subst (λ ds. IsSome (done_of t ds)) (take_old p es e few) s) in absurd (omega (arith, z.0))),
          (λ z. absurd (omega (arith, z.1, few))),
        )
    by p l true q =
        let all : length es < p = grind (arith, q) in (
          (λ s. (omega arith, omega (arith, all))),
          (λ z. ap (λ ds. is_some (done_of t ds)) (take_whole p es e all) ∙ ap is_some (done_append t es (e ∷ []) none ∙ is)),
        )

pub running_end : (es : List Event) (t n : ℕ) → IsEndOf es t n → done_of t es ≡ None → n ≡ 0
running_end es t n h none = by (nat_eq n 0) refl
  where
    by : (b : Bool) → nat_eq n 0 ≡ b → n ≡ 0
    by true q = grind (arith, q)
    by false q =
        let some : 0 < n = grind (arith, q) in
        let s = (h.exact (length es) (omega arith)).1 (some, h.within) in
        absurd (cc (sym s ∙ ap (λ ds. is_some (done_of t ds)) (take_all (length es) es (omega arith)) ∙ ap is_some none))
