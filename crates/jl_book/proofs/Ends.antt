-- Where the tasks ended, with one event more.
use Rattle.std.proofs.Common.{◌≡◌, ◌∙◌, ap, sym, subst, refl, ℕ, zero, suc, ◌<◌, ◌≤◌, arith, Bool, true, false, nat_eq, List, [], ◌∷◌, ◌++◌, length, get_or, set, slice_get, length-append, Option, Some, None}
use Rattle.std.proofs.lemmas.Option.{same_Some, slice_get_within}
use Rattle.jl_calculus.specs.declared.history.Event.{Event}
use Rattle.jl_calculus.specs.declared.history.Event.TheVariants as Ev
use Rattle.jl_calculus.specs.declared.history.Record.{Record}
use Rattle.jl_calculus.specs.Past.{tasks_of, done_of}
use Rattle.jl_calculus.proofs.GrowthLemmas.{get_more}
use Rattle.jl_world.proofs.Growth.{tasks_append, agree, agreed}
use Rattle.jl_world.proofs.Lists.{get_push}
use Rattle.jl_book.specs.Tasks.{IsEndAt, HasEnds}
use Rattle.jl_book.proofs.Counting.{done_kept, done_other, done_now}

-- a task whose Dones stay as they are ends where it did
end_kept : (t : ℕ) (es more : List Event) (o : Option ℕ) → done_of t (es ++ more) ≡ done_of t es → IsEndAt es t o → IsEndAt (es ++ more) t o
end_kept t es more None same h = same ∙ h
end_kept t es more (Some p) same (r, at, is) = (r, get_more es more p (Ev.Done t r) at, same ∙ is)

-- an event that starts and ends no task
pub ends_kept : (es : List Event) (e : Event) (ends : List (Option ℕ)) → ((t : ℕ) → done_of t (e ∷ []) ≡ None) → tasks_of (e ∷ []) ≡ 1 → HasEnds es ends → HasEnds (es ++ e ∷ []) ends
ends_kept es e ends none one h = record {
  all = omega (arith, h.all, tasks_append es (e ∷ []), one);
  each = λ t. end_kept t es (e ∷ []) (get_or ends t None) (done_kept t es e (none t)) (h.each t);
}

get_none : (ends : List (Option ℕ)) (t : ℕ) → get_or (ends ++ None ∷ []) t None ≡ get_or ends t None
get_none [] zero = refl
get_none [] (suc t) = refl
get_none (x ∷ ends) zero = refl
get_none (x ∷ ends) (suc t) = get_none ends t

-- an event that starts a task
pub ends_spawned : (es : List Event) (e : Event) (ends : List (Option ℕ)) → ((t : ℕ) → done_of t (e ∷ []) ≡ None) → tasks_of (e ∷ []) ≡ 2 → HasEnds es ends → HasEnds (es ++ e ∷ []) (ends ++ None ∷ [])
ends_spawned es e ends none two h = record {
  all = omega (arith, h.all, length-append ends (None ∷ []), tasks_append es (e ∷ []), two);
  each = λ t. subst (IsEndAt (es ++ e ∷ []) t) (sym (get_none ends t)) (end_kept t es (e ∷ []) (get_or ends t None) (done_kept t es e (none t)) (h.each t));
}

get_same : (ends : List (Option ℕ)) (t : ℕ) (x : Option ℕ) → t < length ends → get_or (set ends t x) t None ≡ x
get_same [] t x l = absurd (omega (arith, l))
get_same (y ∷ ends) zero x l = refl
get_same (y ∷ ends) (suc t) x l = get_same ends t x (omega (arith, l))

get_other : (ends : List (Option ℕ)) (t u : ℕ) (x : Option ℕ) → (t ≡ u → ⊥) → get_or (set ends t x) u None ≡ get_or ends u None
get_other [] t u x d = refl
get_other (y ∷ ends) zero zero x d = absurd (d refl)
get_other (y ∷ ends) zero (suc u) x d = refl
get_other (y ∷ ends) (suc t) zero x d = refl
get_other (y ∷ ends) (suc t) (suc u) x d = get_other ends t u x (λ e. d (ap suc e))

length_set : (ends : List (Option ℕ)) (t : ℕ) (x : Option ℕ) → length (set ends t x) ≡ length ends
length_set [] t x = refl
length_set (y ∷ ends) zero x = refl
length_set (y ∷ ends) (suc t) x = ap suc (length_set ends t x)

-- the Done of a running task
pub ends_ended : (es : List Event) (t : ℕ) (r : Record) (ends : List (Option ℕ)) → t < tasks_of es → done_of t es ≡ None → HasEnds es ends → HasEnds (es ++ Ev.Done t r ∷ []) (set ends t (Some (length es)))
ends_ended es t r ends started open_still h = record {
  all = length_set ends t (Some (length es)) ∙ omega (arith, h.all, tasks_append es (Ev.Done t r ∷ []));
  each = λ u. by u (nat_eq t u) refl;
}
  where
    apart : (u : ℕ) → nat_eq t u ≡ false → t ≡ u → ⊥
    apart u q e = absurd (cc (q, agreed t u e))

    within : t < length ends
    within = omega (arith, h.all, started)

    here : IsEndAt (es ++ Ev.Done t r ∷ []) t (get_or (set ends t (Some (length es))) t None)
    here = subst (IsEndAt (es ++ Ev.Done t r ∷ []) t) (sym (get_same ends t (Some (length es)) within)) (r, get_push es (Ev.Done t r), done_now t es r open_still)

    by : (u : ℕ) (b : Bool) → nat_eq t u ≡ b → IsEndAt (es ++ Ev.Done t r ∷ []) u (get_or (set ends t (Some (length es))) u None)
    by u true q = subst (λ (k : ℕ). IsEndAt (es ++ Ev.Done t r ∷ []) k (get_or (set ends t (Some (length es))) k None)) (agree t u q) here
    by u false q =
        subst (IsEndAt (es ++ Ev.Done t r ∷ []) u) (sym (get_other ends t u (Some (length es)) (apart u q))) (end_kept u es (Ev.Done t r ∷ []) (get_or ends u None) (done_other t u es r (apart u q)) (h.each u))

-- ---- what the place of an end tells

get_past : (ends : List (Option ℕ)) (t : ℕ) → length ends ≤ t → get_or ends t None ≡ None
get_past [] t l = refl
get_past (x ∷ ends) zero l = absurd (omega (arith, l))
get_past (x ∷ ends) (suc t) l = get_past ends t (omega (arith, l))

module _ (es : List Event) (ends : List (Option ℕ)) (t : ℕ) (h : HasEnds es ends) where
  -- a task without a place has not ended
  pub none_past : length ends ≤ t → done_of t es ≡ None
  none_past l = subst (IsEndAt es t) (get_past ends t l) (h.each t)

  pub none_there : get_or ends t None ≡ None → done_of t es ≡ None
  none_there is = subst (IsEndAt es t) is (h.each t)

  module _ (p : ℕ) (is : get_or ends t None ≡ Some p) where
    there : IsEndAt es t (Some p)
    there = subst (IsEndAt es t) is (h.each t)

    -- its Done stands at its place
    pub place_there : p < length es
    place_there = slice_get_within es p (Ev.Done t there.0) there.1

    same_event : (e : Event) → slice_get es p ≡ Some e → e ≡ Ev.Done t there.0
    same_event e at = same_Some e (Ev.Done t there.0) (sym at ∙ there.1)

    pub told : (e : Event) (u : ℕ) (r : Record) → slice_get es p ≡ Some e → e ≡ Ev.Done u r → done_of t es ≡ Some r
    told e u r at q = there.2 ∙ ap Some (record_in (sym (same_event e at) ∙ q))
      where
        record_in : Ev.Done t there.0 ≡ Ev.Done u r → there.0 ≡ r
        record_in e = cc

    -- so it is no other event
    pub no_other : (e : Event) → slice_get es p ≡ Some e → ((u : ℕ) (r : Record) → e ≡ Ev.Done u r → ⊥) → ⊥
    no_other e at none = none t there.0 (same_event e at)
