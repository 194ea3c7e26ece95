-- Where the tasks ended, with one event more.
use Rattle.std.proofs.Common.{◌≡◌, ◌∙◌, ap, sym, subst, refl, ℕ, zero, suc, ◌<◌, ◌≤◌, arith, Bool, true, false, cond, nat_eq, List, [], ◌∷◌, ◌++◌, length, get_or, slice_get, take, Option, Some, None}
use Rattle.std.proofs.lemmas.Option.{same_Some, slice_get_within, slice_get-get_or}
use Rattle.jl_calculus.specs.declared.history.Event.{Event}
use Rattle.jl_calculus.specs.declared.history.Event.TheVariants as Ev
use Rattle.jl_calculus.specs.declared.history.Record.{Record}
use Rattle.jl_calculus.specs.Past.{done_of}
use Rattle.jl_calculus.proofs.GrowthLemmas.{get_more}
use Rattle.jl_lead.specs.Known.{IsEndAt, AreEnds, IsNoted, first_end}
use Rattle.jl_lead.proofs.EventFacts.{done_stays, done_later}

get_past : (ends : List (Option ℕ)) (t : ℕ) → length ends ≤ t → get_or ends t None ≡ None
get_past [] t l = refl
get_past (x ∷ ends) zero l = absurd (omega (arith, l))
get_past (x ∷ ends) (suc t) l = get_past ends t (omega (arith, l))

agree : (t u : ℕ) → nat_eq t u ≡ true → t ≡ u
agree t u h = grind (arith, h)

-- ---- one event more

pub ends_none : AreEnds [] []
ends_none t = refl

pub ends_same : (es : List Event) (old new : List (Option ℕ)) → ((t : ℕ) → get_or new t None ≡ get_or old t None) → AreEnds es old → AreEnds es new
ends_same es old new same h t = subst (IsEndAt es t) (sym (same t)) (h t)

-- an end stays where it is
end_stays : (t p : ℕ) (es more : List Event) → IsEndAt es t (Some p) → IsEndAt (es ++ more) t (Some p)
end_stays t p es more (r, at, is) = (r, get_more es more p (Ev.Done t r) at, done_stays t es more r is)

-- an event that ends no task
pub ends_kept : (es : List Event) (e : Event) (ends : List (Option ℕ)) → ((t : ℕ) → done_of t (e ∷ []) ≡ None) → AreEnds es ends → AreEnds (es ++ e ∷ []) ends
ends_kept es e ends none h t = by (get_or ends t None) (h t)
  where
    by : (o : Option ℕ) → IsEndAt es t o → IsEndAt (es ++ e ∷ []) t o
    by None k = done_later t es (e ∷ []) k ∙ none t
    by (Some p) k = end_stays t p es (e ∷ []) k

take_all : (es more : List Event) → take (length es) (es ++ more) ≡ es
take_all [] more = refl
take_all (x ∷ es) more = ap (λ xs. x ∷ xs) (take_all es more)

-- an event that was added and taken away again
pub back_again : (es mid new : List Event) (n : ℕ) (e : Event) → mid ≡ es ++ e ∷ [] → n ≡ length es → new ≡ take n mid → new ≡ es
back_again es mid new n e m l k = k ∙ (λ i. take (l i) (m i)) ∙ take_all es (e ∷ [])

get_push : (es : List Event) (e : Event) → slice_get (es ++ e ∷ []) (length es) ≡ Some e
get_push [] e = refl
get_push (x ∷ es) e = get_push es e

-- the end of a task
pub ends_done : (es : List Event) (task : ℕ) (r : Record) (old new : List (Option ℕ)) → IsNoted task (length es) old new → AreEnds es old → AreEnds (es ++ Ev.Done task r ∷ []) new
ends_done es task r old new noted h t = subst (IsEndAt (es ++ Ev.Done task r ∷ []) t) (sym (noted t)) (by (nat_eq task t) refl (get_or old t None) (h t))
  where
    by : (b : Bool) → nat_eq task t ≡ b → (o : Option ℕ) → IsEndAt es t o → IsEndAt (es ++ Ev.Done task r ∷ []) t (first_end b (length es) o)
    by true q (Some p) k = end_stays t p es (Ev.Done task r ∷ []) k
    by false q (Some p) k = end_stays t p es (Ev.Done task r ∷ []) k
    by false q None k = done_later t es (Ev.Done task r ∷ []) k ∙ ap (λ b. cond b (Some r) None) q
    by true q None k =
        (r, get_push es (Ev.Done task r) ∙ ap (λ (n : ℕ). Some (Ev.Done n r)) (agree task t q), done_later t es (Ev.Done task r ∷ []) k ∙ ap (λ b. cond b (Some r) None) q)

-- ---- what the place of an end tells

pub get_at : (es : List Event) (p : ℕ) (e : Event) → p < length es → e ≡ get_or es p e → slice_get es p ≡ Some e
get_at es p e l is = slice_get-get_or es p e l ∙ ap (λ z. Some z) (sym is)

module _ (es : List Event) (ends : List (Option ℕ)) (t : ℕ) (h : AreEnds es ends) where
  -- a task without a place has not ended
  pub none_past : length ends ≤ t → done_of t es ≡ None
  none_past l = subst (IsEndAt es t) (get_past ends t l) (h t)

  module _ (p : ℕ) (is : get_or ends t None ≡ Some p) where
    there : IsEndAt es t (Some p)
    there = subst (IsEndAt es t) is (h t)

    -- its Done stands at its place
    pub place_there : p < length es
    place_there = slice_get_within es p (Ev.Done t there.0) there.1

    same_event : (e : Event) → slice_get es p ≡ Some e → e ≡ Ev.Done t there.0
    same_event e at = same_Some e (Ev.Done t there.0) (sym at ∙ there.1)

    pub told : (e : Event) (u : ℕ) (r : Record) → slice_get es p ≡ Some e → e ≡ Ev.Done u r → done_of t es ≡ Some r
    told e u r at q = there.2 ∙ ap Some (record_in (sym (same_event e at) ∙ q))
      where
        record_in : Ev.Done t there.0 ≡ Ev.Done u r → there.0 ≡ r
        record_in e = cc

    -- so it is no other event
    pub no_other : (e : Event) → slice_get es p ≡ Some e → ((u : ℕ) (r : Record) → e ≡ Ev.Done u r → ⊥) → ⊥
    no_other e at none = none t there.0 (same_event e at)
