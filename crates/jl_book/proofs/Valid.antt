-- What a task learnt of valid events is valid.
use Rattle.std.proofs.Common.{◌≡◌, subst, ℕ, zero, suc, Bool, true, false, cond, nat_eq, List, [], ◌∷◌, take, slice_get, Option, Some, None}
use Rattle.jl_program.specs.declared.tree.Program.{Program}
use Rattle.jl_calculus.specs.declared.history.Event.{Event}
use Rattle.jl_calculus.specs.declared.history.Event.TheVariants as Ev
use Rattle.jl_calculus.specs.declared.history.Outcome.{Outcome}
use Rattle.jl_calculus.specs.declared.history.Record.{Record}
use Rattle.jl_calculus.specs.declared.history.TraceItem.{TraceItem}
use Rattle.jl_calculus.specs.declared.history.TraceItem.TheVariants.{Look, Def, Del, Spawn, Fetch, WorldFull, TaskFull, Absent}
use Rattle.jl_calculus.specs.Legal.{AreTrueOf}
use Rattle.jl_calculus.specs.Past.{done_of, EndedSo, IsTrueOf}
use Rattle.jl_calculus.specs.ValidHistory.{IsValidOutcome, IsValidItem, AreValidItems, IsValidRecord, IsValidEvent, AreValidEvents}

module _ (P : Program) where
  -- an event among valid ones is valid
  pub event_valid : (es : List Event) (p : ℕ) (e : Event) → AreValidEvents P es → slice_get es p ≡ Some e → IsValidEvent P e
  event_valid [] p e h at = absurd cc
  event_valid (x ∷ es) zero e h at = subst (λ o. ValidIf o) at h.0
    where
      ValidIf : Option Event → Type 0
      ValidIf None = Unit {0}
      ValidIf (Some y) = IsValidEvent P y
  event_valid (x ∷ es) (suc p) e h at = event_valid es p e h.1 at

  taken_valid : (es : List Event) (p : ℕ) → AreValidEvents P es → AreValidEvents P (take p es)
  taken_valid [] zero h = tt
  taken_valid [] (suc p) h = tt
  taken_valid (x ∷ es) zero h = tt
  taken_valid (x ∷ es) (suc p) h = (h.0, taken_valid es p h.1)

  abbrev ValidEnd : Option Record → Type 0
  ValidEnd None = Unit {0}
  ValidEnd (Some r) = IsValidRecord P r

  -- so is what a task did that has ended
  done_valid : (t : ℕ) (es : List Event) → AreValidEvents P es → ValidEnd (done_of t es)
  done_valid t [] h = tt
  done_valid t (Ev.Begin fuel ∷ es) h = done_valid t es h.1
  done_valid t (Ev.Key key ∷ es) h = done_valid t es h.1
  done_valid t (Ev.Fill key site first ∷ es) h = done_valid t es h.1
  done_valid t (Ev.Def by site ∷ es) h = done_valid t es h.1
  done_valid t (Ev.Del by place ∷ es) h = done_valid t es h.1
  done_valid t (Ev.Spawn by child start ∷ es) h = done_valid t es h.1
  done_valid t (Ev.Done by r ∷ es) h = go (nat_eq by t) (done_valid t es h.1)
    where
      go : (b : Bool) → ValidEnd (done_of t es) → ValidEnd (cond b (Some r) (done_of t es))
      go true k = h.0
      go false k = k

  pub record_valid : (t : ℕ) (es : List Event) (r : Record) → AreValidEvents P es → done_of t es ≡ Some r → IsValidRecord P r
  record_valid t es r h is = subst ValidEnd is (done_valid t es h)

  ended_valid : (o : Option Record) (outcome : Outcome) → ValidEnd o → EndedSo o outcome → IsValidOutcome P outcome
  ended_valid None outcome v h = absurd h
  ended_valid (Some r) outcome v h = subst (IsValidOutcome P) h v.outcome

  item_valid : (es : List Event) (t : ℕ) (i : TraceItem) → AreValidEvents P es → IsTrueOf P es t i → IsValidItem P i
  item_valid es t (Look w p) h is = tt
  item_valid es t (Def site p) h is = event_valid es p (Ev.Def t site) h is
  item_valid es t (Spawn child p) h is = tt
  item_valid es t (Fetch task outcome p) h is = ended_valid (done_of task (take p es)) outcome (done_valid task (take p es) (taken_valid es p h)) is.1
  item_valid es t (WorldFull p) h is = tt
  item_valid es t (TaskFull p) h is = tt
  item_valid es t (Del place p) h is = event_valid es p (Ev.Del t place) h is
  item_valid es t (Absent place p) h is = is.1.known

  items_valid : (es : List Event) (t : ℕ) (is : List TraceItem) → AreValidEvents P es → AreTrueOf P es t is → AreValidItems P is
  items_valid es t [] h true_items = tt
  items_valid es t (i ∷ is) h true_items = (item_valid es t i h true_items.0, items_valid es t is h true_items.1)

  -- a record whose items are true of valid events, and whose outcome is valid, is valid
  pub record_is_valid : (es : List Event) (t : ℕ) (r : Record) → AreValidEvents P es → AreTrueOf P es t r.trace → IsValidOutcome P r.outcome → IsValidRecord P r
  record_is_valid es t r h true_items outcome = record { items = items_valid es t r.trace h true_items; outcome = outcome }
