-- Entries and the events that they tell, one by one.
use Rattle.std.proofs.Common.{◌≡◌, ap, sym, subst, refl, ℕ, zero, suc, Bool, true, false, ◌||◌, cond, nat_eq, List, [], ◌∷◌, ◌++◌, length, take, slice_get, Some, IsSome}
use Rattle.jl_program.specs.declared.tree.Program.{Program}
use Rattle.jl_calculus.specs.declared.history.Event.{Event}
use Rattle.jl_calculus.specs.declared.history.Event.TheVariants as Ev
use Rattle.jl_calculus.specs.declared.history.Record.{Record}
use Rattle.jl_calculus.specs.Past.{done_of}
use Rattle.jl_report.specs.declared.entry.Entry.{Entry}
use Rattle.jl_report.specs.declared.entry.Entry.TheVariants as E
use Rattle.jl_causes.specs.Sketch.{untold, record_of, Tells, AllTell}
use Rattle.jl_causes.specs.Causes.{has_end}

module _ (P : Program) where
  pub tell_length : (xs : List Entry) (es : List Event) → AllTell P xs es → length xs ≡ length es
  tell_length [] es h = sym (ap length h)
  tell_length (x ∷ xs) [] h = absurd h
  tell_length (x ∷ xs) (e ∷ es) h = ap suc (tell_length xs es h.1)

  -- one more of each
  pub tell_more : (xs : List Entry) (es : List Event) (x : Entry) (e : Event) → AllTell P xs es → Tells P x e → AllTell P (xs ++ x ∷ []) (es ++ e ∷ [])
  tell_more [] [] x e h t = (t, refl)
  tell_more [] (d ∷ es) x e h t = absurd (cc h)
  tell_more (y ∷ xs) [] x e h t = absurd h
  tell_more (y ∷ xs) (d ∷ es) x e h t = (h.0, tell_more xs es x e h.1 t)

  -- the first of each
  pub tell_take : (n : ℕ) (xs : List Entry) (es : List Event) → AllTell P xs es → AllTell P (take n xs) (take n es)
  tell_take zero xs es h = refl
  tell_take (suc n) [] es h = ap (take (suc n)) h
  tell_take (suc n) (x ∷ xs) [] h = absurd h
  tell_take (suc n) (x ∷ xs) (e ∷ es) h = (h.0, tell_take n xs es h.1)

  -- the event at the place of an entry, and the entry at the place of an event
  pub event_at : (xs : List Entry) (es : List Event) (n : ℕ) (x : Entry) → AllTell P xs es → slice_get xs n ≡ Some x → (e : Event) × (slice_get es n ≡ Some e) × Tells P x e
  event_at [] es zero x h g = absurd (cc g)
  event_at [] es (suc n) x h g = absurd (cc g)
  event_at (y ∷ xs) [] n x h g = absurd h
  event_at (y ∷ xs) (e ∷ es) zero x h g = (e, refl, subst (λ z. Tells P z e) (cc g) h.0)
  event_at (y ∷ xs) (e ∷ es) (suc n) x h g = event_at xs es n x h.1 g

  pub entry_at : (xs : List Entry) (es : List Event) (n : ℕ) (e : Event) → AllTell P xs es → slice_get es n ≡ Some e → (x : Entry) × (slice_get xs n ≡ Some x) × Tells P x e
  entry_at [] es n e h g = absurd (none n (subst (λ ds. slice_get ds n ≡ Some e) h g))
    where
      none : (n : ℕ) → slice_get [] n ≡ Some e → ⊥
      none zero g = cc g
      none (suc n) g = cc g
  entry_at (y ∷ xs) [] n e h g = absurd h
  entry_at (y ∷ xs) (d ∷ es) zero e h g = (y, refl, subst (Tells P y) (cc g) h.0)
  entry_at (y ∷ xs) (d ∷ es) (suc n) e h g = entry_at xs es n e h.1 g

  -- an outcome that is there is untold
  told_end : (x : Entry) (task : ℕ) (r : Record) → Tells P x (Ev.Done task r) → r.outcome ≡ untold
  told_end (E.Begin fuel) task r h = absurd (cc h)
  told_end (E.Key number function tuple) task r h = absurd (cc (h.2))
  told_end (E.Fill key site begins) task r h = absurd (cc h)
  told_end (E.Def by site) task r h = absurd (cc h)
  told_end (E.Del by place) task r h = absurd (cc h)
  told_end (E.Spawn by child place) task r h = absurd (cc h)
  told_end (E.Done by calls trace output ending) task r h = by_record h
    where
      by_record : Ev.Done task r ≡ Ev.Done by (record_of calls trace output) → r.outcome ≡ untold
      by_record e =
          let is : r ≡ record_of calls trace output = cc e in
          ap (λ (q : Record). q.outcome) is

  pub outcome_untold : (xs : List Entry) (es : List Event) (task : ℕ) (r : Record) → AllTell P xs es → done_of task es ≡ Some r → r.outcome ≡ untold
  outcome_untold [] es task r h g = absurd (cc (ap (done_of task) h, g))
  outcome_untold (x ∷ xs) [] task r h g = absurd h
  outcome_untold (x ∷ xs) (Ev.Done by ended ∷ es) task r h g = go (nat_eq by task) g (outcome_untold xs es task r h.1)
    where
      go : (b : Bool) → cond b (Some ended) (done_of task es) ≡ Some r → (done_of task es ≡ Some r → r.outcome ≡ untold) → r.outcome ≡ untold
      go true k more =
          let is : ended ≡ r = cc k in
          subst (λ (q : Record). q.outcome ≡ untold) is (told_end x by ended h.0)
      go false k more = more k
  outcome_untold (x ∷ xs) (Ev.Begin fuel ∷ es) task r h g = outcome_untold xs es task r h.1 g
  outcome_untold (x ∷ xs) (Ev.Key key ∷ es) task r h g = outcome_untold xs es task r h.1 g
  outcome_untold (x ∷ xs) (Ev.Fill key site begins ∷ es) task r h g = outcome_untold xs es task r h.1 g
  outcome_untold (x ∷ xs) (Ev.Def by site ∷ es) task r h g = outcome_untold xs es task r h.1 g
  outcome_untold (x ∷ xs) (Ev.Del by place ∷ es) task r h g = outcome_untold xs es task r h.1 g
  outcome_untold (x ∷ xs) (Ev.Spawn by child start ∷ es) task r h g = outcome_untold xs es task r h.1 g

  -- a task ends in the text exactly where it ends among the events
  pub end_there : (xs : List Entry) (es : List Event) (task : ℕ) → AllTell P xs es → has_end xs task ≡ true → IsSome (done_of task es)
  end_there [] es task h g = absurd (cc g)
  end_there (x ∷ xs) [] task h g = absurd h
  end_there (E.Begin fuel ∷ xs) (e ∷ es) task h g = subst (λ d. IsSome (done_of task (d ∷ es))) (sym h.0) (end_there xs es task h.1 g)
  end_there (E.Key number function tuple ∷ xs) (e ∷ es) task h g = subst (λ d. IsSome (done_of task (d ∷ es))) (sym h.0.2) (end_there xs es task h.1 g)
  end_there (E.Fill key site begins ∷ xs) (e ∷ es) task h g = subst (λ d. IsSome (done_of task (d ∷ es))) (sym h.0) (end_there xs es task h.1 g)
  end_there (E.Def by site ∷ xs) (e ∷ es) task h g = subst (λ d. IsSome (done_of task (d ∷ es))) (sym h.0) (end_there xs es task h.1 g)
  end_there (E.Del by place ∷ xs) (e ∷ es) task h g = subst (λ d. IsSome (done_of task (d ∷ es))) (sym h.0) (end_there xs es task h.1 g)
  end_there (E.Spawn by child place ∷ xs) (e ∷ es) task h g = subst (λ d. IsSome (done_of task (d ∷ es))) (sym h.0) (end_there xs es task h.1 g)
  end_there (E.Done by calls trace output ending ∷ xs) (e ∷ es) task h g =
      subst (λ d. IsSome (done_of task (d ∷ es))) (sym h.0) (go (nat_eq by task) g (end_there xs es task h.1))
    where
      go : (b : Bool) → (b || has_end xs task) ≡ true → (has_end xs task ≡ true → IsSome (done_of task es)) → IsSome (cond b (Some (record_of calls trace output)) (done_of task es))
      go true k more = refl
      go false k more = more k
