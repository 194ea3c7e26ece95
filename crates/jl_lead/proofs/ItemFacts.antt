-- What stands next in a trace, and a trace that departs.
use Rattle.std.proofs.Common.{◌≡◌, ◌∙◌, ◌⊎◌, inl, inr, ap, sym, subst, refl, ℕ, zero, suc, ◌+◌, ◌≤◌, arith, Bool, true, false, cond, nat_eq, List, [], ◌∷◌, ◌++◌, append_assoc, length-append, drop, length, slice_get, Option, Some, None}
use Rattle.std.proofs.lemmas.Option.{same_Some, none-some}
use Rattle.jl_calculus.specs.declared.history.Event.{Event}
use Rattle.jl_calculus.specs.declared.history.Outcome.{Outcome}
use Rattle.jl_calculus.specs.declared.history.Seen.{Seen}
use Rattle.jl_calculus.specs.declared.history.TraceItem.{TraceItem}
use Rattle.jl_calculus.specs.declared.history.TraceItem.TheVariants.{Look, Def, Del, Spawn, Fetch, WorldFull, TaskFull, Absent}
use Rattle.jl_program.specs.declared.tree.Program.{Program}
use Rattle.jl_calculus.specs.World.{world_of}
use Rattle.jl_lead.specs.Items.{IsSameQuestion, Begins, Departs, next_item, look_of, world_full_of, task_full_of, absent_of, is_absence, IsNoFetch}
use Rattle.jl_lead.specs.Leads.{IsOn}
use Rattle.jl_lead.specs.Stretch.{IsStretch}

-- ---- the item that stands next

pub next_is : (is : List TraceItem) (n : ℕ) (x : TraceItem) → slice_get is n ≡ Some x → drop n is ≡ x ∷ drop (n + 1) is
next_is is n x h = let e : suc n ≡ n + 1 = omega arith in at is n x h ∙ ap (λ k. x ∷ drop k is) e
  where
    at : (is : List TraceItem) (n : ℕ) (x : TraceItem) → slice_get is n ≡ Some x → drop n is ≡ x ∷ drop (suc n) is
    at [] n x h = absurd (none-some _ h)
    at (y ∷ is) zero x h = ap (λ z. z ∷ is) (same_Some _ _ h)
    at (y ∷ is) (suc n) x h = at is n x h

-- a task for which something stands next does not go on alone
pub next_on : (alone : Bool) (is : List TraceItem) (n : ℕ) (x : TraceItem) → next_item alone is n ≡ Some x → (alone ≡ false) × (slice_get is n ≡ Some x)
next_on true is n x h = absurd (none-some _ h)
next_on false is n x h = (refl, h)

pub is_look : (o : Option TraceItem) (s : Seen) → look_of o ≡ Some s → o ≡ Some (Look s.world s.length)
is_look None s h = absurd (none-some _ h)
is_look (Some (Look w p)) s h = let e = same_Some _ _ h in ap (λ (z : Seen). Some (Look z.world z.length)) e
is_look (Some (Def site p)) s h = absurd (none-some _ h)
is_look (Some (Spawn c p)) s h = absurd (none-some _ h)
is_look (Some (Fetch t o p)) s h = absurd (none-some _ h)
is_look (Some (WorldFull p)) s h = absurd (none-some _ h)
is_look (Some (TaskFull p)) s h = absurd (none-some _ h)
is_look (Some (Del place p)) s h = absurd (none-some _ h)
is_look (Some (Absent place p)) s h = absurd (none-some _ h)

pub is_world_full : (o : Option TraceItem) (p : ℕ) → world_full_of o ≡ Some p → o ≡ Some (WorldFull p)
is_world_full None p h = absurd (none-some _ h)
is_world_full (Some (WorldFull q)) p h = ap (λ z. Some (WorldFull z)) (same_Some _ _ h)
is_world_full (Some (Look w q)) p h = absurd (none-some _ h)
is_world_full (Some (Def site q)) p h = absurd (none-some _ h)
is_world_full (Some (Spawn c q)) p h = absurd (none-some _ h)
is_world_full (Some (Fetch t o q)) p h = absurd (none-some _ h)
is_world_full (Some (TaskFull q)) p h = absurd (none-some _ h)
is_world_full (Some (Del place q)) p h = absurd (none-some _ h)
is_world_full (Some (Absent place q)) p h = absurd (none-some _ h)

pub is_task_full : (o : Option TraceItem) (p : ℕ) → task_full_of o ≡ Some p → o ≡ Some (TaskFull p)
is_task_full None p h = absurd (none-some _ h)
is_task_full (Some (TaskFull q)) p h = ap (λ z. Some (TaskFull z)) (same_Some _ _ h)
is_task_full (Some (Look w q)) p h = absurd (none-some _ h)
is_task_full (Some (Def site q)) p h = absurd (none-some _ h)
is_task_full (Some (Spawn c q)) p h = absurd (none-some _ h)
is_task_full (Some (Fetch t o q)) p h = absurd (none-some _ h)
is_task_full (Some (WorldFull q)) p h = absurd (none-some _ h)
is_task_full (Some (Del place q)) p h = absurd (none-some _ h)
is_task_full (Some (Absent place q)) p h = absurd (none-some _ h)

pub is_absent : (o : Option TraceItem) (place p : ℕ) → absent_of place o ≡ Some p → o ≡ Some (Absent place p)
is_absent None place p h = absurd (none-some _ h)
is_absent (Some (Absent z q)) place p h = by (nat_eq z place) refl h
  where
    by : (b : Bool) → nat_eq z place ≡ b → cond b (Some q) None ≡ Some p → Some (Absent z q) ≡ Some (Absent place p)
    by true e k =
        let at : z ≡ place = grind (arith, e) in
        ap (λ u. Some (Absent u q)) at ∙ ap (λ r. Some (Absent place r)) (same_Some _ _ k)
    by false e k = absurd (none-some _ k)
is_absent (Some (Look w q)) place p h = absurd (none-some _ h)
is_absent (Some (Def site q)) place p h = absurd (none-some _ h)
is_absent (Some (Spawn c q)) place p h = absurd (none-some _ h)
is_absent (Some (Fetch t o q)) place p h = absurd (none-some _ h)
is_absent (Some (WorldFull q)) place p h = absurd (none-some _ h)
is_absent (Some (TaskFull q)) place p h = absurd (none-some _ h)
is_absent (Some (Del z q)) place p h = absurd (none-some _ h)

pub some_absence : (o : Option TraceItem) → is_absence o ≡ true → (place : ℕ) × (p : ℕ) × (o ≡ Some (Absent place p))
some_absence None h = absurd (cc h)
some_absence (Some (Absent z q)) h = (z, q, refl)
some_absence (Some (Look w q)) h = absurd (cc h)
some_absence (Some (Def site q)) h = absurd (cc h)
some_absence (Some (Spawn c q)) h = absurd (cc h)
some_absence (Some (Fetch t o q)) h = absurd (cc h)
some_absence (Some (WorldFull q)) h = absurd (cc h)
some_absence (Some (TaskFull q)) h = absurd (cc h)
some_absence (Some (Del z q)) h = absurd (cc h)

-- ---- what does not stand next

pub no_look : (is : List TraceItem) (n w p : ℕ) → look_of (slice_get is n) ≡ None → Begins (Look w p) (drop n is) → ⊥
no_look [] zero w p h b = b
no_look [] (suc n) w p h b = b
no_look (Look v q ∷ is) zero w p h b = none-some _ (sym h)
no_look (Def s q ∷ is) zero w p h b = b
no_look (Spawn c q ∷ is) zero w p h b = b
no_look (Fetch t o q ∷ is) zero w p h b = b
no_look (WorldFull q ∷ is) zero w p h b = b
no_look (TaskFull q ∷ is) zero w p h b = b
no_look (Del place q ∷ is) zero w p h b = b
no_look (Absent place q ∷ is) zero w p h b = b
no_look (y ∷ is) (suc n) w p h b = no_look is n w p h b

module _ (P : Program) (es : List Event) (low : ℕ) where
  pub no_def : (is : List TraceItem) (n site p : ℕ) → world_full_of (slice_get is n) ≡ None → IsStretch P es low (drop n is) → Begins (Def site p) (drop n is) → ⊥
  no_def [] zero site p h s b = b
  no_def [] (suc n) site p h s b = b
  no_def (Look v q ∷ is) zero site p h s b = b
  no_def (Def z q ∷ is) zero site p h s b = s
  no_def (Spawn c q ∷ is) zero site p h s b = b
  no_def (Fetch t o q ∷ is) zero site p h s b = b
  no_def (WorldFull q ∷ is) zero site p h s b = none-some _ (sym h)
  no_def (TaskFull q ∷ is) zero site p h s b = b
  no_def (Del place q ∷ is) zero site p h s b = s
  no_def (Absent place q ∷ is) zero site p h s b = b
  no_def (y ∷ is) (suc n) site p h s b = no_def is n site p h s b

  pub no_del : (is : List TraceItem) (n place p : ℕ) → world_full_of (slice_get is n) ≡ None → absent_of place (slice_get is n) ≡ None → IsStretch P es low (drop n is) → Begins (Del place p) (drop n is) → ⊥
  no_del [] zero place p h k s b = b
  no_del [] (suc n) place p h k s b = b
  no_del (Look v q ∷ is) zero place p h k s b = b
  no_del (Def z q ∷ is) zero place p h k s b = b
  no_del (Spawn c q ∷ is) zero place p h k s b = b
  no_del (Fetch t o q ∷ is) zero place p h k s b = b
  no_del (WorldFull q ∷ is) zero place p h k s b = none-some _ (sym h)
  no_del (TaskFull q ∷ is) zero place p h k s b = b
  no_del (Del z q ∷ is) zero place p h k s b = s
  no_del (Absent z q ∷ is) zero place p h k s b =
      let here : nat_eq z place ≡ true = grind (arith, b) in
      none-some _ (sym (sym (ap (λ (c : Bool). cond c (Some q) None) here) ∙ k))
  no_del (y ∷ is) (suc n) place p h k s b = no_del is n place p h k s b

  pub no_world_full : (is : List TraceItem) (n p : ℕ) → world_full_of (slice_get is n) ≡ None → is_absence (slice_get is n) ≡ false → IsStretch P es low (drop n is) → Begins (WorldFull p) (drop n is) → ⊥
  no_world_full [] zero p h k s b = b
  no_world_full [] (suc n) p h k s b = b
  no_world_full (Look v q ∷ is) zero p h k s b = b
  no_world_full (Def z q ∷ is) zero p h k s b = s
  no_world_full (Spawn c q ∷ is) zero p h k s b = b
  no_world_full (Fetch t o q ∷ is) zero p h k s b = b
  no_world_full (WorldFull q ∷ is) zero p h k s b = none-some _ (sym h)
  no_world_full (TaskFull q ∷ is) zero p h k s b = b
  no_world_full (Del place q ∷ is) zero p h k s b = s
  no_world_full (Absent place q ∷ is) zero p h k s b = cc k
  no_world_full (y ∷ is) (suc n) p h k s b = no_world_full is n p h k s b

  pub no_spawn : (is : List TraceItem) (n child p : ℕ) → task_full_of (slice_get is n) ≡ None → IsStretch P es low (drop n is) → Begins (Spawn child p) (drop n is) → ⊥
  no_spawn [] zero child p h s b = b
  no_spawn [] (suc n) child p h s b = b
  no_spawn (Look v q ∷ is) zero child p h s b = b
  no_spawn (Def z q ∷ is) zero child p h s b = b
  no_spawn (Spawn c q ∷ is) zero child p h s b = s
  no_spawn (Fetch t o q ∷ is) zero child p h s b = b
  no_spawn (WorldFull q ∷ is) zero child p h s b = b
  no_spawn (TaskFull q ∷ is) zero child p h s b = none-some _ (sym h)
  no_spawn (Del place q ∷ is) zero child p h s b = s
  no_spawn (Absent place q ∷ is) zero child p h s b = b
  no_spawn (y ∷ is) (suc n) child p h s b = no_spawn is n child p h s b

  pub no_task_full : (is : List TraceItem) (n p : ℕ) → task_full_of (slice_get is n) ≡ None → IsStretch P es low (drop n is) → Begins (TaskFull p) (drop n is) → ⊥
  no_task_full [] zero p h s b = b
  no_task_full [] (suc n) p h s b = b
  no_task_full (Look v q ∷ is) zero p h s b = b
  no_task_full (Def z q ∷ is) zero p h s b = b
  no_task_full (Spawn c q ∷ is) zero p h s b = s
  no_task_full (Fetch t o q ∷ is) zero p h s b = b
  no_task_full (WorldFull q ∷ is) zero p h s b = b
  no_task_full (TaskFull q ∷ is) zero p h s b = none-some _ (sym h)
  no_task_full (Del place q ∷ is) zero p h s b = s
  no_task_full (Absent place q ∷ is) zero p h s b = b
  no_task_full (y ∷ is) (suc n) p h s b = no_task_full is n p h s b

  -- the events of a stretch have no more worlds than a run may have
  pub stretch_few : (is : List TraceItem) → IsStretch P es low is → world_of es ≤ 65535
  stretch_few is s = few low is s
    where
      few : (at : ℕ) (is : List TraceItem) → IsStretch P es at is → world_of es ≤ 65535
      few at [] s = s.1
      few at (Look v q ∷ is) s = few q is s.3
      few at (Def z q ∷ is) s = absurd s
      few at (Spawn c q ∷ is) s = absurd s
      few at (Fetch t o q ∷ is) s = few q is s.3
      few at (WorldFull q ∷ is) s = few q is s.3
      few at (TaskFull q ∷ is) s = few q is s.3
      few at (Del place q ∷ is) s = absurd s
      few at (Absent place q ∷ is) s = few q is s.3

pub no_fetch : (is : List TraceItem) (n of : ℕ) (outcome : Outcome) (p : ℕ) → IsNoFetch (slice_get is n) of → Begins (Fetch of outcome p) (drop n is) → ⊥
no_fetch [] zero of outcome p h b = b
no_fetch [] (suc n) of outcome p h b = b
no_fetch (Look v q ∷ is) zero of outcome p h b = b
no_fetch (Def s q ∷ is) zero of outcome p h b = b
no_fetch (Spawn c q ∷ is) zero of outcome p h b = b
no_fetch (Fetch t o q ∷ is) zero of outcome p h b = h (sym b)
no_fetch (WorldFull q ∷ is) zero of outcome p h b = b
no_fetch (TaskFull q ∷ is) zero of outcome p h b = b
no_fetch (Del place q ∷ is) zero of outcome p h b = b
no_fetch (Absent place q ∷ is) zero of outcome p h b = b
no_fetch (y ∷ is) (suc n) of outcome p h b = no_fetch is n of outcome p h b

-- ---- a trace that departs

pub same : (i : TraceItem) → IsSameQuestion i i
same (Look w p) = tt
same (Def site p) = refl
same (Spawn c p) = tt
same (Fetch t o p) = refl
same (WorldFull p) = tt
same (TaskFull p) = tt
same (Del place p) = refl
same (Absent place p) = refl

-- one more item is followed
pub one_more : (trace whole is : List TraceItem) (n : ℕ) (x : TraceItem) → slice_get is n ≡ Some x → trace ++ drop n is ≡ whole → (trace ++ x ∷ []) ++ drop (n + 1) is ≡ whole
one_more trace whole is n x h e = append_assoc trace (x ∷ []) (drop (n + 1) is) ∙ ap (λ xs. trace ++ xs) (sym (next_is is n x h)) ∙ e

-- a task departs from its trace, or has departed before
pub departs_at : (alone : Bool) (left whole trace : List TraceItem) (i : TraceItem) → is_absence (Some i) ≡ false → (alone ≡ false → Begins i left → ⊥) → IsOn alone left whole trace → Departs left whole (trace ++ i ∷ [])
departs_at false left whole trace i told apart on = record { before = trace; item = i; after = []; there = refl; followed = on; apart = apart refl; told = told }
departs_at true left whole trace i told apart on = record {
  before = on.before;
  item = on.item;
  after = on.after ++ i ∷ [];
  there = ap (λ xs. xs ++ i ∷ []) on.there ∙ append_assoc on.before (on.item ∷ on.after) (i ∷ []);
  followed = on.followed;
  apart = on.apart;
  told = on.told;
}

cancel : (xs ys zs : List TraceItem) → xs ++ ys ≡ xs ++ zs → ys ≡ zs
cancel [] ys zs e = e
cancel (x ∷ xs) ys zs e = cancel xs ys zs (ap (drop 1) e)

-- the last item of a trace is where it departs, or it departs before that
last_or_before : (old before after : List TraceItem) (x i : TraceItem) → old ++ x ∷ [] ≡ before ++ i ∷ after → ((before ≡ old) × (i ≡ x)) ⊎ ((mid : List TraceItem) × (old ≡ before ++ i ∷ mid))
last_or_before [] [] after x i e = inl (refl, sym (cc (e)))
last_or_before (y ∷ old) [] after x i e = inr (old, ap (λ z. z ∷ old) (cc (e)))
last_or_before [] (z ∷ before) after x i e = let n : length (x ∷ []) ≡ length (z ∷ (before ++ i ∷ after)) = ap length e in absurd (omega (arith, n, length-append before (i ∷ after)))
last_or_before (y ∷ old) (z ∷ before) after x i e = deeper (last_or_before old before after x i (ap (drop 1) e))
  where
    head : y ≡ z
    head = cc (e)

    deeper : ((before ≡ old) × (i ≡ x)) ⊎ ((mid : List TraceItem) × (old ≡ before ++ i ∷ mid)) → ((z ∷ before ≡ y ∷ old) × (i ≡ x)) ⊎ ((mid : List TraceItem) × (y ∷ old ≡ z ∷ (before ++ i ∷ mid)))
    deeper (inl (p, q)) = inl ((λ k. sym head k ∷ p k), q)
    deeper (inr (mid, p)) = inr (mid, λ k. head k ∷ p k)

-- what was followed to here did not depart before
never_before : (old before left left' mid : List TraceItem) (i : TraceItem) → old ≡ before ++ i ∷ mid → before ++ left' ≡ old ++ left → (Begins i left' → ⊥) → ⊥
never_before old before left left' mid i e q apart =
    let rest : left' ≡ i ∷ (mid ++ left) = cancel before left' (i ∷ (mid ++ left)) (q ∙ ap (λ xs. xs ++ left) e ∙ append_assoc before (i ∷ mid) left) in
    apart (subst (Begins i) (sym rest) (same i))

-- a task that follows its trace has not departed from it
pub not_departed : (left left' whole old : List TraceItem) → old ++ left ≡ whole → Departs left' whole old → ⊥
not_departed left left' whole old on d = never_before old d.before left left' d.after d.item d.there (d.followed ∙ sym on) d.apart

-- one that departs with one more item departs there
pub departed : (left left' whole old : List TraceItem) (x : TraceItem) → old ++ left ≡ whole → Departs left' whole (old ++ x ∷ []) → (left' ≡ left) × (Begins x left → ⊥) × (is_absence (Some x) ≡ false)
departed left left' whole old x on d = cases (last_or_before old d.before d.after x d.item d.there)
  where
    cases : ((d.before ≡ old) × (d.item ≡ x)) ⊎ ((mid : List TraceItem) × (old ≡ d.before ++ d.item ∷ mid)) → (left' ≡ left) × (Begins x left → ⊥) × (is_absence (Some x) ≡ false)
    cases (inl (p, q)) =
        let e : left' ≡ left = cancel old left' left (ap (λ xs. xs ++ left') (sym p) ∙ d.followed ∙ sym on) in
        (e, subst (λ (z : TraceItem × List TraceItem). Begins z.0 z.1 → ⊥) (λ k. (q k, e k)) d.apart, subst (λ z. is_absence (Some z) ≡ false) q d.told)
    cases (inr (mid, p)) = absurd (never_before old d.before left left' mid d.item p (d.followed ∙ sym on) d.apart)
