-- What holds of each state that is reached: rows and hits tell the choice, and the first task without an end can go on.
use Rattle.std.proofs.Common.{◌≡◌, ◌∙◌, ap, sym, subst, refl, ℕ, zero, suc, ◌+◌, ◌<◌, ◌≤◌, ◌⊎◌, inl, inr, arith, Bool, true, false, cond, nat_eq, List, [], ◌∷◌, ◌++◌, append_assoc, append-nil, slice_get, Option, None, Some, IsSome}
use Rattle.std.specs.List.{Contains}
use Rattle.std.proofs.lemmas.List.Elements.{Contains-append_cases}
use Rattle.jl_program.specs.Gathered.{times}
use Rattle.jl_program.specs.declared.tree.Program.{Program}
use Rattle.jl_calculus.specs.declared.history.Event.{Event}
use Rattle.jl_calculus.specs.declared.history.Record.{Record}
use Rattle.jl_calculus.specs.declared.step.Step.TheVariants as St
use Rattle.jl_calculus.specs.Core.{Stand, at_row, found, missed, Search, TaskState, Core, Knows, IsEnabled}
use Rattle.jl_calculus.specs.Kept.{Places}
use Rattle.jl_calculus.specs.Legal.{AreFinished}
use Rattle.jl_calculus.specs.Orders.{wait_order}
use Rattle.jl_calculus.specs.Past.{tasks_of, done_of}
use Rattle.jl_calculus.specs.Ranges.{CacheRow, keys_of, rows_of}
use Rattle.jl_calculus.proofs.BetweenLemmas.{row_tells}
use Rattle.jl_calculus.proofs.OrderLemmas.{path_once, path_only, wait_same}
use Rattle.jl_core.specs.Reached.{IsReached, IsRightRow, IsRightSite, site_at, site_by, search_by, last_search, found_by, IsRightHit, IsFirstUnfinished, KnowsFinished}
use Rattle.jl_core.proofs.BeforeLemmas.{before, in_front}
use Rattle.jl_core.proofs.EventLemmas.{contains_at}
use Rattle.jl_core.proofs.Sound.{StandsWell, IsSoundSearch, MaySearch, IsSound}
use Rattle.jl_core.proofs.StepLemmas.{reached_sound}

-- ---- a hit

same_number : (a b : ℕ) → Some a ≡ Some b → a ≡ b
same_number a b q = cc

none_is_some : (a : ℕ) (A : Type 0) → None ≡ Some a → A
none_is_some a A q = cc

right_at : (P : Program) (es : List Event) (last : Search) (site : ℕ) → IsSoundSearch P es last → (stand : Stand) → last.stand ≡ stand → site_at stand ≡ Some site → IsRightSite P es last site
right_at P es last site k (at_row r) e q = none_is_some site (IsRightSite P es last site) q
right_at P es last site k missed e q = none_is_some site (IsRightSite P es last site) q
right_at P es last site k (found n) e q =
    record { key = k.key; named = k.named; known = k.high; choice = subst (StandsWell P es last.key k.key last.world) (e ∙ ap (λ (m : ℕ). found m) (same_number n site q)) k.at }

by_search : (P : Program) (s : Core) (task site : ℕ) (o : Option Search) → MaySearch P s.events o → last_search s task ≡ o → site_by o ≡ Some site → IsRightHit P s task site
by_search P s task site None k e q = none_is_some site (IsRightHit P s task site) q
by_search P s task site (Some last) k e q = (last, e, right_at P s.events last site k last.stand refl q)

by_task : (P : Program) (s : Core) → IsSound P s → (task site : ℕ) (o : Option TaskState) → slice_get s.tasks task ≡ o → site_by (search_by o) ≡ Some site → IsRightHit P s task site
by_task P s h task site None e q = none_is_some site (IsRightHit P s task site) q
by_task P s h task site (Some t) e q = by_search P s task site t.search (h.tasks task t e).search (ap search_by e) q

module _ (P : Program) (room : Places) (s : Core) (h : IsReached P room s) where
  sound : IsSound P s
  sound = reached_sound P room s h

  pub rows_right : (row : CacheRow) → Contains (rows_of s.events) row → IsRightRow P s.events row
  rows_right row c =
      let k = sound.events.rows row c in
      record { key = k.key; named = k.named; choice = λ w l covers. row_tells P h.valid s.events k.key row.site row.first w (sound.events.proper k.key (contains_at (keys_of s.events) row.key k.key k.named)) k.right covers }

  -- ---- hits

  pub hits_right : (task site : ℕ) → found_by s task ≡ Some site → IsRightHit P s task site
  hits_right task site q = by_task P s sound task site (slice_get s.tasks task) refl q

  -- ---- the first task without an end

  record_there : (o : Option Record) → IsSome o → (r : Record) × (o ≡ Some r)
  record_there None k = cc
  record_there (Some r) k = (r, refl)

  pub first_knows : (task : ℕ) → IsFirstUnfinished s.events task → KnowsFinished s task
  first_knows task k t other at c =
      let b : before other task (k.earlier ++ task ∷ k.later) ≡ true = subst (λ order. before other task order ≡ true) k.order ((sound.tasks task t at).known other c) in
      record_there (done_of other s.events) (k.ended other (in_front other task k.earlier k.later b))

  same_true : (x : ℕ) → nat_eq x x ≡ true
  same_true x = grind arith

  times_first : (x : ℕ) (ys : List ℕ) → 0 < times x (x ∷ ys)
  times_first x ys = subst (λ (b : Bool). 0 < cond b (1 + times x ys) (times x ys)) (sym (same_true x)) (let l : 0 < 1 + times x ys = omega arith in l)

  times_here : (x : ℕ) (xs ys : List ℕ) → 0 < times x (xs ++ x ∷ ys)
  times_here x [] ys = times_first x ys
  times_here x (z ∷ xs) ys = by (nat_eq x z) (times_here x xs ys)
    where
      by : (b : Bool) → 0 < times x (xs ++ x ∷ ys) → 0 < cond b (1 + times x (xs ++ x ∷ ys)) (times x (xs ++ x ∷ ys))
      by true l = omega (arith, l)
      by false l = l

  started : (task : ℕ) → IsFirstUnfinished s.events task → task < tasks_of s.events
  started task k =
      let some : 0 < times task (wait_order s.events) = subst (λ order. 0 < times task order) (sym k.order) (times_here task k.earlier k.later) in
      let none : tasks_of s.events ≤ task → ⊥ = λ l. absurd (omega (arith, some, wait_same P s.events sound.events.stand task, path_only P s.events sound.events.stand task l)) in
      grind (arith, none)

  pub first_fetches : (task : ℕ) → IsFirstUnfinished s.events task → s.opened ≡ None → (other : ℕ) → Knows P room s task (other ∷ []) → IsEnabled P room s (St.Fetch task other)
  first_fetches task k closed other known = record {
    free = record { running = record { begun = sound.events.stand.begun; started = started task k; going = k.going }; closed = closed };
    known = known;
    ended = first_knows task k known.state other known.at (known.each other (0, omega arith, refl));
  }

  -- ---- there is one, unless all have ended

  times_contains : (x : ℕ) (xs : List ℕ) → 0 < times x xs → Contains xs x
  times_contains x [] l = absurd (omega (arith, l))
  times_contains x (z ∷ xs) l = by (nat_eq x z) refl l (times_contains x xs)
    where
      by : (b : Bool) → nat_eq x z ≡ b → 0 < cond b (1 + times x xs) (times x xs) → (0 < times x xs → Contains xs x) → Contains (z ∷ xs) x
      by true q l f = (0, omega arith, grind (arith, q))
      by false q l f = (let (i, m, e) = f l in (suc i, omega (arith, m), e))

  all_ended : (order : List ℕ) → wait_order s.events ≡ order → ((other : ℕ) → Contains order other → IsSome (done_of other s.events)) → AreFinished s.events
  all_ended order e f task l =
      let once : times task (wait_order s.events) ≡ 1 = wait_same P s.events sound.events.stand task ∙ path_once P s.events sound.events.stand task l in
      f task (times_contains task order (subst (λ (xs : List ℕ). 0 < times task xs) e (omega (arith, once))))

  seek : (front rest : List ℕ) → wait_order s.events ≡ front ++ rest → ((other : ℕ) → Contains front other → IsSome (done_of other s.events))
      → AreFinished s.events ⊎ ((task : ℕ) × IsFirstUnfinished s.events task)
  seek front [] e f = inl (all_ended front (e ∙ append-nil front) f)
  seek front (x ∷ rest) e f = by (done_of x s.events) refl (λ g. seek (front ++ x ∷ []) rest (e ∙ sym (append_assoc front (x ∷ []) rest)) g)
    where
      ended_more : IsSome (done_of x s.events) → (other : ℕ) → Contains front other ⊎ Contains (x ∷ []) other → IsSome (done_of other s.events)
      ended_more k other (inl c) = f other c
      ended_more k other (inr (zero, l, q)) = subst (λ n. IsSome (done_of n s.events)) q k
      ended_more k other (inr (suc i, l, q)) = absurd (omega (arith, l))

      by : (o : Option Record) → done_of x s.events ≡ o → (((other : ℕ) → Contains (front ++ x ∷ []) other → IsSome (done_of other s.events)) → AreFinished s.events ⊎ ((task : ℕ) × IsFirstUnfinished s.events task))
          → AreFinished s.events ⊎ ((task : ℕ) × IsFirstUnfinished s.events task)
      by None q g = inr (x, record { earlier = front; later = rest; order = e; going = q; ended = f })
      by (Some r) q g = g (λ other c. ended_more (subst IsSome (sym q) refl) other (Contains-append_cases front (x ∷ []) other c))

  pub first_there : AreFinished s.events ⊎ ((task : ℕ) × IsFirstUnfinished s.events task)
  first_there = seek [] (wait_order s.events) refl (λ other c. (let (k, l, e) = c in absurd (omega (arith, l))))
