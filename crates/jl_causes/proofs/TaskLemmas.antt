-- What is known of each task after one more event.
use Rattle.std.proofs.Common.{◌≡◌, ◌∙◌, ap, sym, subst, refl, ℕ, zero, suc, ◌+◌, ◌<◌, arith, Bool, true, false, cond, nat_eq, List, [], ◌∷◌, ◌++◌, length, get_or, append-nil, Some, None, IsSome}
use Rattle.std.specs.Prelude.{slice_set}
use Rattle.std.proofs.lemmas.List.{length-set, get_or-set_same, get_or-set_other, length_push, get_or_push}
use Rattle.jl_program.specs.declared.tree.Start.{Start}
use Rattle.jl_calculus.specs.declared.history.Event.{Event}
use Rattle.jl_calculus.specs.declared.history.Event.TheVariants as Ev
use Rattle.jl_calculus.specs.declared.history.Record.{Record}
use Rattle.jl_calculus.specs.declared.history.TraceItem.{TraceItem}
use Rattle.jl_calculus.specs.Legal.{fuel_of, start_of, first_place, IsRunning}
use Rattle.jl_calculus.specs.Past.{tasks_of, done_of, own_events, if_own}
use Rattle.jl_world.proofs.Growth.{fuel_append, tasks_append, own_append, start_later, differ, agreed}
use Rattle.jl_report.specs.declared.entry.Step.{Step}
use Rattle.jl_report.specs.declared.entry.Step.TheVariants as S
use Rattle.jl_causes.specs.declared.tasks.Tasks.{Tasks}
use Rattle.jl_causes.specs.Sketch.{item_of, items_of}
use Rattle.jl_causes.specs.Tables.{IsEndOf, AreTasks}
use Rattle.jl_causes.proofs.PlaceLemmas.{end_kept, end_now, running_end}

-- ---- places of first items

-- an event that does not start the task
pub first_kept : (t p : ℕ) (es : List Event) (e : Event) → ((q : ℕ) → first_place t q (e ∷ []) ≡ 1) → first_place t p (es ++ e ∷ []) ≡ first_place t p es
first_kept t p [] e h = h p
first_kept t p (Ev.Begin fuel ∷ es) e h = first_kept t (p + 1) es e h
first_kept t p (Ev.Key key ∷ es) e h = first_kept t (p + 1) es e h
first_kept t p (Ev.Fill key site begins ∷ es) e h = first_kept t (p + 1) es e h
first_kept t p (Ev.Def by site ∷ es) e h = first_kept t (p + 1) es e h
first_kept t p (Ev.Del by place ∷ es) e h = first_kept t (p + 1) es e h
first_kept t p (Ev.Done by ended ∷ es) e h = first_kept t (p + 1) es e h
first_kept t p (Ev.Spawn by child start ∷ es) e h = ap (cond (nat_eq child t) (p + 1)) (first_kept t (p + 1) es e h)

-- the event that starts it
first_new : (t p : ℕ) (es : List Event) (by : ℕ) (start : Start) → start_of t es ≡ None → first_place t p (es ++ Ev.Spawn by t start ∷ []) ≡ p + length es + 1
first_new t p [] by start h = ap (λ (b : Bool). cond b (p + 1) 1) (agreed t t refl) ∙ omega arith
first_new t p (Ev.Begin fuel ∷ es) by start h = first_new t (p + 1) es by start h ∙ omega arith
first_new t p (Ev.Key key ∷ es) by start h = first_new t (p + 1) es by start h ∙ omega arith
first_new t p (Ev.Fill key site begins ∷ es) by start h = first_new t (p + 1) es by start h ∙ omega arith
first_new t p (Ev.Def task site ∷ es) by start h = first_new t (p + 1) es by start h ∙ omega arith
first_new t p (Ev.Del task place ∷ es) by start h = first_new t (p + 1) es by start h ∙ omega arith
first_new t p (Ev.Done task ended ∷ es) by start h = first_new t (p + 1) es by start h ∙ omega arith
first_new t p (Ev.Spawn task child s ∷ es) by start h = go (nat_eq child t) h (λ k. first_new t (p + 1) es by start k)
  where
    go : (b : Bool) → cond b (Some s) (start_of t es) ≡ None → (start_of t es ≡ None → first_place t (p + 1) (es ++ Ev.Spawn by t start ∷ []) ≡ p + 1 + length es + 1) → cond b (p + 1) (first_place t (p + 1) (es ++ Ev.Spawn by t start ∷ [])) ≡ p + suc (length es) + 1
    go true k more = absurd (cc k)
    go false k more = more k ∙ omega arith

-- ---- own events

items_push : (ss : List Step) (s : Step) → items_of (ss ++ s ∷ []) ≡ items_of ss ++ item_of s ∷ []
items_push [] s = refl
items_push (x ∷ ss) s = ap (λ is. item_of x ∷ is) (items_push ss s)

-- the steps of a task with one more at their end, where it is that of a list
own_more : (own : List (List Step)) (row : List Step) (by t p : ℕ) (s : Step) (es : List Event) (e : Event) → by < length own → row ≡ get_or own by [] ++ s ∷ []
    → ((k : ℕ) → own_events k p (e ∷ []) ≡ if_own by k (item_of s) []) → p ≡ length es → items_of (get_or own t []) ≡ own_events t 0 es → items_of (get_or (slice_set own by row) t []) ≡ own_events t 0 (es ++ e ∷ [])
own_more own row by t p s es e l r one at h = go (nat_eq by t) refl
  where
    goal : List TraceItem → Type 0
    goal is = is ≡ own_events t 0 (es ++ e ∷ [])

    after : own_events t 0 (es ++ e ∷ []) ≡ own_events t 0 es ++ if_own by t (item_of s) []
    after =
        let from : 0 + length es ≡ p = omega (arith, at) in
        own_append t 0 es (e ∷ []) ∙ ap (λ n. own_events t 0 es ++ own_events t n (e ∷ [])) from ∙ ap (λ is. own_events t 0 es ++ is) (one t)

    go : (b : Bool) → nat_eq by t ≡ b → items_of (get_or (slice_set own by row) t []) ≡ own_events t 0 (es ++ e ∷ [])
    go true q =
        let is : by ≡ t = grind (arith, q) in
        ap (λ k. items_of (get_or (slice_set own by row) k [])) (sym is) ∙ ap items_of (get_or-set_same own by row [] l) ∙ ap items_of r ∙ items_push (get_or own by []) s
        ∙ ap (λ k. items_of (get_or own k []) ++ item_of s ∷ []) is ∙ ap (λ js. js ++ item_of s ∷ []) h
        ∙ sym (after ∙ ap (λ (b : Bool). own_events t 0 es ++ cond b (item_of s ∷ []) []) q)
    go false q =
        let other : t ≡ by → ⊥ = grind (arith, q) in
        ap items_of (get_or-set_other own by t row [] other) ∙ h ∙ sym (append-nil (own_events t 0 es))
        ∙ sym (after ∙ ap (λ (b : Bool). own_events t 0 es ++ cond b (item_of s ∷ []) []) q)

-- ---- the tables

pub begun_more : (es : List Event) (e : Event) → IsSome (fuel_of es) → IsSome (fuel_of (es ++ e ∷ []))
begun_more es e h = subst IsSome (sym (fuel_append es (e ∷ []) h)) h

-- a task makes a definition or a deletion
pub task_changes : (es : List Event) (t q : Tasks) (by : ℕ) (e : Event) (s : Step) (row : List Step) → tasks_of (e ∷ []) ≡ 1 → ((k : ℕ) → start_of k (e ∷ []) ≡ None) → ((k p : ℕ) → first_place k p (e ∷ []) ≡ 1) → ((k : ℕ) → done_of k (e ∷ []) ≡ None)
    → ((k : ℕ) → own_events k (length es) (e ∷ []) ≡ if_own by k (item_of s) []) → q.firsts.items ≡ t.firsts.items → q.ends.items ≡ t.ends.items → q.own.items ≡ slice_set t.own.items by row
    → by < length t.own.items → row ≡ get_or t.own.items by [] ++ s ∷ [] → AreTasks es t → AreTasks (es ++ e ∷ []) q
task_changes es t q by e s row one starts begins none mine firsts ends own l r h =
    let many : tasks_of (es ++ e ∷ []) ≡ tasks_of es = omega (arith, tasks_append es (e ∷ []), one) in
    record {
      begun = begun_more es e h.begun;
      many_firsts = ap length firsts ∙ h.many_firsts ∙ sym many;
      many_ends = ap length ends ∙ h.many_ends ∙ sym many;
      many_own = ap length own ∙ length-set t.own.items by row ∙ h.many_own ∙ sym many;
      unstarted = λ k low. start_later k es (e ∷ []) (h.unstarted k (omega (arith, low, many))) ∙ starts k;
      each_first = λ k. ap (λ xs. get_or xs k 1) firsts ∙ h.each_first k ∙ sym (first_kept k 0 es e (begins k));
      each_end = λ k. subst (λ xs. IsEndOf (es ++ e ∷ []) k (get_or xs k 0)) (sym ends) (end_kept es e k _ (none k) (h.each_end k));
      each_own = λ k. ap (λ xs. items_of (get_or xs k [])) own ∙ own_more t.own.items row by k (length es) s es e l r mine refl (h.each_own k);
    }

pub task_ends : (es : List Event) (t q : Tasks) (by : ℕ) (ended : Record) → q.firsts.items ≡ t.firsts.items → q.ends.items ≡ slice_set t.ends.items by (length es + 1) → q.own.items ≡ t.own.items
    → by < length t.ends.items → IsRunning es by → AreTasks es t → AreTasks (es ++ Ev.Done by ended ∷ []) q
task_ends es t q by ended firsts ends own l run h =
    let e = Ev.Done by ended in
    let many : tasks_of (es ++ e ∷ []) ≡ tasks_of es = omega (arith, tasks_append es (e ∷ [])) in
    record {
      begun = begun_more es e h.begun;
      many_firsts = ap length firsts ∙ h.many_firsts ∙ sym many;
      many_ends = ap length ends ∙ length-set t.ends.items by (length es + 1) ∙ h.many_ends ∙ sym many;
      many_own = ap length own ∙ h.many_own ∙ sym many;
      unstarted = λ k low. start_later k es (e ∷ []) (h.unstarted k (omega (arith, low, many)));
      each_first = λ k. ap (λ xs. get_or xs k 1) firsts ∙ h.each_first k ∙ sym (first_kept k 0 es e (λ p. refl));
      each_end = λ k. subst (λ xs. IsEndOf (es ++ e ∷ []) k (get_or xs k 0)) (sym ends) (go k (nat_eq by k) refl);
      each_own = λ k. ap (λ xs. items_of (get_or xs k [])) own ∙ h.each_own k ∙ sym (own_append k 0 es (e ∷ []) ∙ append-nil (own_events k 0 es));
    }
  where
    go : (k : ℕ) (b : Bool) → nat_eq by k ≡ b → IsEndOf (es ++ Ev.Done by ended ∷ []) k (get_or (slice_set t.ends.items by (length es + 1)) k 0)
    go k true q =
        let is : by ≡ k = grind (arith, q) in
        let none : done_of by es ≡ None = run.going in
        let zero_end : get_or t.ends.items by 0 ≡ 0 = running_end es by (get_or t.ends.items by 0) (h.each_end by) none in
        subst (λ j. IsEndOf (es ++ Ev.Done by ended ∷ []) j (get_or (slice_set t.ends.items by (length es + 1)) j 0)) is
        (subst (IsEndOf (es ++ Ev.Done by ended ∷ []) by) (sym (get_or-set_same t.ends.items by (length es + 1) 0 l))
        (end_now es (Ev.Done by ended) by ended none (subst (IsEndOf es by) zero_end (h.each_end by)) (ap (λ (b : Bool). cond b (Some ended) None) (agreed by by refl))))
    go k false q =
        let other : k ≡ by → ⊥ = grind (arith, q) in
        subst (IsEndOf (es ++ Ev.Done by ended ∷ []) k) (sym (get_or-set_other t.ends.items by k (length es + 1) 0 other))
        (end_kept es (Ev.Done by ended) k _ (ap (λ (b : Bool). cond b (Some ended) None) q) (h.each_end k))

-- one more at the end of a list, whose default is there already
push_same : {X : Type 0} (xs : List X) (x : X) (k : ℕ) → get_or (xs ++ x ∷ []) k x ≡ get_or xs k x
push_same [] x zero = refl
push_same [] x (suc k) = refl
push_same (y ∷ xs) x zero = refl
push_same (y ∷ xs) x (suc k) = push_same xs x k

pub task_spawns : (es : List Event) (t q : Tasks) (by child : ℕ) (start : Start) (row : List Step) → q.firsts.items ≡ t.firsts.items ++ (length es + 1) ∷ [] → q.ends.items ≡ t.ends.items ++ 0 ∷ [] → q.own.items ≡ slice_set t.own.items by row ++ [] ∷ []
    → by < length t.own.items → row ≡ get_or t.own.items by [] ++ S.Spawn child (length es) ∷ [] → child ≡ tasks_of es → AreTasks es t → AreTasks (es ++ Ev.Spawn by child start ∷ []) q
task_spawns es t q by child start row firsts ends own l r next h =
    let e = Ev.Spawn by child start in
    let many : tasks_of (es ++ e ∷ []) ≡ tasks_of es + 1 = omega (arith, tasks_append es (e ∷ [])) in
    record {
      begun = begun_more es e h.begun;
      many_firsts = omega (arith, ap length firsts, length_push t.firsts.items (length es + 1), h.many_firsts, many);
      many_ends = omega (arith, ap length ends, length_push t.ends.items 0, h.many_ends, many);
      many_own = omega (arith, ap length own, length_push (slice_set t.own.items by row) [], length-set t.own.items by row, h.many_own, many);
      unstarted = λ k low.
          start_later k es (e ∷ []) (h.unstarted k (omega (arith, low, many))) ∙ ap (λ (b : Bool). cond b (Some start) None) (differ child k (λ is. omega (arith, is, low, many, next)));
      each_first = λ k. ap (λ xs. get_or xs k 1) firsts ∙ go k (nat_eq child k) refl;
      each_end = λ k. subst (λ xs. IsEndOf (es ++ e ∷ []) k (get_or xs k 0)) (sym ends) (subst (IsEndOf (es ++ e ∷ []) k) (sym (push_same t.ends.items 0 k)) (end_kept es e k _ refl (h.each_end k)));
      each_own = λ k.
          ap (λ xs. items_of (get_or xs k [])) own ∙ ap items_of (push_same (slice_set t.own.items by row) [] k)
          ∙ own_more t.own.items row by k (length es) (S.Spawn child (length es)) es e l r (λ j. refl) refl (h.each_own k);
    }
  where
    go : (k : ℕ) (b : Bool) → nat_eq child k ≡ b → get_or (t.firsts.items ++ (length es + 1) ∷ []) k 1 ≡ first_place k 0 (es ++ Ev.Spawn by child start ∷ [])
    go k true q =
        let is : child ≡ k = grind (arith, q) in
        let there : length t.firsts.items ≡ k = omega (arith, h.many_firsts, next, is) in
        let count : 0 + length es + 1 ≡ length es + 1 = omega arith in
        get_or_push t.firsts.items (length es + 1) 1 k there
        ∙ sym (ap (λ c. first_place k 0 (es ++ Ev.Spawn by c start ∷ [])) is ∙ first_new k 0 es by start (h.unstarted k (omega (arith, next, is))) ∙ count)
    go k false q =
        push_other t.firsts.items (length es + 1) k (λ i. (let is : child ≡ k = omega (arith, i, h.many_firsts, next) in let z : true ≡ false = sym (agreed child k is) ∙ q in cc))
        ∙ h.each_first k ∙ sym (first_kept k 0 es (Ev.Spawn by child start) (λ p. ap (λ (b : Bool). cond b (p + 1) 1) q))
      where
        push_other : (xs : List ℕ) (x k : ℕ) → (k ≡ length xs → ⊥) → get_or (xs ++ x ∷ []) k 1 ≡ get_or xs k 1
        push_other [] x zero n = absurd (n refl)
        push_other [] x (suc k) n = refl
        push_other (y ∷ xs) x zero n = refl
        push_other (y ∷ xs) x (suc k) n = push_other xs x k (λ i. n (ap suc i))
