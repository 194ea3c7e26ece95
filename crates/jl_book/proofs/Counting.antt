-- How many tasks have no Done.
use Rattle.std.proofs.Common.{◌≡◌, ◌∙◌, ap, sym, subst, refl, ℕ, zero, suc, ◌+◌, ◌<◌, ◌≤◌, arith, Bool, true, false, cond, nat_eq, List, [], ◌∷◌, ◌++◌, Option, Some, None, IsSome}
use Rattle.jl_program.specs.declared.tree.Program.{Program}
use Rattle.jl_program.specs.declared.tree.Start.{Start}
use Rattle.jl_calculus.specs.declared.history.Event.{Event}
use Rattle.jl_calculus.specs.declared.history.Event.TheVariants as Ev
use Rattle.jl_calculus.specs.declared.history.Record.{Record}
use Rattle.jl_calculus.specs.Legal.{IsRunning, MayCome, MayStand}
use Rattle.jl_calculus.specs.Past.{tasks_of, done_of}
use Rattle.jl_world.proofs.Growth.{tasks_append, done_append, each_grow, differ, agree, agreed, unstarted}
use Rattle.jl_book.specs.Tasks.{one_open, open_below, unfinished_of}

below : (t n : ℕ) → t < suc n → nat_eq t n ≡ false → t < n
below t n l d = grind (arith, l, d)

-- a task without a Done is counted
pub open_counts : (n t : ℕ) (es : List Event) → t < n → done_of t es ≡ None → 0 < open_below es n
open_counts zero t es l h = absurd (omega (arith, l))
open_counts (suc n) t es l h = by (nat_eq t n) refl (λ m. open_counts n t es m h)
  where
    by : (b : Bool) → nat_eq t n ≡ b → (t < n → 0 < open_below es n) → 0 < open_below es (suc n)
    by true q f =
        let here : one_open (done_of n es) ≡ 1 = ap one_open (subst (λ (k : ℕ). done_of k es ≡ None) (agree t n q) h) in
        omega (arith, here)
    by false q f = omega (arith, f (below t n l q))

pub running_counts : (es : List Event) (t : ℕ) → IsRunning es t → 0 < unfinished_of es
running_counts es t r = open_counts (tasks_of es) t es r.started r.going

some_or_none : (o : Option Record) → one_open o ≡ 0 → IsSome o
some_or_none None h = absurd (omega (arith, h))
some_or_none (Some r) h = refl

-- where none is counted each has a Done
pub none_counts : (n t : ℕ) (es : List Event) → t < n → open_below es n ≡ 0 → IsSome (done_of t es)
none_counts zero t es l h = absurd (omega (arith, l))
none_counts (suc n) t es l h = by (nat_eq t n) refl (λ m. none_counts n t es m (omega (arith, h)))
  where
    by : (b : Bool) → nat_eq t n ≡ b → (t < n → IsSome (done_of t es)) → IsSome (done_of t es)
    by true q f =
        let here : one_open (done_of n es) ≡ 0 = omega (arith, h) in
        subst (λ (k : ℕ). IsSome (done_of k es)) (sym (agree t n q)) (some_or_none (done_of n es) here)
    by false q f = f (below t n l q)

-- it is no more than the tasks
pub open_low : (n : ℕ) (es : List Event) → open_below es n ≤ n
open_low zero es = omega arith
open_low (suc n) es = omega (arith, one (done_of n es), open_low n es)
  where
    one : (o : Option Record) → one_open o ≤ 1
    one None = omega arith
    one (Some r) = omega arith

-- lists that tell the same of each task below a number
same_open : (n : ℕ) (es fs : List Event) → ((t : ℕ) → t < n → done_of t es ≡ done_of t fs) → open_below es n ≡ open_below fs n
same_open zero es fs h = refl
same_open (suc n) es fs h =
    let one : one_open (done_of n es) ≡ one_open (done_of n fs) = ap one_open (h n (omega arith)) in
    let below = same_open n es fs (λ t l. h t (omega (arith, l))) in
    omega (arith, one, below)

-- an event that is no Done leaves the Dones as they are
pub done_kept : (t : ℕ) (es : List Event) (e : Event) → done_of t (e ∷ []) ≡ None → done_of t (es ++ e ∷ []) ≡ done_of t es
done_kept t [] e h = h
done_kept t (Ev.Spawn parent child start ∷ es) e h = done_kept t es e h
done_kept t (Ev.Begin fuel ∷ es) e h = done_kept t es e h
done_kept t (Ev.Key key ∷ es) e h = done_kept t es e h
done_kept t (Ev.Fill key site first ∷ es) e h = done_kept t es e h
done_kept t (Ev.Def by site ∷ es) e h = done_kept t es e h
done_kept t (Ev.Del by place ∷ es) e h = done_kept t es e h
done_kept t (Ev.Done by ended ∷ es) e h = ap (λ o. cond (nat_eq by t) (Some ended) o) (done_kept t es e h)

-- an event that starts and ends no task
pub count_kept : (es : List Event) (e : Event) → ((t : ℕ) → done_of t (e ∷ []) ≡ None) → tasks_of (e ∷ []) ≡ 1 → unfinished_of (es ++ e ∷ []) ≡ unfinished_of es
count_kept es e h one =
    let same : tasks_of (es ++ e ∷ []) ≡ tasks_of es = omega (arith, tasks_append es (e ∷ []), one) in
    ap (open_below (es ++ e ∷ [])) same ∙ same_open (tasks_of es) (es ++ e ∷ []) es (λ t l. done_kept t es e (h t))

-- a task more
pub count_spawned : (P : Program) (es : List Event) (task child : ℕ) (start : Start) → MayStand P es → unfinished_of (es ++ Ev.Spawn task child start ∷ []) ≡ unfinished_of es + 1
count_spawned P es task child start stand =
    let e : Event = Ev.Spawn task child start in
    let more : tasks_of (es ++ e ∷ []) ≡ suc (tasks_of es) = omega (arith, tasks_append es (e ∷ [])) in
    let new : one_open (done_of (tasks_of es) (es ++ e ∷ [])) ≡ 1 = ap one_open (done_kept (tasks_of es) es e refl ∙ (unstarted P es stand (tasks_of es) (omega arith)).going) in
    let old : open_below (es ++ e ∷ []) (tasks_of es) ≡ open_below es (tasks_of es) = same_open (tasks_of es) (es ++ e ∷ []) es (λ t l. done_kept t es e refl) in
    let all : unfinished_of (es ++ e ∷ []) ≡ open_below (es ++ e ∷ []) (suc (tasks_of es)) = ap (open_below (es ++ e ∷ [])) more in
    omega (arith, all, new, old)

-- the Done of another task
pub done_other : (t u : ℕ) (es : List Event) (r : Record) → (t ≡ u → ⊥) → done_of u (es ++ Ev.Done t r ∷ []) ≡ done_of u es
done_other t u es r d = done_kept u es (Ev.Done t r) (ap (λ b. cond b (Some r) None) (differ t u d))

-- the Done of a running task
pub done_now : (t : ℕ) (es : List Event) (r : Record) → done_of t es ≡ None → done_of t (es ++ Ev.Done t r ∷ []) ≡ Some r
done_now t es r h = done_append t es (Ev.Done t r ∷ []) h ∙ ap (λ b. cond b (Some r) None) (agreed t t refl)

-- leaves one less
one_less : (n t : ℕ) (es : List Event) (r : Record) → t < n → done_of t es ≡ None → open_below (es ++ Ev.Done t r ∷ []) n + 1 ≡ open_below es n
one_less zero t es r l h = absurd (omega (arith, l))
one_less (suc n) t es r l h = by (nat_eq t n) refl (λ m. one_less n t es r m h)
  where
    apart : (t n : ℕ) → nat_eq t n ≡ false → t ≡ n → ⊥
    apart t n q e = absurd (cc (q, agreed t n e))

    by : (b : Bool) → nat_eq t n ≡ b → (t < n → open_below (es ++ Ev.Done t r ∷ []) n + 1 ≡ open_below es n) → open_below (es ++ Ev.Done t r ∷ []) (suc n) + 1 ≡ open_below es (suc n)
    by true q f =
        let e = agree t n q in
        let gone : one_open (done_of n (es ++ Ev.Done t r ∷ [])) ≡ 0 = ap one_open (subst (λ (k : ℕ). done_of k (es ++ Ev.Done t r ∷ []) ≡ Some r) e (done_now t es r h)) in
        let there : one_open (done_of n es) ≡ 1 = ap one_open (subst (λ (k : ℕ). done_of k es ≡ None) e h) in
        let others = same_open n (es ++ Ev.Done t r ∷ []) es (λ u lu. done_other t u es r (λ s. absurd (omega (arith, lu, s, e)))) in
        omega (arith, gone, there, others)
    by false q f =
        let same : one_open (done_of n (es ++ Ev.Done t r ∷ [])) ≡ one_open (done_of n es) = ap one_open (done_other t n es r (apart t n q)) in
        omega (arith, same, f (below t n l q))

pub count_ended : (es : List Event) (t : ℕ) (r : Record) → IsRunning es t → unfinished_of (es ++ Ev.Done t r ∷ []) + 1 ≡ unfinished_of es
count_ended es t r run =
    let same : tasks_of (es ++ Ev.Done t r ∷ []) ≡ tasks_of es = omega (arith, tasks_append es (Ev.Done t r ∷ [])) in
    ap (λ n. open_below (es ++ Ev.Done t r ∷ []) n + 1) same ∙ one_less (tasks_of es) t es r run.started run.going

-- ---- how many tasks there are

abbrev FewTasks : List Event → Type 0
FewTasks es = tasks_of es ≤ 4096

one_more : (P : Program) (past : List Event) (e : Event) → FewTasks past → MayCome P past e → FewTasks (past ++ e ∷ [])
one_more P past (Ev.Begin fuel) h m = omega (arith, h, tasks_append past (Ev.Begin fuel ∷ []))
one_more P past (Ev.Key key) h m = omega (arith, h, tasks_append past (Ev.Key key ∷ []))
one_more P past (Ev.Fill n s f) h m = omega (arith, h, tasks_append past (Ev.Fill n s f ∷ []))
one_more P past (Ev.Def t s) h m = omega (arith, h, tasks_append past (Ev.Def t s ∷ []))
one_more P past (Ev.Del t place) h m = omega (arith, h, tasks_append past (Ev.Del t place ∷ []))
one_more P past (Ev.Spawn t c s) h m = omega (arith, m.room, tasks_append past (Ev.Spawn t c s ∷ []))
one_more P past (Ev.Done t r) h m = omega (arith, h, tasks_append past (Ev.Done t r ∷ []))

pub few_tasks : (P : Program) (es : List Event) → MayStand P es → tasks_of es ≤ 4096
few_tasks P es h = each_grow P FewTasks (one_more P) [] es (omega arith) h.come

pub few_open : (P : Program) (es : List Event) → MayStand P es → unfinished_of es ≤ 4096
few_open P es h = omega (arith, few_tasks P es h, open_low (tasks_of es) es)
