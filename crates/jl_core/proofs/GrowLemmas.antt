-- What holds of a state holds with one more event.
use Rattle.std.proofs.Common.{◌≡◌, ◌∙◌, ap, sym, subst, refl, ℕ, zero, suc, ◌+◌, ◌<◌, ◌≤◌, ◌⊎◌, inl, inr, arith, max, Bool, true, false, cond, nat_eq, List, [], ◌∷◌, ◌++◌, length, length-append, slice_get, append-nil, Option, None, Some}
use Rattle.std.specs.List.{Contains}
use Rattle.std.proofs.lemmas.List.Elements.{Contains-append_cases}
use Rattle.jl_model.specs.declared.ty.Key.{Key}
use Rattle.jl_program.specs.declared.choice.Choice.TheVariants as C
use Rattle.jl_program.specs.declared.tree.Program.{Program}
use Rattle.jl_program.specs.declared.tree.Start.{Start}
use Rattle.jl_program.specs.Gathered.{times}
use Rattle.jl_calculus.specs.declared.history.Change.TheVariants as Ch
use Rattle.jl_calculus.specs.declared.history.Event.{Event}
use Rattle.jl_calculus.specs.declared.history.Event.TheVariants as Ev
use Rattle.jl_calculus.specs.declared.history.Record.{Record}
use Rattle.jl_calculus.specs.Core.{in_outcome, in_start, Stand, at_row, found, missed, Search, TaskState, Core, at_task, with_seen, with_known, with_event, with_child, change_task, child_of}
use Rattle.jl_calculus.specs.Legal.{IsKeyOf, MayCome, OnDone, HasTrueTrace, HasOwnEvents}
use Rattle.jl_calculus.specs.Orders.{children_of, wait_order}
use Rattle.jl_calculus.specs.Past.{tasks_of, done_of}
use Rattle.jl_calculus.specs.Ranges.{CacheRow, keys_of, rows_of, SelectsSite}
use Rattle.jl_calculus.specs.World.{world_of, changed}
use Rattle.jl_calculus.proofs.BetweenLemmas.{of_world, right_on}
use Rattle.jl_calculus.proofs.GrowthLemmas.{get_more, changed_append, keys_append, rows_append, world_more, selects_on, site_more}
use Rattle.jl_calculus.proofs.OrderLemmas.{path_only, wait_same}
use Rattle.jl_core.proofs.BeforeLemmas.{before, before_insert, before_new, new_before}
use Rattle.jl_core.proofs.EventLemmas.{each_more, within, get_last, still_begun, tasks_append, or_else, done_append, children_append}
use Rattle.jl_core.proofs.WaitLemmas.{Between, same_order, spawned_order, spawned_bounds}
use Rattle.jl_core.proofs.Sound.{IsKeptRow, IsBefore, IsKeptEnd, AreSoundEvents, StandsWell, MaySearch, IsSoundTask, AllTasks, IsSound, all_changed, count_changed}

-- ---- searches and rows, with any events after these

module _ (P : Program) (es more : List Event) where
  pub named_on : (number : ℕ) (key : Key) → slice_get (keys_of es) number ≡ Some key → slice_get (keys_of (es ++ more)) number ≡ Some key
  named_on number key e = ap (λ xs. slice_get xs number) (keys_append es more) ∙ get_more (keys_of es) (keys_of more) number key e

  pub site_on : (key : Key) (w site : ℕ) → w ≤ world_of es → SelectsSite P es key w site → SelectsSite P (es ++ more) key w site
  site_on key w site l (d, s, e) =
      let n = of_world P es key.function key.types w d s in
      (d, selects_on P es more key.function key.types w (C.Method d) l s, site_more P es more d (omega (arith, n.1, l)) ∙ e)

  pub row_on : (row : CacheRow) → IsKeptRow P es row → IsKeptRow P (es ++ more) row
  row_on row h = record { key = h.key; named = named_on row.key h.key h.named; right = right_on P es more h.key row.site row.first h.right }

  stands_on : (number : ℕ) (key : Key) (w : ℕ) (stand : Stand) → w ≤ world_of es → StandsWell P es number key w stand → StandsWell P (es ++ more) number key w stand
  stands_on number key w (at_row r) l (row, e, k) = (row, ap (λ (xs : List CacheRow). slice_get xs r) (rows_append es more) ∙ get_more (rows_of es) (rows_of more) r row e, k)
  stands_on number key w (found site) l h = site_on key w site l h
  stands_on number key w missed l h = tt

  search_on : (o : Option Search) → MaySearch P es o → MaySearch P (es ++ more) o
  search_on None h = tt
  search_on (Some search) h = record {
    key = h.key;
    named = named_on search.key h.key h.named;
    low = h.low;
    high = omega (arith, h.high, world_more es more);
    at = stands_on search.key h.key search.world search.stand h.high h.at;
  }

  pub task_on : ((y x : ℕ) → x < tasks_of es → IsBefore P es y x → IsBefore P (es ++ more) y x) → (task : ℕ) (t : TaskState) → task < tasks_of es → IsSoundTask P es task t → IsSoundTask P (es ++ more) task t
  task_on order task t l h = record {
    seen = omega (arith, h.seen, length-append es more);
    search = search_on t.search h.search;
    known = λ other c. order other task l (h.known other c);
  }

-- ---- one more event

-- the tasks that the outcome of a task's end mentions come before it
abbrev pub EndsWell : Program → List Event → Event → Type 0
EndsWell P es (Ev.Done task ended) = (other : ℕ) → Contains (in_outcome ended.outcome) other → IsBefore P es other task
EndsWell P es (Ev.Begin fuel) = Unit {0}
EndsWell P es (Ev.Key key) = Unit {0}
EndsWell P es (Ev.Fill key site first) = Unit {0}
EndsWell P es (Ev.Def task site) = Unit {0}
EndsWell P es (Ev.Del task place) = Unit {0}
EndsWell P es (Ev.Spawn task child start) = Unit {0}

-- an event that starts no task
abbrev pub StartsNone : List Event → Event → Type 0
StartsNone es e = ((task : ℕ) → children_of task (es ++ e ∷ []) ≡ children_of task es) × (tasks_of (es ++ e ∷ []) ≡ tasks_of es)

no_child : (es : List Event) (e : Event) → ((x : ℕ) → children_of x (e ∷ []) ≡ []) → tasks_of (e ∷ []) ≡ 1 → StartsNone es e
no_child es e c t = (
  λ x. children_append x es (e ∷ []) ∙ ap (λ ys. children_of x es ++ ys) (c x) ∙ append-nil (children_of x es),
  omega (arith, tasks_append es (e ∷ []), t),
)

module _ (P : Program) (es : List Event) (h : AreSoundEvents P es) where
  order_same : (e : Event) → StartsNone es e → (y x : ℕ) → IsBefore P es y x → IsBefore P (es ++ e ∷ []) y x
  order_same e n y x b = subst (λ order. before y x order ≡ true) (sym (same_order es e n.0 n.1)) b

  order_spawned : (task : ℕ) (start : Start) → task < tasks_of es → (y x : ℕ) → x < tasks_of es → IsBefore P es y x → IsBefore P (es ++ Ev.Spawn task (tasks_of es) start ∷ []) y x
  order_spawned task start l y x k b =
      let apart : nat_eq (tasks_of es) x ≡ false = grind arith in
      subst (λ order. before y x order ≡ true) (sym (spawned_order es task start h.bounds l)) (before_insert task (tasks_of es) y x apart (wait_order es) b)

  -- the new task comes before its parent, and after what the parent knows
  pub child_before : (task : ℕ) (start : Start) → task < tasks_of es → IsBefore P (es ++ Ev.Spawn task (tasks_of es) start ∷ []) (tasks_of es) task
  child_before task start l =
      let apart : nat_eq (tasks_of es) task ≡ false = grind arith in
      subst (λ order. before (tasks_of es) task order ≡ true) (sym (spawned_order es task start h.bounds l)) (new_before task (tasks_of es) apart (wait_order es))

  pub known_before : (task : ℕ) (start : Start) → task < tasks_of es → (y : ℕ) → IsBefore P es y task → IsBefore P (es ++ Ev.Spawn task (tasks_of es) start ∷ []) y (tasks_of es)
  known_before task start l y b =
      let none : times (tasks_of es) (wait_order es) ≡ 0 = wait_same P es h.stand (tasks_of es) ∙ path_only P es h.stand (tasks_of es) (omega arith) in
      subst (λ order. before y (tasks_of es) order ≡ true) (sym (spawned_order es task start h.bounds l)) (before_new task (tasks_of es) y (wait_order es) none b)

  -- what a list of events has of the tasks, with one event more
  record Goes (e : Event) : Type 0 where
    order : (y x : ℕ) → x < tasks_of es → IsBefore P es y x → IsBefore P (es ++ e ∷ []) y x
    bounds : (task : ℕ) → Between task (tasks_of (es ++ e ∷ [])) (children_of task (es ++ e ∷ []))
    more : tasks_of es ≤ tasks_of (es ++ e ∷ [])
    few : tasks_of (es ++ e ∷ []) ≤ 4096

  goes_alone : (e : Event) → StartsNone es e → Goes e
  goes_alone e n = record {
    order = λ y x l b. order_same e n y x b;
    bounds = λ task. subst (λ k. Between task k (children_of task (es ++ e ∷ []))) (sym n.1) (subst (Between task (tasks_of es)) (sym (n.0 task)) (h.bounds task));
    more = omega (arith, n.1);
    few = omega (arith, n.1, h.few_tasks);
  }

  goes : (e : Event) → MayCome P es e → Goes e
  goes (Ev.Begin fuel) m = goes_alone (Ev.Begin fuel) (no_child es (Ev.Begin fuel) (λ x. refl) refl)
  goes (Ev.Key key) m = goes_alone (Ev.Key key) (no_child es (Ev.Key key) (λ x. refl) refl)
  goes (Ev.Fill key site first) m = goes_alone (Ev.Fill key site first) (no_child es (Ev.Fill key site first) (λ x. refl) refl)
  goes (Ev.Def task site) m = goes_alone (Ev.Def task site) (no_child es (Ev.Def task site) (λ x. refl) refl)
  goes (Ev.Del task place) m = goes_alone (Ev.Del task place) (no_child es (Ev.Del task place) (λ x. refl) refl)
  goes (Ev.Done task ended) m = goes_alone (Ev.Done task ended) (no_child es (Ev.Done task ended) (λ x. refl) refl)
  goes (Ev.Spawn task child start) m =
      subst (λ n. Goes (Ev.Spawn task n start)) (sym m.next) (record {
        order = λ y x l b. order_spawned task start m.running.started y x l b;
        bounds = λ x. spawned_bounds es task start h.bounds m.running.started x;
        more = omega (arith, tasks_append es (Ev.Spawn task (tasks_of es) start ∷ []));
        few = omega (arith, tasks_append es (Ev.Spawn task (tasks_of es) start ∷ []), m.room);
      })

  pub order_on : (e : Event) → MayCome P es e → (y x : ℕ) → x < tasks_of es → IsBefore P es y x → IsBefore P (es ++ e ∷ []) y x
  order_on e m = (goes e m).order

  -- ---- rows

  last_row : (e : Event) → MayCome P es e → (row : CacheRow) → Contains (rows_of (e ∷ [])) row → IsKeptRow P es row
  last_row (Ev.Fill number site first) m row (zero, l, q) =
      subst (λ (r : CacheRow). IsKeptRow P es r) q (record { key = m.key; named = m.named; right = m.right })
  last_row (Ev.Fill number site first) m row (suc k, l, q) = absurd (omega (arith, l))
  last_row (Ev.Begin fuel) m row (k, l, q) = absurd (omega (arith, l))
  last_row (Ev.Key key) m row (k, l, q) = absurd (omega (arith, l))
  last_row (Ev.Def task site) m row (k, l, q) = absurd (omega (arith, l))
  last_row (Ev.Del task place) m row (k, l, q) = absurd (omega (arith, l))
  last_row (Ev.Spawn task child start) m row (k, l, q) = absurd (omega (arith, l))
  last_row (Ev.Done task ended) m row (k, l, q) = absurd (omega (arith, l))

  rows_on : (e : Event) → MayCome P es e → (row : CacheRow) → Contains (rows_of (es ++ e ∷ [])) row → IsKeptRow P (es ++ e ∷ []) row
  rows_on e m row c = row_on P es (e ∷ []) row (by (Contains-append_cases (rows_of es) (rows_of (e ∷ [])) row (subst (λ (xs : List CacheRow). Contains xs row) (rows_append es (e ∷ [])) c)))
    where
      by : Contains (rows_of es) row ⊎ Contains (rows_of (e ∷ [])) row → IsKeptRow P es row
      by (inl k) = h.rows row k
      by (inr k) = last_row e m row k

  -- ---- ends

  same_record : (r s : Record) → Some r ≡ Some s → r ≡ s
  same_record r s q = cc

  last_end : (e : Event) → MayCome P es e → EndsWell P es e → (task : ℕ) (ended : Record) → done_of task (e ∷ []) ≡ Some ended → IsKeptEnd P es task ended
  last_end (Ev.Done of r) m w task ended q = by (nat_eq of task) refl q
    where
      by : (b : Bool) → nat_eq of task ≡ b → cond b (Some r) None ≡ Some ended → IsKeptEnd P es task ended
      by true e k =
          let same : of ≡ task = grind (arith, e) in
          subst (λ n. IsKeptEnd P es n ended) same (subst (IsKeptEnd P es of) (same_record r ended k) (record { started = m.started; known = w }))
      by false e k = cc
  last_end (Ev.Begin fuel) m w task ended q = cc
  last_end (Ev.Key key) m w task ended q = cc
  last_end (Ev.Fill key site first) m w task ended q = cc
  last_end (Ev.Def by site) m w task ended q = cc
  last_end (Ev.Del by place) m w task ended q = cc
  last_end (Ev.Spawn by child start) m w task ended q = cc

  ends_on : (e : Event) → MayCome P es e → EndsWell P es e → (task : ℕ) (ended : Record) → done_of task (es ++ e ∷ []) ≡ Some ended → IsKeptEnd P (es ++ e ∷ []) task ended
  ends_on e m w task ended q = grown (by (done_of task es) refl (sym (done_append task es (e ∷ [])) ∙ q))
    where
      by : (o : Option Record) → done_of task es ≡ o → or_else o (done_of task (e ∷ [])) ≡ Some ended → IsKeptEnd P es task ended
      by None d k = last_end e m w task ended k
      by (Some r) d k = h.ends task ended (d ∙ k)

      grown : IsKeptEnd P es task ended → IsKeptEnd P (es ++ e ∷ []) task ended
      grown k = record { started = omega (arith, k.started, (goes e m).more); known = λ other c. (goes e m).order other task k.started (k.known other c) }

  -- ---- all

  few_on : (e : Event) → MayCome P es e → world_of (es ++ e ∷ []) ≤ 65535
  few_on (Ev.Def task site) m = omega (arith, ap length (changed_append es (Ev.Def task site ∷ [])), length-append (changed es) (Ch.Def site ∷ []), m.room)
  few_on (Ev.Del task place) m = omega (arith, ap length (changed_append es (Ev.Del task place ∷ [])), length-append (changed es) (Ch.Del place ∷ []), m.room)
  few_on (Ev.Begin fuel) m = omega (arith, ap length (changed_append es (Ev.Begin fuel ∷ [])), length-append (changed es) [], h.few_worlds)
  few_on (Ev.Key key) m = omega (arith, ap length (changed_append es (Ev.Key key ∷ [])), length-append (changed es) [], h.few_worlds)
  few_on (Ev.Fill key site first) m = omega (arith, ap length (changed_append es (Ev.Fill key site first ∷ [])), length-append (changed es) [], h.few_worlds)
  few_on (Ev.Spawn task child start) m = omega (arith, ap length (changed_append es (Ev.Spawn task child start ∷ [])), length-append (changed es) [], h.few_worlds)
  few_on (Ev.Done task ended) m = omega (arith, ap length (changed_append es (Ev.Done task ended ∷ [])), length-append (changed es) [], h.few_worlds)

  few_rows_on : (e : Event) → MayCome P es e → length (rows_of (es ++ e ∷ [])) ≤ 16384
  few_rows_on (Ev.Fill number site first) m = omega (arith, ap length (rows_append es (Ev.Fill number site first ∷ [])), length-append (rows_of es) (rows_of (Ev.Fill number site first ∷ [])), m.room)
  few_rows_on (Ev.Begin fuel) m = omega (arith, ap length (rows_append es (Ev.Begin fuel ∷ [])), length-append (rows_of es) [], h.few_rows)
  few_rows_on (Ev.Key key) m = omega (arith, ap length (rows_append es (Ev.Key key ∷ [])), length-append (rows_of es) [], h.few_rows)
  few_rows_on (Ev.Def task site) m = omega (arith, ap length (rows_append es (Ev.Def task site ∷ [])), length-append (rows_of es) [], h.few_rows)
  few_rows_on (Ev.Del task place) m = omega (arith, ap length (rows_append es (Ev.Del task place ∷ [])), length-append (rows_of es) [], h.few_rows)
  few_rows_on (Ev.Spawn task child start) m = omega (arith, ap length (rows_append es (Ev.Spawn task child start ∷ [])), length-append (rows_of es) [], h.few_rows)
  few_rows_on (Ev.Done task ended) m = omega (arith, ap length (rows_append es (Ev.Done task ended ∷ [])), length-append (rows_of es) [], h.few_rows)

  last_key : (e : Event) → MayCome P es e → (key : Key) → Contains (keys_of (e ∷ [])) key → IsKeyOf P key
  last_key (Ev.Key named) m key (zero, l, q) = subst (IsKeyOf P) q m.proper
  last_key (Ev.Key named) m key (suc k, l, q) = absurd (omega (arith, l))
  last_key (Ev.Begin fuel) m key (k, l, q) = absurd (omega (arith, l))
  last_key (Ev.Fill number site first) m key (k, l, q) = absurd (omega (arith, l))
  last_key (Ev.Def task site) m key (k, l, q) = absurd (omega (arith, l))
  last_key (Ev.Del task place) m key (k, l, q) = absurd (omega (arith, l))
  last_key (Ev.Spawn task child start) m key (k, l, q) = absurd (omega (arith, l))
  last_key (Ev.Done task ended) m key (k, l, q) = absurd (omega (arith, l))

  proper_on : (e : Event) → MayCome P es e → (key : Key) → Contains (keys_of (es ++ e ∷ [])) key → IsKeyOf P key
  proper_on e m key c = by (Contains-append_cases (keys_of es) (keys_of (e ∷ [])) key (subst (λ (xs : List Key). Contains xs key) (keys_append es (e ∷ [])) c))
    where
      by : Contains (keys_of es) key ⊎ Contains (keys_of (e ∷ [])) key → IsKeyOf P key
      by (inl k) = h.proper key k
      by (inr k) = last_key e m key k

  pub events_on : (e : Event) → MayCome P es e → OnDone (HasTrueTrace P es) e → OnDone (HasOwnEvents es) e → EndsWell P es e → AreSoundEvents P (es ++ e ∷ [])
  events_on e m t o w = record {
    stand = record { begun = still_begun es (e ∷ []) h.stand.begun; come = each_more (MayCome P) [] es e h.stand.come m };
    traced = record {
      traces = each_more (λ past. OnDone (HasTrueTrace P past)) [] es e h.traced.traces t;
      own = each_more (λ past. OnDone (HasOwnEvents past)) [] es e h.traced.own o;
    };
    rows = rows_on e m;
    bounds = (goes e m).bounds;
    ends = ends_on e m w;
    few_worlds = few_on e m;
    few_tasks = (goes e m).few;
    few_rows = few_rows_on e m;
    proper = proper_on e m;
  }

-- ---- states

module _ (P : Program) (s : Core) (h : IsSound P s) where
  pub below_count : (task : ℕ) (t : TaskState) → slice_get s.tasks task ≡ Some t → task < tasks_of s.events
  below_count task t e = omega (arith, within s.tasks task t e, h.count)

  -- a task changes, and nothing else
  pub task_changed : (task : ℕ) (f : TaskState → TaskState)
      → ((t : TaskState) → slice_get s.tasks task ≡ Some t → IsSoundTask P s.events task t → IsSoundTask P s.events task (f t)) → IsSound P (change_task s task f)
  task_changed task f k = record {
    events = h.events;
    count = count_changed f task s.tasks ∙ h.count;
    tasks = all_changed (IsSoundTask P s.events) f task s.tasks h.tasks k;
    opened = h.opened;
  }

  -- all tasks after an event, which its own has seen
  pub tasks_on : (task : ℕ) (e : Event) → MayCome P s.events e
      → AllTasks (IsSoundTask P (s.events ++ e ∷ [])) (at_task (with_seen (length s.events + 1)) task s.tasks)
  tasks_on task e m =
      all_changed (IsSoundTask P (s.events ++ e ∷ [])) (with_seen (length s.events + 1)) task s.tasks
      (λ n t q. task_on P s.events (e ∷ []) (order_on P s.events h.events e m) n t (below_count n t q) (h.tasks n t q))
      (λ t q k. record { seen = seen_on t k.seen; search = k.search; known = k.known })
    where
      seen_on : (t : TaskState) → t.seen ≤ length (s.events ++ e ∷ []) → max t.seen (length s.events + 1) ≤ length (s.events ++ e ∷ [])
      seen_on t l = omega (arith, l, length-append s.events (e ∷ []))

  -- an event that starts no task
  pub event_added : (task : ℕ) (e : Event) → MayCome P s.events e → OnDone (HasTrueTrace P s.events) e → OnDone (HasOwnEvents s.events) e → EndsWell P s.events e
      → tasks_of (s.events ++ e ∷ []) ≡ tasks_of s.events → IsSound P (with_event s task e)
  event_added task e m t o w n = record {
    events = events_on P s.events h.events e m t o w;
    count = count_changed (with_seen (length s.events + 1)) task s.tasks ∙ h.count ∙ sym n;
    tasks = tasks_on task e m;
    opened = tt;
  }

-- ---- a spawn

module _ (P : Program) (s : Core) (h : IsSound P s) (task : ℕ) (start : Start) (m : MayCome P s.events (Ev.Spawn task (tasks_of s.events) start)) where
  abbrev spawned : List Event
  spawned = s.events ++ Ev.Spawn task (tasks_of s.events) start ∷ []

  abbrev tasks_then : List TaskState
  tasks_then = at_task (with_known (tasks_of s.events ∷ [])) task (at_task (with_seen (length s.events + 1)) task s.tasks)

  known_more : (t : TaskState) → IsSoundTask P spawned task t → (other : ℕ) → Contains t.known other ⊎ Contains (tasks_of s.events ∷ []) other → IsBefore P spawned other task
  known_more t q other (inl c) = q.known other c
  known_more t q other (inr (zero, l, e)) = subst (λ n. IsBefore P spawned n task) e (child_before P s.events h.events task start m.running.started)
  known_more t q other (inr (suc i, l, e)) = absurd (omega (arith, l))

  others : AllTasks (IsSoundTask P spawned) tasks_then
  others =
      all_changed (IsSoundTask P spawned) (with_known (tasks_of s.events ∷ [])) task (at_task (with_seen (length s.events + 1)) task s.tasks)
      (tasks_on P s h task (Ev.Spawn task (tasks_of s.events) start) m)
      (λ t e q. record { seen = q.seen; search = q.search; known = λ other c. known_more t q other (Contains-append_cases t.known (tasks_of s.events ∷ []) other c) })

  child : ((other : ℕ) → Contains (in_start start) other → IsBefore P s.events other task) → IsSoundTask P spawned (tasks_of s.events) (child_of s start)
  child k = record {
    seen = omega (arith, length-append s.events (Ev.Spawn task (tasks_of s.events) start ∷ []));
    search = tt;
    known = λ other c. known_before P s.events h.events task start m.running.started other (k other c);
  }

  long : length tasks_then ≡ tasks_of s.events
  long =
      count_changed (with_known (tasks_of s.events ∷ [])) task (at_task (with_seen (length s.events + 1)) task s.tasks)
      ∙ count_changed (with_seen (length s.events + 1)) task s.tasks
      ∙ h.count

  with_new : IsSoundTask P spawned (tasks_of s.events) (child_of s start) → (n : ℕ) (t : TaskState) → (slice_get tasks_then n ≡ Some t) ⊎ ((n ≡ length tasks_then) × (child_of s start ≡ t))
      → IsSoundTask P spawned n t
  with_new k n t (inl q) = others n t q
  with_new k n t (inr (q, e)) = subst (λ (x : ℕ). IsSoundTask P spawned x t) (sym (q ∙ long)) (subst (IsSoundTask P spawned (tasks_of s.events)) e k)

  pub child_added : ((other : ℕ) → Contains (in_start start) other → IsBefore P s.events other task)
      → IsSound P (with_child (change_task (with_event s task (Ev.Spawn task (tasks_of s.events) start)) task (with_known (tasks_of s.events ∷ []))) (child_of s start))
  child_added k = record {
    events = events_on P s.events h.events (Ev.Spawn task (tasks_of s.events) start) m tt tt tt;
    count = omega (arith, length-append tasks_then (child_of s start ∷ []), long, tasks_append s.events (Ev.Spawn task (tasks_of s.events) start ∷ []));
    tasks = λ n t q. with_new (child k) n t (get_last tasks_then (child_of s start) n t q);
    opened = tt;
  }
