-- The tasks that have not ended, after one more event.
use Rattle.std.proofs.Common.{◌≡◌, ◌∙◌, ap, sym, subst, refl, ℕ, zero, suc, ◌+◌, ◌-◌, ◌<◌, ◌≤◌, ◌⊎◌, inl, inr, arith, Bool, true, false, cond, nat_eq, List, [], ◌∷◌, ◌++◌, length, take, drop, slice_get, set, length-append, Option, Some, None}
use Rattle.jl_program.specs.declared.tree.Program.{Program}
use Rattle.jl_program.specs.declared.tree.Start.{Start}
use Rattle.jl_calculus.specs.declared.history.Event.{Event}
use Rattle.jl_calculus.specs.declared.history.Event.TheVariants as Ev
use Rattle.jl_calculus.specs.declared.history.Record.{Record}
use Rattle.jl_calculus.specs.declared.history.TraceItem.{TraceItem}
use Rattle.jl_calculus.specs.declared.history.TraceItem.TheVariants as I
use Rattle.jl_calculus.specs.Legal.{fuel_of}
use Rattle.jl_calculus.specs.Past.{IsInOrder, done_of, tasks_of}
use Rattle.jl_machine.specs.Steps.{fuel_of as fuel_in, trace_of}
use Rattle.jl_lead.specs.Carried.{AreOthers}
use Rattle.jl_lead.specs.Known.{IsSpawnOf}
use Rattle.jl_lead.proofs.Carrying.{machine_stays}
use Rattle.jl_lead.proofs.EventFacts.{self_eq, done_stays, done_later, tasks_append}
use Rattle.jl_calculus.proofs.GrowthLemmas.{get_same}
use Rattle.jl_report.specs.declared.entry.Entry.{Entry}
use Rattle.jl_report.specs.declared.entry.Step.{Step}
use Rattle.jl_report.specs.HistoryText.{step_of, steps_of}
use Rattle.jl_causes.specs.Sketch.{items_of}
use Rattle.jl_replay.specs.declared.running.Running.{Running}
use Rattle.jl_replay.specs.declared.runs.Stage.{Stage}
use Rattle.jl_replay.specs.declared.runs.Stage.TheVariants as T
use Rattle.jl_replay.specs.Told.{trace_told, end_told, stretch}
use Rattle.jl_replay.specs.Moves.{told_so_far, IsFitting, HasMoved}
use Rattle.jl_replay.specs.Following.{IsOnItsWay, IsToBegin, IsUnderWay, AreOnTheirWay}
use Rattle.jl_replay.proofs.Cuts.{cut_after, set_here, set_there, set_length, get_last}
use Rattle.jl_replay.proofs.Items.{steps_append, steps_told}
use Rattle.jl_replay.proofs.Lists.{fuel_stays, tasks_some}
use Rattle.jl_replay.proofs.Next.{IsNextStep}

-- ---- an event of another task

-- the event is of neither of these tasks
abbrev pub IsOf : ℕ → Event → Type 0
IsOf task (Ev.Def by site) = by ≡ task
IsOf task (Ev.Del by place) = by ≡ task
IsOf task (Ev.Spawn by child start) = (by ≡ task) ⊎ (child ≡ task)
IsOf task (Ev.Begin fuel) = ⊥
IsOf task (Ev.Key key) = ⊥
IsOf task (Ev.Fill key site first) = ⊥
IsOf task (Ev.Done by ended) = ⊥

pub not_same : (a b : ℕ) → (a ≡ b → ⊥) → nat_eq a b ≡ false
not_same a b o = grind (arith, o)

pub others : (task : ℕ) (e : Event) → (IsOf task e → ⊥) → AreOthers task (e ∷ [])
others task (Ev.Begin fuel) o = record { own = λ p. refl; starts = refl; start = refl; first = λ p. refl }
others task (Ev.Key key) o = record { own = λ p. refl; starts = refl; start = refl; first = λ p. refl }
others task (Ev.Fill key site first) o = record { own = λ p. refl; starts = refl; start = refl; first = λ p. refl }
others task (Ev.Done by ended) o = record { own = λ p. refl; starts = refl; start = refl; first = λ p. refl }
others task (Ev.Def by site) o =
    let q = not_same by task o in
    record { own = λ p. ap (λ b. cond b (I.Def site p ∷ []) []) q; starts = refl; start = refl; first = λ p. refl }
others task (Ev.Del by place) o =
    let q = not_same by task o in
    record { own = λ p. ap (λ b. cond b (I.Del place p ∷ []) []) q; starts = refl; start = refl; first = λ p. refl }
others task (Ev.Spawn by child start) o =
    let q = not_same by task (λ e. o (inl e)) in
    let c = not_same child task (λ e. o (inr e)) in
    record {
      own = λ p. ap (λ b. cond b (I.Spawn child p ∷ []) []) q;
      starts = ap (λ b. cond b (start ∷ []) []) q;
      start = ap (λ b. cond b (Some start) None) c;
      first = λ p. ap (λ b. cond b (p + 1) 1) c;
    }

-- a task that has not ended had not ended before
none_before : (task : ℕ) (es more : List Event) → done_of task (es ++ more) ≡ None → done_of task es ≡ None
none_before task es more n = go (done_of task es) refl
  where
    go : (o : Option Record) → done_of task es ≡ o → done_of task es ≡ None
    go None q = q
    go (Some r) q = absurd (cc (sym (done_stays task es more r q) ∙ n))

-- a start goes on to stand where it stands
spawn_stays : (es more : List Event) (place : ℕ) (start : Start) → IsSpawnOf start (slice_get es place) → IsSpawnOf start (slice_get (es ++ more) place)
spawn_stays [] more zero start h = absurd h
spawn_stays [] more (suc place) start h = absurd h
spawn_stays (e ∷ es) more zero start h = h
spawn_stays (e ∷ es) more (suc place) start h = spawn_stays es more place start h

-- a new task that has seen all events
pub record IsNewOn (P : Program) (es : List Event) (task fuel : ℕ) (r : Running) : Type 0 where
  pub fitting : IsFitting P es task r
  pub fuel_is : fuel_in r.machine ≡ fuel
  pub seen : r.seen ≡ length es
  pub told : r.told ≡ 0
  pub trace_is : trace_of r.machine ≡ []

module _ (P : Program) (all : List Entry) (es : List Event) where
  -- ---- a task that waits

  fitting_on : (e : Event) (task : ℕ) (r : Running) → AreOthers task (e ∷ []) → IsFitting P es task r → IsFitting P (es ++ e ∷ []) task r
  fitting_on e task r o h =
      record {
        fits = λ items told alone. machine_stays P (fuel_in r.machine) r.machine es (e ∷ []) task items items told told r.seen r.seen r.looks alone alone o (omega arith) (h.fits items told alone);
        going = h.going;
      }

  way_on : (e : Event) (task : ℕ) (r : Running) → AreOthers task (e ∷ []) → IsOnItsWay P all es task r → IsOnItsWay P all (es ++ e ∷ []) task r
  way_on e task r o h =
      record {
        fitting = fitting_on e task r o h.fitting;
        fuel = fuel_stays es (e ∷ []) (fuel_in r.machine) h.fuel;
        placed = record { started = more_tasks h.placed.started; seen_some = omega (arith, h.placed.seen_some, length-append es (e ∷ [])) };
        few = h.few;
        followed = h.followed;
        ordered = h.ordered;
      }
    where
      more_tasks : task < tasks_of es → task < tasks_of (es ++ e ∷ [])
      more_tasks l = omega (arith, l, tasks_append es (e ∷ []), tasks_some (e ∷ []))

  -- a task that has not begun
  begin_on : (e : Event) (task seen : ℕ) → AreOthers task (e ∷ []) → IsToBegin P all es task seen → IsToBegin P all (es ++ e ∷ []) task seen
  begin_on e task seen o h =
      record {
        start = h.start;
        fuel = h.fuel;
        seen_some = h.seen_some;
        spawned = spawn_stays es (e ∷ []) (seen - 1) h.start h.spawned;
        fuel_is = fuel_stays es (e ∷ []) h.fuel h.fuel_is;
        way = λ r new. way_on e task r o (h.way r new);
      }

  stage_on : (e : Event) (task : ℕ) (kept : Option Stage) → AreOthers task (e ∷ []) → IsUnderWay P all es task kept → IsUnderWay P all (es ++ e ∷ []) task kept
  stage_on e task None o h = h
  stage_on e task (Some (T.Spawned seen)) o h = begin_on e task seen o h
  stage_on e task (Some (T.Running r)) o h = way_on e task r o h
  stage_on e task (Some T.Ended) o h = h

  -- a task that has moved
  pub moved_on : (e : Event) (task : ℕ) (r r' : Running) (step : Step) (item : TraceItem) → IsOnItsWay P all es task r → IsNextStep P all es task r step → step_of item ≡ step
      → task < tasks_of (es ++ e ∷ []) → HasMoved P es (es ++ e ∷ []) task (trace_told task all) r r' item → IsOnItsWay P all (es ++ e ∷ []) task r'
  moved_on e task r r' step item h next is started m =
      let trace = trace_told task all in
      let cut = cut_after r.told trace (stretch (drop r.told trace)) step next.more h.few next.rest in
      record {
        fitting = m.fitting;
        fuel = subst (λ f. fuel_of (es ++ e ∷ []) ≡ Some f) (sym m.fuel) (fuel_stays es (e ∷ []) (fuel_in r.machine) h.fuel);
        placed = record { started = started; seen_some = omega (arith, m.seen) };
        few = subst (λ n. n ≤ length trace) (sym m.told) cut.2;
        followed =
            ap steps_of m.trace_is
            ∙ steps_append (told_so_far es trace r.told) (item ∷ [])
            ∙ ap (λ ss. ss ++ step_of item ∷ []) (steps_told es (take r.told trace ++ stretch (drop r.told trace)))
            ∙ ap (λ s. (take r.told trace ++ stretch (drop r.told trace)) ++ s ∷ []) is
            ∙ sym cut.0
            ∙ ap (λ n. take n trace) (sym m.told);
        ordered =
            subst (λ n. IsInOrder n (items_of (drop r'.told trace)) (end_told task 0 all)) (seen_is ∙ sym m.seen)
            (subst (λ ss. IsInOrder (length es + 1) (items_of ss) (end_told task 0 all)) (sym (ap (λ n. drop n trace) m.told ∙ cut.1)) next.after);
      }
    where
      seen_is : length es + 1 ≡ length (es ++ e ∷ [])
      seen_is = omega (arith, length-append es (e ∷ []))

  -- ---- all tasks

  module _ (tasks : List Stage) (h : AreOnTheirWay P all es tasks) where
    same_tasks : (e : Event) → tasks_of (e ∷ []) ≡ 1 → tasks_of (es ++ e ∷ []) ≡ tasks_of es
    same_tasks e one = omega (arith, tasks_append es (e ∷ []), one)

    -- an event that no task makes
    pub plain_on : (e : Event) → tasks_of (e ∷ []) ≡ 1 → ((task : ℕ) → IsOf task e → ⊥) → AreOnTheirWay P all (es ++ e ∷ []) tasks
    plain_on e one none =
        let same = same_tasks e one in
        record {
          many = h.many ∙ sym same;
          each = λ task l running.
              stage_on e task (slice_get tasks task) (others task e (none task)) (h.each task (subst (λ n. task < n) same l) (none_before task es (e ∷ []) running));
        }

    -- a definition or a deletion
    pub change_on : (e : Event) (task : ℕ) (r : Running) → tasks_of (e ∷ []) ≡ 1 → ((t : ℕ) → IsOf t e → task ≡ t) → task < tasks_of es → IsOnItsWay P all (es ++ e ∷ []) task r → AreOnTheirWay P all (es ++ e ∷ []) (set tasks task (T.Running r))
    change_on e task r one of started way =
        let same = same_tasks e one in
        record {
          many = set_length tasks task (T.Running r) ∙ h.many ∙ sym same;
          each = λ t l running. go t (subst (λ n. t < n) same l) running (nat_eq t task) refl;
        }
      where
        go : (t : ℕ) → t < tasks_of es → done_of t (es ++ e ∷ []) ≡ None → (b : Bool) → nat_eq t task ≡ b → IsUnderWay P all (es ++ e ∷ []) t (slice_get (set tasks task (T.Running r)) t)
        go t l running true q =
            let is : task ≡ t = grind (arith, q) in
            subst (λ (n : ℕ). IsUnderWay P all (es ++ e ∷ []) n (slice_get (set tasks task (T.Running r)) n)) is
            (subst (IsUnderWay P all (es ++ e ∷ []) task) (sym (set_here tasks task (T.Running r) (omega (arith, started, h.many)))) way)
        go t l running false q =
            let other : t ≡ task → ⊥ = grind (arith, q) in
            subst (IsUnderWay P all (es ++ e ∷ []) t) (sym (set_there tasks task t (T.Running r) other))
            (stage_on e t (slice_get tasks t) (others t e (λ k. other (sym (of t k)))) (h.each t l (none_before t es (e ∷ []) running)))

    -- the end of a task
    pub end_on : (task : ℕ) (ended : Record) → AreOnTheirWay P all (es ++ Ev.Done task ended ∷ []) (set tasks task T.Ended)
    end_on task ended =
        let e = Ev.Done task ended in
        let same = same_tasks e refl in
        record {
          many = set_length tasks task T.Ended ∙ h.many ∙ sym same;
          each = λ t l running. go t (subst (λ n. t < n) same l) running (nat_eq t task) refl;
        }
      where
        e : Event
        e = Ev.Done task ended

        go : (t : ℕ) → t < tasks_of es → done_of t (es ++ Ev.Done task ended ∷ []) ≡ None → (b : Bool) → nat_eq t task ≡ b → IsUnderWay P all (es ++ Ev.Done task ended ∷ []) t (slice_get (set tasks task T.Ended) t)
        go t l running true q =
            let is : task ≡ t = grind (arith, q) in
            let ends : done_of t (Ev.Done task ended ∷ []) ≡ Some ended = ap (λ b. cond b (Some ended) None) (ap (nat_eq task) (sym is) ∙ self_eq task) in
            absurd (cc (sym running ∙ done_later t es (Ev.Done task ended ∷ []) (none_before t es (Ev.Done task ended ∷ []) running) ∙ ends))
        go t l running false q =
            let other : t ≡ task → ⊥ = grind (arith, q) in
            subst (IsUnderWay P all (es ++ Ev.Done task ended ∷ []) t) (sym (set_there tasks task t T.Ended other))
            (stage_on (Ev.Done task ended) t (slice_get tasks t) (others t (Ev.Done task ended) (λ k. k)) (h.each t l (none_before t es (Ev.Done task ended ∷ []) running)))

    -- a spawn
    pub spawn_on : (task child : ℕ) (start : Start) (r : Running) (seen : ℕ) → task < tasks_of es → child ≡ tasks_of es → IsOnItsWay P all (es ++ Ev.Spawn task child start ∷ []) task r
        → IsToBegin P all (es ++ Ev.Spawn task child start ∷ []) child seen
        → AreOnTheirWay P all (es ++ Ev.Spawn task child start ∷ []) (set tasks task (T.Running r) ++ T.Spawned seen ∷ [])
    spawn_on task child start r seen started is way spawned =
        record {
          many = length-append (set tasks task (T.Running r)) (T.Spawned seen ∷ []) ∙ omega (arith, set_length tasks task (T.Running r), h.many, tasks_append es (Ev.Spawn task child start ∷ []));
          each = λ t l running. go t (omega (arith, l, tasks_append es (Ev.Spawn task child start ∷ []))) running (nat_eq t child) refl (nat_eq t task) refl;
        }
      where
        Due : ℕ → Type 0
        Due t = IsUnderWay P all (es ++ Ev.Spawn task child start ∷ []) t (slice_get (set tasks task (T.Running r) ++ T.Spawned seen ∷ []) t)

        at_front : (t : ℕ) → t < tasks_of es → slice_get (set tasks task (T.Running r) ++ T.Spawned seen ∷ []) t ≡ slice_get (set tasks task (T.Running r)) t
        at_front t l = get_same (set tasks task (T.Running r)) (T.Spawned seen ∷ []) t (omega (arith, l, set_length tasks task (T.Running r), h.many))

        at_end : slice_get (set tasks task (T.Running r) ++ T.Spawned seen ∷ []) child ≡ Some (T.Spawned seen)
        at_end =
            let here : length (set tasks task (T.Running r)) ≡ child = set_length tasks task (T.Running r) ∙ h.many ∙ sym is in
            subst (λ n. slice_get (set tasks task (T.Running r) ++ T.Spawned seen ∷ []) n ≡ Some (T.Spawned seen)) here (get_last (set tasks task (T.Running r)) (T.Spawned seen))

        go : (t : ℕ) → t ≤ tasks_of es → done_of t (es ++ Ev.Spawn task child start ∷ []) ≡ None → (b : Bool) → nat_eq t child ≡ b → (c : Bool) → nat_eq t task ≡ c → Due t
        go t l running true q c k =
            let same : child ≡ t = grind (arith, q) in
            subst Due same (subst (IsUnderWay P all (es ++ Ev.Spawn task child start ∷ []) child) (sym at_end) spawned)
        go t l running false q true k =
            let same : task ≡ t = grind (arith, k) in
            subst Due same (subst (IsUnderWay P all (es ++ Ev.Spawn task child start ∷ []) task) (sym (at_front task started ∙ set_here tasks task (T.Running r) (omega (arith, started, h.many)))) way)
        go t l running false q false k =
            let not_child : t ≡ child → ⊥ = grind (arith, q) in
            let not_task : t ≡ task → ⊥ = grind (arith, k) in
            let less : t < tasks_of es = omega (arith, l, is, not_child) in
            subst (IsUnderWay P all (es ++ Ev.Spawn task child start ∷ []) t) (sym (at_front t less ∙ set_there tasks task t (T.Running r) not_task))
            (stage_on (Ev.Spawn task child start) t (slice_get tasks t) (others t (Ev.Spawn task child start) (λ o. neither t not_child not_task o)) (h.each t less (none_before t es (Ev.Spawn task child start ∷ []) running)))
          where
            neither : (t : ℕ) → (t ≡ child → ⊥) → (t ≡ task → ⊥) → ((task ≡ t) ⊎ (child ≡ t)) → ⊥
            neither t a b (inl e) = b (sym e)
            neither t a b (inr e) = a (sym e)

  -- a task that has just begun
  pub new_on : (task fuel : ℕ) (r : Running) → fuel_of es ≡ Some fuel → task < tasks_of es → IsInOrder (length es) (items_of (trace_told task all)) (end_told task 0 all) → IsNewOn P es task fuel r
      → IsOnItsWay P all es task r
  new_on task fuel r q started ordered n =
      record {
        fitting = n.fitting;
        fuel = subst (λ f. fuel_of es ≡ Some f) (sym n.fuel_is) q;
        placed = record { started = started; seen_some = omega (arith, n.seen) };
        few = subst (λ k. k ≤ length (trace_told task all)) (sym n.told) (omega arith);
        followed = ap steps_of n.trace_is ∙ ap (λ k. take k (trace_told task all)) (sym n.told);
        ordered =
            subst (λ k. IsInOrder k (items_of (drop r.told (trace_told task all))) (end_told task 0 all)) (sym n.seen)
            (subst (λ k. IsInOrder (length es) (items_of (drop k (trace_told task all))) (end_told task 0 all)) (sym n.told) ordered);
      }
