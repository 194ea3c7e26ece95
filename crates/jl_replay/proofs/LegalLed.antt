-- What a legal history tells at a place: the run of the task that makes the event there comes to it, led by the items that its trace has
-- before the place.
use Rattle.std.proofs.Common.{◌≡◌, ◌∙◌, ap, sym, subst, refl, ℕ, ◌+◌, arith, cond, List, [], ◌∷◌, ◌++◌, length, append_assoc, slice_get, Option, Some, None, IsSome}
use Rattle.jl_program.specs.declared.tree.Program.{Program}
use Rattle.jl_program.specs.declared.tree.Start.{Start}
use Rattle.jl_calculus.specs.declared.history.Event.{Event}
use Rattle.jl_calculus.specs.declared.history.Event.TheVariants as Ev
use Rattle.jl_calculus.specs.declared.history.Record.{Record}
use Rattle.jl_calculus.specs.declared.history.TraceItem.{TraceItem}
use Rattle.jl_calculus.specs.declared.history.TraceItem.TheVariants as I
use Rattle.jl_calculus.specs.Led.{spawn_asked, asked_by, spawn_count, items_before}
use Rattle.jl_calculus.specs.Legal.{fuel_of, start_of, first_place, IsRunning, MayCome, AreTrueOf, HasTrueTrace, HasOwnEvents, HasRun, OnDone, EachAfter, IsLegal}
use Rattle.jl_calculus.specs.Past.{done_of, IsInOrder, place, own_items, own_events, own_starts}
use Rattle.jl_calculus.specs.Run.{Question, a_definition, a_deletion, a_spawn, setting_of, Run, Comes}
use Rattle.jl_calculus.proofs.RunComes.{run_comes}
use Rattle.jl_lead.specs.Leads.{GoesOn}
use Rattle.jl_lead.proofs.EventFacts.{self_eq, tasks_append, done_later, start_before, own_later, starts_append}
use Rattle.jl_report.specs.declared.entry.Entry.{Entry}
use Rattle.jl_report.specs.HistoryText.{entries_of}
use Rattle.jl_replay.specs.Told.{trace_told, steps_before, items_told}
use Rattle.jl_replay.specs.Differs.{IsMadeByRun}
use Rattle.jl_replay.proofs.Items.{items_true, all_cut, order_before, true_before, IsSplit, split, def_stops, del_stops, spawn_stops, steps_before_are, own_places, spawns_own, starts_counted}
use Rattle.jl_replay.proofs.Lists.{get_at, each_front, each_rest, each_in, fuel_stays, not_again, tasks_some, EndsIn, ends_in, trace_is}

some_record : (o : Option Record) → IsSome o → (r : Record) × (o ≡ Some r)
some_record (Some r) h = (r, refl)
some_record None h = absurd (cc h)

-- the events up to the end of a task
parted : (es more mid tail : List Event) (e d : Event) → more ≡ mid ++ d ∷ tail → es ++ e ∷ more ≡ (es ++ e ∷ mid) ++ d ∷ tail
parted es more mid tail e d q = ap (λ zs. es ++ e ∷ zs) q ∙ sym (append_assoc es (e ∷ mid) (d ∷ tail))

-- over some events that go on from these, the run of a task comes to this question, led by what it is told to do before their end
abbrev pub IsLedSo : Program → List Entry → List Event → ℕ → Question → Type 0
IsLedSo P all es task question =
    (ys : List Event) × GoesOn es ys
    × ((fuel : ℕ) → fuel_of es ≡ Some fuel → Comes P ys None fuel (start_of task es) (items_told es (steps_before (length es) (trace_told task all))) question)

module _ (P : Program) (all : List Entry) (es more : List Event) (e : Event) (legal : IsLegal P (es ++ e ∷ more)) (told : entries_of P (es ++ e ∷ more) ≡ all) where
  pub may_come : MayCome P es e
  may_come = each_in (MayCome P) es more e legal.so_far.stand.come

  -- the task goes on with an event that is an item of its trace
  module _ (task : ℕ) (running : IsRunning es task) (aside : done_of task (e ∷ []) ≡ None) (x : TraceItem) (here : place x ≡ length es) (stops : (js : List TraceItem) → items_before (length es) (x ∷ js) ≡ [])
      (owns : (mid : List Event) → own_events task (length es) (e ∷ mid) ≡ x ∷ own_events task (length es + 1) mid) (question : Question)
      (asks : (mid : List Event) → asked_by (slice_get (own_starts task (es ++ e ∷ mid)) (length (own_starts task es))) x ≡ Some question) where
    -- up to the end of the task
    module _ (r : Record) (first : done_of task (es ++ e ∷ more) ≡ Some r) (mid tail : List Event) (parts : es ++ e ∷ more ≡ (es ++ e ∷ mid) ++ Ev.Done task r ∷ tail) where
      abbrev ys : List Event
      ys = es ++ e ∷ mid

      run : HasRun P None ys task r
      run = each_in (λ past. OnDone (HasRun P None past)) ys tail (Ev.Done task r) (subst (EachAfter (λ past. OnDone (HasRun P None past)) []) parts legal.so_far.runs)

      traced : HasTrueTrace P ys task r
      traced = each_in (λ past. OnDone (HasTrueTrace P past)) ys tail (Ev.Done task r) (subst (EachAfter (λ past. OnDone (HasTrueTrace P past)) []) parts legal.so_far.traced.traces)

      owned : HasOwnEvents ys task r
      owned = each_in (λ past. OnDone (HasOwnEvents past)) ys tail (Ev.Done task r) (subst (EachAfter (λ past. OnDone (HasOwnEvents past)) []) parts legal.so_far.traced.own)

      own_trace : own_items r.trace ≡ own_events task 0 es ++ x ∷ own_events task (length es + 1) mid
      own_trace = sym owned ∙ own_later task es (e ∷ mid) ∙ ap (λ is. own_events task 0 es ++ is) (owns mid)

      cut : IsSplit (length es) r.trace (own_events task 0 es) x
      cut = split (length es) x stops (own_events task (length es + 1) mid) r.trace (own_events task 0 es) (own_places task (length es) 0 es (omega arith)) own_trace

      abbrev before : List TraceItem
      before = items_before (length es) r.trace

      in_order : IsInOrder (first_place task 0 ys) before (length es)
      in_order =
          subst (IsInOrder (first_place task 0 ys) before) here
          (order_before (first_place task 0 ys) (length ys) before x cut.after (subst (λ is. IsInOrder (first_place task 0 ys) is (length ys)) cut.whole traced.in_order))

      true_items : AreTrueOf P es task before
      true_items =
          all_cut P es (e ∷ mid) task (first_place task 0 ys) before in_order (true_before P ys task before (x ∷ cut.after) (subst (AreTrueOf P ys task) cut.whole traced.true_items))

      told_items : items_told es (steps_before (length es) (trace_told task all)) ≡ before
      told_items =
          ap (λ ss. items_told es (steps_before (length es) ss)) (ap (trace_told task) (sym told) ∙ trace_is P 0 task (es ++ e ∷ more) r first)
          ∙ ap (items_told es) (steps_before_are (length es) r.trace)
          ∙ sym (items_true P es task before true_items)

      started : start_of task ys ≡ start_of task es
      started =
          start_before task es (e ∷ mid)
          (not_again P task es (e ∷ mid) running.started
          (each_rest (MayCome P) [] es (e ∷ mid) (each_front (MayCome P) [] ys (Ev.Done task r ∷ tail) (subst (EachAfter (MayCome P) []) parts legal.so_far.stand.come))))

      counted : spawn_count before ≡ length (own_starts task es)
      counted = sym (spawns_own before) ∙ ap spawn_count cut.own_before ∙ starts_counted task 0 es

      comes : (fuel : ℕ) → fuel_of es ≡ Some fuel → Comes P ys None fuel (start_of task es) (items_told es (steps_before (length es) (trace_told task all))) question
      comes fuel f =
          subst (λ is. Comes P ys None fuel (start_of task es) is question) (sym told_items)
          (subst (λ s. Comes P ys None fuel s before question) started
          (run_comes P ys None fuel (start_of task ys) before x cut.after r.outcome r.output r.calls (own_starts task ys) question
          (subst (λ is. Run (setting_of P ys None fuel) (start_of task ys) is r.outcome r.output r.calls (own_starts task ys)) cut.whole (run fuel (fuel_stays es (e ∷ mid) fuel f)))
          (ap (λ n. asked_by (slice_get (own_starts task ys) n) x) counted ∙ asks mid)))

    pub led_so : IsLedSo P all es task question
    led_so =
        let (r, first) = some_record (done_of task (es ++ e ∷ more)) (legal.finished task (omega (arith, running.started, tasks_append es (e ∷ more), tasks_some (e ∷ more)))) in
        let later : done_of task more ≡ Some r = sym (done_later task (e ∷ []) more aside) ∙ sym (done_later task es (e ∷ more) running.going) ∙ first in
        let ends : EndsIn more task r = ends_in more task r later in
        (es ++ e ∷ ends.mid, (e ∷ ends.mid, refl), comes r first ends.mid ends.tail (parted es more ends.mid ends.tail e (Ev.Done task r) ends.is))

-- ---- each kind of event

module _ (P : Program) (all : List Entry) (es more : List Event) where
  pub led_definition : (task site : ℕ) → IsLegal P (es ++ Ev.Def task site ∷ more) → entries_of P (es ++ Ev.Def task site ∷ more) ≡ all → IsLedSo P all es task (a_definition site)
  led_definition task site legal told =
      led_so P all es more (Ev.Def task site) legal told task (may_come P all es more (Ev.Def task site) legal told).running refl (I.Def site (length es)) refl (def_stops site (length es))
      (λ mid. ap (λ b. cond b (I.Def site (length es) ∷ own_events task (length es + 1) mid) (own_events task (length es + 1) mid)) (self_eq task)) (a_definition site) (λ mid. refl)

  pub led_deletion : (task place : ℕ) → IsLegal P (es ++ Ev.Del task place ∷ more) → entries_of P (es ++ Ev.Del task place ∷ more) ≡ all → IsLedSo P all es task (a_deletion place)
  led_deletion task place legal told =
      led_so P all es more (Ev.Del task place) legal told task (may_come P all es more (Ev.Del task place) legal told).running refl (I.Del place (length es)) refl (del_stops place (length es))
      (λ mid. ap (λ b. cond b (I.Del place (length es) ∷ own_events task (length es + 1) mid) (own_events task (length es + 1) mid)) (self_eq task)) (a_deletion place) (λ mid. refl)

  spawned : (task child : ℕ) (start : Start) (mid : List Event) → slice_get (own_starts task (es ++ Ev.Spawn task child start ∷ mid)) (length (own_starts task es)) ≡ Some start
  spawned task child start mid =
      ap (λ xs. slice_get xs (length (own_starts task es)))
      (starts_append task es (Ev.Spawn task child start ∷ mid) ∙ ap (λ b. own_starts task es ++ cond b (start ∷ own_starts task mid) (own_starts task mid)) (self_eq task))
      ∙ get_at (own_starts task es) (own_starts task mid) start

  pub led_spawn : (task child : ℕ) (start : Start) → IsLegal P (es ++ Ev.Spawn task child start ∷ more) → entries_of P (es ++ Ev.Spawn task child start ∷ more) ≡ all → IsLedSo P all es task (a_spawn start)
  led_spawn task child start legal told =
      led_so P all es more (Ev.Spawn task child start) legal told task (may_come P all es more (Ev.Spawn task child start) legal told).running refl (I.Spawn child (length es)) refl (spawn_stops child (length es))
      (λ mid. ap (λ b. cond b (I.Spawn child (length es) ∷ own_events task (length es + 1) mid) (own_events task (length es + 1) mid)) (self_eq task)) (a_spawn start) (λ mid. ap spawn_asked (spawned task child start mid))

  pub led_end : (task : ℕ) (ended : Record) → IsLegal P (es ++ Ev.Done task ended ∷ more) → entries_of P (es ++ Ev.Done task ended ∷ more) ≡ all → IsMadeByRun P all es (Ev.Done task ended)
  led_end task ended legal told =
      let running : IsRunning es task = may_come P all es more (Ev.Done task ended) legal told in
      let traced : HasTrueTrace P es task ended = each_in (λ past. OnDone (HasTrueTrace P past)) es more (Ev.Done task ended) legal.so_far.traced.traces in
      let first : done_of task (es ++ Ev.Done task ended ∷ more) ≡ Some ended =
      done_later task es (Ev.Done task ended ∷ more) running.going ∙ ap (λ b. cond b (Some ended) (done_of task more)) (self_eq task)
      in (
        items_true P es task ended.trace traced.true_items
            ∙ ap (items_told es) (sym (trace_is P 0 task (es ++ Ev.Done task ended ∷ more) ended first) ∙ ap (trace_told task) told),
        each_in (λ past. OnDone (HasRun P None past)) es more (Ev.Done task ended) legal.so_far.runs,
      )
