-- One more entry is followed by all tasks.
use Rattle.std.proofs.Common.{◌≡◌, ◌∙◌, ap, sym, subst, refl, ℕ, zero, suc, ◌+◌, ◌<◌, ◌≤◌, arith, Bool, true, false, List, [], ◌∷◌, ◌++◌, append-nil, append_assoc, length, drop, take, set, slice_get, length-append, Option, Some, None}
use Rattle.jl_model.specs.declared.limits.TheConstants.{MOST_WORLDS, MOST_TASKS}
use Rattle.jl_model.specs.declared.ty.Key.{Key}
use Rattle.jl_program.specs.declared.tree.Program.{Program}
use Rattle.jl_program.specs.declared.tree.Start.{Start}
use Rattle.jl_program.specs.Valid.{IsValid}
use Rattle.jl_calculus.specs.declared.history.Change.TheVariants as Ch
use Rattle.jl_calculus.specs.declared.history.Event.{Event}
use Rattle.jl_calculus.specs.declared.history.Event.TheVariants as Ev
use Rattle.jl_calculus.specs.declared.history.Record.{Record}
use Rattle.jl_calculus.specs.declared.history.TraceItem.TheVariants as I
use Rattle.jl_calculus.specs.Legal.{EachAfter, IsLegal, IsChange, IsSpawn, IsRunning, MayCome, MayStand, fuel_of}
use Rattle.jl_calculus.specs.Past.{IsInOrder, tasks_of}
use Rattle.jl_calculus.specs.World.{world_of}
use Rattle.jl_machine.specs.declared.task.Machine.{Machine}
use Rattle.jl_machine.specs.Steps.{fuel_of as fuel_in, IsNewRoot}
use Rattle.jl_lead.specs.Coming.{IsNoRun, IsTheRun}
use Rattle.jl_lead.specs.Known.{AreSound, IsSpawnOf, IsStartAmong}
use Rattle.jl_lead.proofs.EventFacts.{tasks_append}
use Rattle.jl_report.specs.declared.entry.Ending.{Ending}
use Rattle.jl_report.specs.declared.entry.Entry.{Entry}
use Rattle.jl_report.specs.declared.entry.Entry.TheVariants as E
use Rattle.jl_report.specs.declared.entry.Step.{Step}
use Rattle.jl_report.specs.declared.entry.Step.TheVariants as S
use Rattle.jl_report.specs.HistoryText.{entry_of, entries_of}
use Rattle.jl_causes.specs.declared.cause.Cause.TheVariants as C
use Rattle.jl_causes.specs.Sketch.{Names, items_of}
use Rattle.jl_causes.proofs.AlikeLemmas.{same, running_to}
use Rattle.jl_replay.specs.declared.running.Running.{Running}
use Rattle.jl_replay.specs.declared.runs.Runs.{Runs}
use Rattle.jl_replay.specs.declared.runs.Stage.{Stage}
use Rattle.jl_replay.specs.declared.runs.Stage.TheVariants as T
use Rattle.jl_replay.specs.Told.{trace_told, end_told, stretch}
use Rattle.jl_replay.specs.Moves.{told_so_far, FollowsDefinition, FollowsDeletion, FollowsSpawn, HasMoved, MayGoOn}
use Rattle.jl_replay.specs.Following.{IsOnItsWay, IsToBegin, IsUnderWay, AreOnTheirWay, AreReplayed, AreJudged, AreFollowed, IsDifference, HasFollowed, IsToldBy, IsKeyAt, HasStarted, HasComeToSpawn}
use Rattle.jl_replay.proofs.Beginning.{at_last, root_way, spawned_new}
use Rattle.jl_replay.proofs.Carry.{moved_on, plain_on, change_on, end_on, spawn_on, new_on}
use Rattle.jl_replay.proofs.Cuts.{cut_after, get_last, set_length}
use Rattle.jl_replay.proofs.Differs.{definition_differs, deletion_differs, spawn_differs, end_differs, text_differs}
use Rattle.jl_replay.proofs.FirstRound.{front, stands, may_come}
use Rattle.jl_replay.proofs.Lists.{fuel_stays}
use Rattle.jl_replay.proofs.Next.{IsNextStep, IsLastStep}
use Rattle.jl_replay.proofs.Replayed.{key_more, fill_more, definition_more, deletion_more, spawn_more, end_more, child_number}
use Rattle.jl_replay.proofs.Traces.{definition_next, deletion_next, spawn_next, end_next, root_ordered, child_ordered}

-- ---- small facts

-- there is room for all tasks
few_more : (P : Program) (past : List Event) (e : Event) → MayCome P past e → tasks_of past ≤ MOST_TASKS → tasks_of (past ++ e ∷ []) ≤ MOST_TASKS
few_more P past (Ev.Spawn by child start) m l = omega (arith, m.room, tasks_append past (Ev.Spawn by child start ∷ []))
few_more P past (Ev.Begin fuel) m l = omega (arith, l, tasks_append past (Ev.Begin fuel ∷ []))
few_more P past (Ev.Key key) m l = omega (arith, l, tasks_append past (Ev.Key key ∷ []))
few_more P past (Ev.Fill key site first) m l = omega (arith, l, tasks_append past (Ev.Fill key site first ∷ []))
few_more P past (Ev.Def by site) m l = omega (arith, l, tasks_append past (Ev.Def by site ∷ []))
few_more P past (Ev.Del by place) m l = omega (arith, l, tasks_append past (Ev.Del by place ∷ []))
few_more P past (Ev.Done by ended) m l = omega (arith, l, tasks_append past (Ev.Done by ended ∷ []))

few_all : (P : Program) (past es : List Event) → EachAfter (MayCome P) past es → tasks_of past ≤ MOST_TASKS → tasks_of (past ++ es) ≤ MOST_TASKS
few_all P past [] h l = subst (λ xs. tasks_of xs ≤ MOST_TASKS) (sym (append-nil past)) l
few_all P past (e ∷ es) h l =
    subst (λ xs. tasks_of xs ≤ MOST_TASKS) (append_assoc past (e ∷ []) es) (few_all P (past ++ e ∷ []) es h.1 (few_more P past e h.0 l))

fuel_some : (es : List Event) (fuel : ℕ) → fuel_of es ≡ Some fuel → 0 < length es
fuel_some [] fuel q = absurd (cc q)
fuel_some (e ∷ es) fuel q = omega arith

set_again : {X : Type 0} (xs : List X) (n : ℕ) (x y : X) → set (set xs n x) n y ≡ set xs n y
set_again [] n x y = refl
set_again (z ∷ xs) zero x y = refl
set_again (z ∷ xs) (suc n) x y = ap (λ ws. z ∷ ws) (set_again xs n x y)

module _ (P : Program) (all : List Entry) (j : AreJudged P all) (runs : Runs) (h : AreFollowed P all runs) where
  abbrev es : List Event
  es = runs.led.past.1

  stand : MayStand P es
  stand = (stands P all j es h.replayed (fuel_some es runs.fuel h.fuel)).0

  pub few_tasks : tasks_of es ≤ MOST_TASKS
  few_tasks = few_all P [] es stand.come (omega arith)

  -- ---- the task of the next entry

  -- a running task is among these
  pub record IsRunningHere (task : ℕ) : Type 0 where
    pub started : task < tasks_of es
    pub small : task < MOST_TASKS
    pub inside : task < length runs.tasks.items
    pub running : IsRunning es task

  here_by : (task : ℕ) → IsRunning es task → IsRunningHere task
  here_by task r = record { started = r.started; small = omega (arith, r.started, few_tasks); inside = omega (arith, r.started, h.on_way.many); running = r }

  module _ (n : ℕ) (here : length es ≡ n) where
    entry_here : (x : Entry) → slice_get all n ≡ Some x → slice_get all (length es) ≡ Some x
    entry_here x at = ap (slice_get all) here ∙ at

    -- one more event, which the next entry tells
    pub followed : (runs' : Runs) (e : Event) → runs'.led.past.0 ≡ P → runs'.led.past.1 ≡ es ++ e ∷ [] → runs'.fuel ≡ runs.fuel → AreReplayed P all (es ++ e ∷ []) → AreOnTheirWay P all (es ++ e ∷ []) runs'.tasks.items
        → AreFollowed P all runs' × (length runs'.led.past.1 ≡ n + 1)
    followed runs' e program events fuel replayed way = (
      record {
        program = program;
        fuel = subst (λ xs. fuel_of xs ≡ Some runs'.fuel) (sym events) (subst (λ f. fuel_of (es ++ e ∷ []) ≡ Some f) (sym fuel) (fuel_stays es (e ∷ []) runs.fuel h.fuel));
        replayed = subst (AreReplayed P all) (sym events) replayed;
        on_way = subst (λ xs. AreOnTheirWay P all xs runs'.tasks.items) (sym events) way;
      },
      ap length events ∙ length-append es (e ∷ []) ∙ ap (λ k. k + 1) here,
    )

    past_is : (v : Program × List Event) (e : Event) → v ≡ (runs.led.past.0, es ++ e ∷ []) → (v.0 ≡ P) × (v.1 ≡ es ++ e ∷ [])
    past_is v e q = (ap (λ (w : Program × List Event). w.0) q ∙ h.program, ap (λ (w : Program × List Event). w.1) q)

    pub key_followed : (runs' : Runs) (function tuple : List ℕ) (key : Key) → IsKeyAt (slice_get all n) function tuple → Names P function tuple key → runs'.led.past ≡ (runs.led.past.0, es ++ Ev.Key key ∷ [])
        → runs'.fuel ≡ runs.fuel → runs'.tasks.items ≡ runs.tasks.items → HasFollowed P all n true runs'
    key_followed runs' function tuple key at names q fuel tasks =
        let (program, events) = past_is runs'.led.past (Ev.Key key) q in
        followed runs' (Ev.Key key) program events fuel
        (key_more P all j es h.replayed function tuple (subst (λ k. IsKeyAt (slice_get all k) function tuple) (sym here) at) key names)
        (subst (AreOnTheirWay P all (es ++ Ev.Key key ∷ [])) (sym tasks) (plain_on P all es runs.tasks.items h.on_way (Ev.Key key) refl (λ t o. o)))

    pub fill_followed : (runs' : Runs) (key site first : ℕ) → slice_get all n ≡ Some (E.Fill key site first) → runs'.led.past ≡ (runs.led.past.0, es ++ Ev.Fill key site first ∷ [])
        → runs'.fuel ≡ runs.fuel → runs'.tasks.items ≡ runs.tasks.items → HasFollowed P all n true runs'
    fill_followed runs' key site first at q fuel tasks =
        let e = Ev.Fill key site first in
        let (program, events) = past_is runs'.led.past (Ev.Fill key site first) q in
        followed runs' (Ev.Fill key site first) program events fuel (fill_more P all j es h.replayed key site first (entry_here (E.Fill key site first) at))
        (subst (AreOnTheirWay P all (es ++ Ev.Fill key site first ∷ [])) (sym tasks) (plain_on P all es runs.tasks.items h.on_way (Ev.Fill key site first) refl (λ t o. o)))

    differs_here : IsDifference P all (length es) → IsDifference P all n
    differs_here d = subst (IsDifference P all) here d

    -- ---- a definition

    module _ (task site : ℕ) (at : slice_get all n ≡ Some (E.Def task site)) where
      may_define : IsChange P es task (Ch.Def site)
      may_define = may_come P all j es h.replayed (E.Def task site) (entry_here (E.Def task site) at) (Ev.Def task site) 0 refl tt

      pub definition_here : IsRunningHere task
      definition_here = here_by task may_define.running

      pub definition_room : world_of es < MOST_WORLDS
      definition_room = may_define.room

      module _ (r : Running) (definition_way : IsOnItsWay P all es task r) where
        definition_step : IsNextStep P all es task r (S.Def site (length es))
        definition_step = definition_next P all j es h.replayed task site (entry_here (E.Def task site) at) r definition_way

        pub definition_going : MayGoOn P es task (trace_told task all) r
        definition_going = definition_step.going

        pub definition_inside : r.told + length (stretch (drop r.told (trace_told task all))) < length (trace_told task all)
        definition_inside =
            omega (arith, (cut_after r.told (trace_told task all) (stretch (drop r.told (trace_told task all))) (S.Def site (length es)) definition_step.more definition_way.few definition_step.rest).2)

        pub definition_followed : (came : Bool) (r' : Running) (runs' : Runs) → FollowsDefinition P es task (trace_told task all) r site came runs'.led.past r' → runs'.fuel ≡ runs.fuel
            → runs'.tasks.items ≡ set (set runs.tasks.items task T.Ended) task (T.Running r') → HasFollowed P all n came runs'
        definition_followed true r' runs' (tells, made) fuel tasks =
            let trace = trace_told task all in
            let moved : HasMoved P es (es ++ Ev.Def task site ∷ []) task trace r r' (I.Def site (length es)) = subst (λ xs. HasMoved P es xs task trace r r' (I.Def site (length es))) made.events made.moved in
            let way = moved_on P all es (Ev.Def task site) task r r' (S.Def site (length es)) (I.Def site (length es)) definition_way definition_step refl
            (omega (arith, definition_here.started, tasks_append es (Ev.Def task site ∷ []))) moved in
            followed runs' (Ev.Def task site) made.program made.events fuel
            (definition_more P all j es h.replayed task site (entry_here (E.Def task site) at) r definition_step (fuel_in r.machine) tells definition_way.fuel)
            (subst (AreOnTheirWay P all (es ++ Ev.Def task site ∷ [])) (sym (tasks ∙ set_again runs.tasks.items task T.Ended (T.Running r')))
            (change_on P all es runs.tasks.items h.on_way (Ev.Def task site) task r' refl (λ t o. o) definition_here.started way))
        definition_followed false r' runs' tells fuel tasks =
            differs_here (definition_differs P all j es h.replayed task site (entry_here (E.Def task site) at) r definition_step (fuel_in r.machine) tells definition_way.fuel)

    -- ---- a deletion

    module _ (task place : ℕ) (at : slice_get all n ≡ Some (E.Del task place)) where
      may_delete : IsChange P es task (Ch.Del place)
      may_delete = may_come P all j es h.replayed (E.Del task place) (entry_here (E.Del task place) at) (Ev.Del task place) 0 refl tt

      pub deletion_here : IsRunningHere task
      deletion_here = here_by task may_delete.running

      pub deletion_room : world_of es < MOST_WORLDS
      deletion_room = may_delete.room

      module _ (r : Running) (deletion_way : IsOnItsWay P all es task r) where
        deletion_step : IsNextStep P all es task r (S.Del place (length es))
        deletion_step = deletion_next P all j es h.replayed task place (entry_here (E.Del task place) at) r deletion_way

        pub deletion_going : MayGoOn P es task (trace_told task all) r
        deletion_going = deletion_step.going

        pub deletion_inside : r.told + length (stretch (drop r.told (trace_told task all))) < length (trace_told task all)
        deletion_inside =
            omega (arith, (cut_after r.told (trace_told task all) (stretch (drop r.told (trace_told task all))) (S.Del place (length es)) deletion_step.more deletion_way.few deletion_step.rest).2)

        pub deletion_followed : (came : Bool) (r' : Running) (runs' : Runs) → FollowsDeletion P es task (trace_told task all) r place came runs'.led.past r' → runs'.fuel ≡ runs.fuel
            → runs'.tasks.items ≡ set (set runs.tasks.items task T.Ended) task (T.Running r') → HasFollowed P all n came runs'
        deletion_followed true r' runs' (tells, made) fuel tasks =
            let trace = trace_told task all in
            let moved : HasMoved P es (es ++ Ev.Del task place ∷ []) task trace r r' (I.Del place (length es)) = subst (λ xs. HasMoved P es xs task trace r r' (I.Del place (length es))) made.events made.moved in
            let way = moved_on P all es (Ev.Del task place) task r r' (S.Del place (length es)) (I.Del place (length es)) deletion_way deletion_step refl
            (omega (arith, deletion_here.started, tasks_append es (Ev.Del task place ∷ []))) moved in
            followed runs' (Ev.Del task place) made.program made.events fuel
            (deletion_more P all j es h.replayed task place (entry_here (E.Del task place) at) r deletion_step (fuel_in r.machine) tells deletion_way.fuel)
            (subst (AreOnTheirWay P all (es ++ Ev.Del task place ∷ [])) (sym (tasks ∙ set_again runs.tasks.items task T.Ended (T.Running r')))
            (change_on P all es runs.tasks.items h.on_way (Ev.Del task place) task r' refl (λ t o. o) deletion_here.started way))
        deletion_followed false r' runs' tells fuel tasks =
            differs_here (deletion_differs P all j es h.replayed task place (entry_here (E.Del task place) at) r deletion_step (fuel_in r.machine) tells deletion_way.fuel)

    -- ---- a spawn

    module _ (task child place : ℕ) (at : slice_get all n ≡ Some (E.Spawn task child place)) where
      there : slice_get all (length es) ≡ Some (E.Spawn task child place)
      there = entry_here (E.Spawn task child place) at

      may_spawn : (start : Start) → start.spawn ≡ place → IsSpawn P es task child start
      may_spawn start q = may_come P all j es h.replayed (E.Spawn task child place) there (Ev.Spawn task child start) 0 (ap (E.Spawn task child) q) tt

      abbrev some_start : Start
      some_start = record { spawn = place; env = []; bindings = []; world = 0 }

      pub spawn_here : IsRunningHere task
      spawn_here = here_by task (may_spawn some_start refl).running

      pub spawn_room : tasks_of es < MOST_TASKS
      spawn_room = (may_spawn some_start refl).room

      module _ (r : Running) (spawn_way : IsOnItsWay P all es task r) where
        spawn_step : IsNextStep P all es task r (S.Spawn child (length es))
        spawn_step = spawn_next P all j es h.replayed task child place there r spawn_way

        pub spawn_going : MayGoOn P es task (trace_told task all) r
        spawn_going = spawn_step.going

        pub spawn_inside : r.told + length (stretch (drop r.told (trace_told task all))) < length (trace_told task all)
        spawn_inside =
            omega (arith, (cut_after r.told (trace_told task all) (stretch (drop r.told (trace_told task all))) (S.Spawn child (length es)) spawn_step.more spawn_way.few spawn_step.rest).2)

        pub spawn_come : (came : Bool) (r' : Running) (runs' : Runs) → FollowsSpawn P es task (trace_told task all) r place came runs'.led.past r' → runs'.fuel ≡ runs.fuel
            → runs'.tasks.items ≡ set (set runs.tasks.items task T.Ended) task (T.Running r') → HasComeToSpawn P all runs task child place came runs'
        spawn_come true r' runs' (tells, made) fuel tasks =
            let trace = trace_told task all in
            let number : tasks_of es ≡ child = sym (child_number P all j es h.replayed task child place there) in
            let event : Ev.Spawn task (tasks_of es) made.start ≡ Ev.Spawn task child made.start = ap (λ k. Ev.Spawn task k made.start) number in
            let events : runs'.led.past.1 ≡ es ++ Ev.Spawn task child made.start ∷ [] = made.events ∙ ap (λ e. es ++ e ∷ []) event in
            let moved : HasMoved P es (es ++ Ev.Spawn task child made.start ∷ []) task trace r r' (I.Spawn child (length es)) =
            subst (λ xs. HasMoved P es xs task trace r r' (I.Spawn child (length es))) events
            (subst (λ k. HasMoved P es runs'.led.past.1 task trace r r' (I.Spawn k (length es))) number made.moved) in
            record {
              program = made.program;
              fuel = fuel;
              start = made.start;
              events = events;
              child_is = sym number;
              replayed = subst (λ e. AreReplayed P all (es ++ e ∷ [])) event
                  (spawn_more P all j es h.replayed task child place there r spawn_step (fuel_in r.machine) tells spawn_way.fuel made.start made.at made.only);
              started = spawn_here.started;
              running = r';
              tasks = tasks ∙ set_again runs.tasks.items task T.Ended (T.Running r');
              way = moved_on P all es (Ev.Spawn task child made.start) task r r' (S.Spawn child (length es)) (I.Spawn child (length es)) spawn_way spawn_step refl
                  (omega (arith, spawn_here.started, tasks_append es (Ev.Spawn task child made.start ∷ []))) moved;
            }
        spawn_come false r' runs' tells fuel tasks = spawn_differs P all j es h.replayed task child place there r spawn_step (fuel_in r.machine) tells spawn_way.fuel

      -- the next task has been started, and is among them
      module _ (mid : Runs) (s : HasStarted P all runs task child mid) where
        mid_stand : MayStand P (es ++ Ev.Spawn task child s.start ∷ [])
        mid_stand = (stands P all j (es ++ Ev.Spawn task child s.start ∷ []) s.replayed (omega (arith, length-append es (Ev.Spawn task child s.start ∷ [])))).0

        -- it is on its way whenever it begins
        to_begin : IsValid P → IsStartAmong P (es ++ Ev.Spawn task child s.start ∷ []) s.start → IsToBegin P all (es ++ Ev.Spawn task child s.start ∷ []) child (length (es ++ Ev.Spawn task child s.start ∷ []))
        to_begin valid among =
            let fuel_is : fuel_of (es ++ Ev.Spawn task child s.start ∷ []) ≡ Some runs.fuel = fuel_stays es (Ev.Spawn task child s.start ∷ []) runs.fuel h.fuel in
            record {
              start = s.start;
              fuel = runs.fuel;
              seen_some = omega (arith, length-append es (Ev.Spawn task child s.start ∷ []));
              spawned = subst (IsSpawnOf s.start) (sym (at_last es (Ev.Spawn task child s.start))) refl;
              fuel_is = fuel_is;
              way = λ r new.
                  new_on P all (es ++ Ev.Spawn task child s.start ∷ []) child runs.fuel r fuel_is
                  (omega (arith, s.child_is, tasks_append es (Ev.Spawn task child s.start ∷ [])))
                  (subst (λ k. IsInOrder k (items_of (trace_told child all)) (end_told child 0 all)) (sym (length-append es (Ev.Spawn task child s.start ∷ []))) (child_ordered P all j es h.replayed task child place there))
                  (spawned_new P es task child s.start s.child_is mid_stand runs.fuel r valid among new);
            }

        start_among : AreSound mid.led.past.0 mid.led.past.1 → IsStartAmong P (es ++ Ev.Spawn task child s.start ∷ []) s.start
        start_among sound =
            let here : AreSound P (es ++ Ev.Spawn task child s.start ∷ []) = subst (AreSound P) s.events (subst (λ Q. AreSound Q mid.led.past.1) s.program sound) in
            here.starts (length es) task child s.start (get_last es (Ev.Spawn task child s.start))

        pub spawn_followed : IsValid P → AreSound mid.led.past.0 mid.led.past.1 → (seen : ℕ) → seen ≡ length mid.led.past.1 → (runs' : Runs) → runs'.led.past ≡ mid.led.past → runs'.fuel ≡ mid.fuel
            → runs'.tasks.items ≡ mid.tasks.items ++ T.Spawned seen ∷ [] → AreFollowed P all runs' × (length runs'.led.past.1 ≡ n + 1)
        spawn_followed valid sound seen is runs' past fuel tasks =
            let begins : IsToBegin P all (es ++ Ev.Spawn task child s.start ∷ []) child seen =
            subst (IsToBegin P all (es ++ Ev.Spawn task child s.start ∷ []) child) (sym (is ∙ ap length s.events)) (to_begin valid (start_among sound)) in
            followed runs' (Ev.Spawn task child s.start) (ap (λ (v : Program × List Event). v.0) past ∙ s.program) (ap (λ (v : Program × List Event). v.1) past ∙ s.events) (fuel ∙ s.fuel) s.replayed
            (subst (AreOnTheirWay P all (es ++ Ev.Spawn task child s.start ∷ [])) (sym (tasks ∙ ap (λ ts. ts ++ T.Spawned seen ∷ []) s.tasks))
            (spawn_on P all es runs.tasks.items h.on_way task child s.start s.running seen s.started s.child_is s.way begins))

      pub come_differs : IsDifference P all (length es) → IsDifference P all n
      come_differs d = differs_here d

    -- ---- an end

    module _ (task calls : ℕ) (trace : List Step) (output : List ℕ) (ending : Ending) (at : slice_get all n ≡ Some (E.Done task calls trace output ending)) where
      end_there : slice_get all (length es) ≡ Some (E.Done task calls trace output ending)
      end_there = entry_here (E.Done task calls trace output ending) at

      end_running : IsRunning es task
      end_running =
          let f = front P all j es h.replayed in
          running_to P (take (length es) f.ds) es (same (take (length es) f.ds) es f.alike) task (f.clean.clean (length es) (E.Done task calls trace output ending) end_there C.NotRunning)

      pub end_here : IsRunningHere task
      end_here = here_by task end_running

      module _ (r : Running) (end_way : IsOnItsWay P all es task r) where
        end_step : IsLastStep P all es task r trace
        end_step = end_next P all j es h.replayed task calls trace output ending end_there r end_way

        pub end_going : MayGoOn P es task trace r
        end_going = subst (λ ss. MayGoOn P es task ss r) end_step.told end_step.going

        pub no_end : IsNoRun P es task (fuel_in r.machine) (told_so_far es trace r.told) → IsDifference P all n
        no_end none =
            differs_here (end_differs P all j es h.replayed task calls trace output ending end_there r end_step (fuel_in r.machine) end_way.fuel
            (subst (λ ss. IsNoRun P es task (fuel_in r.machine) (told_so_far es ss r.told)) (sym end_step.told) none))

        module _ (ended : Record) (run : IsTheRun P es task (fuel_in r.machine) (told_so_far es trace r.told) ended) where
          the_end : IsTheRun P es task (fuel_in r.machine) (told_so_far es (trace_told task all) r.told) ended
          the_end = subst (λ ss. IsTheRun P es task (fuel_in r.machine) (told_so_far es ss r.told) ended) (sym end_step.told) run

          pub other_end : (IsToldBy P ended calls output ending → ⊥) → IsDifference P all n
          other_end unlike = differs_here (text_differs P all j es h.replayed task calls trace output ending end_there r end_step (fuel_in r.machine) end_way.fuel ended the_end unlike)

          pub end_followed : (runs' : Runs) → IsToldBy P ended calls output ending → runs'.led.past ≡ (runs.led.past.0, es ++ Ev.Done task ended ∷ []) → runs'.fuel ≡ runs.fuel → runs'.tasks.items ≡ set runs.tasks.items task T.Ended
              → AreFollowed P all runs' × (length runs'.led.past.1 ≡ n + 1)
          end_followed runs' told q fuel tasks =
              let (program, events) = past_is runs'.led.past (Ev.Done task ended) q in
              followed runs' (Ev.Done task ended) program events fuel
              (end_more P all j es h.replayed task calls trace output ending end_there r end_step (fuel_in r.machine) ended the_end end_way.fuel told)
              (subst (AreOnTheirWay P all (es ++ Ev.Done task ended ∷ [])) (sym tasks) (end_on P all es runs.tasks.items h.on_way task ended))

-- ---- the beginning

no_legal : (P : Program) (all : List Entry) (fuel : ℕ) → slice_get all 0 ≡ Some (E.Begin fuel) → (xs : List Event) → IsLegal P xs → entries_of P xs ≡ all → take 1 xs ≡ Ev.Begin fuel ∷ []
no_legal P all fuel at [] l told = (let z : slice_get (entries_of P []) 0 ≡ Some (E.Begin fuel) = ap (λ ys. slice_get ys 0) told ∙ at in absurd (cc z))
no_legal P all fuel at (e ∷ xs) l told =
    let z : Some (entry_of P 0 e) ≡ Some (E.Begin fuel) = ap (λ ys. slice_get ys 0) told ∙ at in
    let y : entry_of P 0 e ≡ E.Begin fuel = cc z in
    ap (λ d. d ∷ []) (is e y)
  where
    is : (e : Event) → entry_of P 0 e ≡ E.Begin fuel → e ≡ Ev.Begin fuel
    is (Ev.Begin f) q = ap Ev.Begin (let w : f ≡ fuel = cc q in w)
    is (Ev.Key key) q = absurd (cc q)
    is (Ev.Fill key site first) q = absurd (cc q)
    is (Ev.Def by site) q = absurd (cc q)
    is (Ev.Del by place) q = absurd (cc q)
    is (Ev.Spawn by child start) q = absurd (cc q)
    is (Ev.Done by ended) q = absurd (cc q)

first_rest : (all : List Entry) (x : Entry) → slice_get all 0 ≡ Some x → (rest : List Entry) × (x ∷ rest ≡ all)
first_rest [] x at = absurd (cc at)
first_rest (y ∷ ys) x at = (ys, (let w : y ≡ x = cc at in ap (λ z. z ∷ ys) (sym w)))

pub begun : (P : Program) (all : List Entry) (j : AreJudged P all) (fuel : ℕ) → IsValid P → slice_get all 0 ≡ Some (E.Begin fuel) → (m : Machine) → IsNewRoot P fuel m → (runs : Runs)
    → runs.led.past ≡ (P, Ev.Begin fuel ∷ []) → runs.fuel ≡ fuel → runs.tasks.items ≡ T.Running (record { machine = m; told = 0; seen = 1; looks = 0 }) ∷ [] → AreFollowed P all runs
begun P all j fuel valid at m new runs past f tasks =
    let events : runs.led.past.1 ≡ Ev.Begin fuel ∷ [] = ap (λ (v : Program × List Event). v.1) past in
    let (rest, told) = first_rest all (E.Begin fuel) at in
    record {
      program = ap (λ (v : Program × List Event). v.0) past;
      fuel = ap fuel_of events ∙ ap Some (sym f);
      replayed = subst (AreReplayed P all) (sym events) (record { rest = rest; told = told; made = (tt, tt); legal = no_legal P all fuel at });
      on_way = subst (λ xs. AreOnTheirWay P all xs runs.tasks.items) (sym events)
          (subst (AreOnTheirWay P all (Ev.Begin fuel ∷ [])) (sym tasks)
          (record { many = refl; each = λ task l running. root_only task l }));
    }
  where
    root : Running
    root = record { machine = m; told = 0; seen = 1; looks = 0 }

    root_only : (task : ℕ) → task < 1 → IsUnderWay P all (Ev.Begin fuel ∷ []) task (slice_get (T.Running root ∷ []) task)
    root_only zero l = root_way P all fuel m valid new (root_ordered P all j)
    root_only (suc task) l = absurd (omega (arith, l))

pub tasks_are : (now before : List Stage) (r q : Running) → now ≡ before ++ T.Running r ∷ [] → before ≡ [] → r ≡ q → now ≡ T.Running q ∷ []
tasks_are now before r q is none same = is ∙ ap (λ ts. ts ++ T.Running r ∷ []) none ∙ ap (λ x. T.Running x ∷ []) same

-- the key of an entry is there
pub key_there : (P : Program) (all : List Entry) (j : AreJudged P all) (n : ℕ) (function tuple : List ℕ) → IsKeyAt (slice_get all n) function tuple → ((key : Key) → Names P function tuple key → ⊥) → ⊥
key_there P all j n function tuple at none = by_entry (slice_get all n) refl at
  where
    by_entry : (o : Option Entry) → slice_get all n ≡ o → IsKeyAt o function tuple → ⊥
    by_entry None q k = k
    by_entry (Some (E.Key number f t)) q k =
        let named = j.clean.1.clean n (E.Key number f t) q C.KeyUnknown in
        none named.0 (subst (λ (xs : List ℕ). Names P xs tuple named.0) k.0 (subst (λ (xs : List ℕ). Names P f xs named.0) k.1 named.1))
    by_entry (Some (E.Begin fuel)) q k = k
    by_entry (Some (E.Fill key site first)) q k = k
    by_entry (Some (E.Def task site)) q k = k
    by_entry (Some (E.Del task place)) q k = k
    by_entry (Some (E.Spawn task child place)) q k = k
    by_entry (Some (E.Done task calls trace output ending)) q k = k

pub inside_after : (tasks gone : List Stage) (task : ℕ) → gone ≡ set tasks task T.Ended → task < length tasks → task < length gone
inside_after tasks gone task is l = omega (arith, l, ap length is, set_length tasks task T.Ended)

-- what is kept of a task that has not ended
pub kept_here : (P : Program) (all : List Entry) (es : List Event) (tasks : List Stage) → AreOnTheirWay P all es tasks → (task : ℕ) → IsRunning es task → (kept was : Stage) → slice_get tasks task ≡ Some kept → kept ≡ was
    → IsUnderWay P all es task (Some was)
kept_here P all es tasks h task r kept was at is = subst (λ s. IsUnderWay P all es task (Some s)) is (subst (IsUnderWay P all es task) at (h.each task r.started r.going))
