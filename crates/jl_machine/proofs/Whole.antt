-- A machine's step, its beginning and its end.
use Rattle.std.proofs.Common.{◌≡◌, refl, sym, ap, ◌∙◌, subst, ℕ, zero, suc, ◌<◌, ◌≤◌, ◌+◌, ◌*◌, get_or, List, [], ◌∷◌, ◌++◌, map, length, None, Some, Result, Ok, Err, IfOk, slice_get, false, arith}
use Rattle.jl_model.specs.declared.ty.Decl.{Decl}
use Rattle.jl_program.specs.Scope.{all_types}
use Rattle.jl_program.specs.declared.tree.Expr.{Expr}
use Rattle.jl_program.specs.declared.tree.Program.{Program}
use Rattle.jl_program.specs.declared.tree.Start.{Start}
use Rattle.jl_program.specs.declared.prelude.TheConstants.{FIRST_WORLD}
use Rattle.jl_program.specs.declared.value.Value.{Value}
use Rattle.jl_program.specs.declared.value.Value.TheVariants as V
use Rattle.std.specs.declared.alloc.AllocError.{AllocError}
use Rattle.jl_program.specs.Meaning.{datum, value_of}
use Rattle.jl_calculus.proofs.ValueLemmas.{value_back}
use Rattle.jl_frames.specs.Held.{Held, nothing_held, with_open, starts}
use Rattle.jl_program.specs.Valid.{IsValid}
use Rattle.jl_calculus.specs.declared.history.Outcome.{Outcome}
use Rattle.jl_calculus.specs.declared.history.Record.{Record}
use Rattle.jl_calculus.specs.declared.history.TraceItem.{TraceItem}
use Rattle.jl_calculus.specs.Run.{setting_of, Run}
use Rattle.jl_task.specs.declared.point.Work.{Work}
use Rattle.jl_task.specs.declared.point.Work.TheVariants as W
use Rattle.jl_task.specs.declared.point.Now.{Now}
use Rattle.jl_task.specs.ValidPoint.{IsGoodPoint}
use Rattle.jl_task.specs.Weight.{turns_left}
use Rattle.jl_task.specs.Worlds.{IsWithin}
use Rattle.jl_task.proofs.AskedLemmas.{never_lost}
use Rattle.jl_task.specs.Size.{program_size}
use Rattle.jl_task.proofs.SizeLemmas.{root_few, task_few}
use Rattle.jl_task.proofs.EnteredKept.{root_good, task_good}
use Rattle.jl_task.specs.Knows.{Knows, Refused}
use Rattle.jl_task.specs.Asks.{Job, Over, Ending, RunsTo, FinishesTo, Tells}
use Rattle.jl_task.specs.Fits.{Progress, FitsWith, IsKnowing, Fitting, IsFresh, IsRunOf, job_of}
use Rattle.jl_task.specs.Known.{IsKnown, AreFetchesKnown, AllMention, PointMentions}
use Rattle.jl_task.proofs.KnownLemmas.{nothing_mentions}
use Rattle.jl_task.proofs.KnowingSteps.{knows_on, begins_known}
use Rattle.jl_task.proofs.Fitting.{grown}
use Rattle.jl_task.proofs.Traces.{append_nil}
use Rattle.jl_machine.specs.declared.now.LentWork.{LentWork}
use Rattle.jl_machine.specs.declared.now.LentWork.TheVariants.{Eval, Give, Leave, Acting, Calling, Items, Defining, Pieces, Ended, Lost}
use Rattle.jl_machine.specs.declared.task.Task.{Task}
use Rattle.jl_machine.specs.declared.task.Machine.{Machine}
use Rattle.jl_machine.specs.declared.task.Turn.TheVariants as T
use Rattle.jl_machine.specs.Lent.{now_of, work_of, IsSettled}
use Rattle.jl_machine.specs.Steps.{progress_of, LentSteps, LentWaits, IsWorking, job_with, IsAt, FitsAt, TypesAt, MachineFits, turns_of, KnowsTasks, IsNewAt, first_now, IsNewRoot, IsNewTask, IsFirst, HasEnded, RootFits, TaskFits, LostFits, EndedRuns, GrownFits}

-- ---- by what comes next

pub working : (work : LentWork) → (work ≡ Ended → ⊥) → (work ≡ Lost → ⊥) → IsWorking work
working Ended e l = absurd (e refl)
working Lost e l = absurd (l refl)
working (Eval x) e l = tt
working Give e l = tt
working Leave e l = tt
working (Acting x) e l = tt
working (Calling f w) e l = tt
working (Items fresh xs) e l = tt
working (Defining fresh site xs) e l = tt
working (Pieces line xs) e l = tt

-- a machine that has something to do fits as a task
pub fits_at : (P : Program) (fuel : ℕ) (k : Knows) (work : LentWork) (t : Task) → IsWorking work → FitsAt P fuel k work t → IsAt P fuel k work t
fits_at P fuel k Ended t w f = absurd w
fits_at P fuel k Lost t w f = absurd w
fits_at P fuel k (Eval x) t w f = f
fits_at P fuel k Give t w f = f
fits_at P fuel k Leave t w f = f
fits_at P fuel k (Acting x) t w f = f
fits_at P fuel k (Calling g u) t w f = f
fits_at P fuel k (Items fresh xs) t w f = f
fits_at P fuel k (Defining fresh site xs) t w f = f
fits_at P fuel k (Pieces line xs) t w f = f

-- what fits as a task fits as a machine
pub at_fits : (P : Program) (fuel : ℕ) (k : Knows) (work : LentWork) (t : Task) → IsAt P fuel k work t → FitsAt P fuel k work t
at_fits P fuel k Ended t f = f
at_fits P fuel k Lost t f = tt
at_fits P fuel k (Eval x) t f = f
at_fits P fuel k Give t f = f
at_fits P fuel k Leave t f = f
at_fits P fuel k (Acting x) t f = f
at_fits P fuel k (Calling g u) t f = f
at_fits P fuel k (Items fresh xs) t f = f
at_fits P fuel k (Defining fresh site xs) t f = f
at_fits P fuel k (Pieces line xs) t f = f

-- what is prepared is of the program's types
pub types_at : (P : Program) (work : LentWork) (ds : List Decl) → ds ≡ all_types P → TypesAt P work ds
types_at P Ended ds e = e
types_at P Lost ds e = tt
types_at P (Eval x) ds e = e
types_at P Give ds e = e
types_at P Leave ds e = e
types_at P (Acting x) ds e = e
types_at P (Calling g u) ds e = e
types_at P (Items fresh xs) ds e = e
types_at P (Defining fresh site xs) ds e = e
types_at P (Pieces line xs) ds e = e

pub types_are : (P : Program) (work : LentWork) (ds : List Decl) → IsWorking work → TypesAt P work ds → ds ≡ all_types P
types_are P Ended ds w h = absurd w
types_are P Lost ds w h = absurd w
types_are P (Eval x) ds w h = h
types_are P Give ds w h = h
types_are P Leave ds w h = h
types_are P (Acting x) ds w h = h
types_are P (Calling g u) ds w h = h
types_are P (Items fresh xs) ds w h = h
types_are P (Defining fresh site xs) ds w h = h
types_are P (Pieces line xs) ds w h = h

-- a lost machine fits each dispatcher
lost_at : (P : Program) (fuel : ℕ) (k : Knows) (work : LentWork) (t : Task) → work ≡ Lost → FitsAt P fuel k work t
lost_at P fuel k work t e = subst (λ w. FitsAt P fuel k w t) (sym e) tt

-- ---- steps

module _ (P : Program) (k : Knows) (work : LentWork) (t : Task) (w : IsWorking work) (f : FitsAt P t.fuel k work t) where
  abbrev here : IsAt P t.fuel k work t
  here = fits_at P t.fuel k work t w f

  pub program_is : P ≡ k.program
  program_is = sym here.fits.program

  pub fitting : Fitting k (work_of work t.now) (progress_of t)
  fitting = subst (λ Q. FitsWith (job_with Q t.fuel k) k (work_of work t.now) (progress_of t)) (sym here.fits.program) here.fits

  pub settled_is : IsSettled work t.now
  settled_is = here.settled

  module _ (k' : Knows) (work' : LentWork) (t' : Task) (s : LentSteps k (work_of work t.now) t k' work' t') where
    pub step_fits : FitsAt P t'.fuel k' work' t'
    step_fits =
        let g = s.steps.fits in
        let same : job_of k t.fuel ≡ job_with P t'.fuel k' = λ i. record { program = sym program_is i; start = sym g.start i; places = sym g.places i; fuel = sym g.fuel_is i } in
        at_fits P t'.fuel k' work' t' (record { fits = subst (λ j. FitsWith j k' (work_of work' t'.now) (progress_of t')) same g; knows = s.knows here.knows; settled = s.settled })

    pub step_fuel : t'.fuel ≡ t.fuel
    step_fuel = s.steps.fits.fuel_is

    pub step_turns : turns_left P t'.fuel t'.calls (work_of work' t'.now) (now_of t'.now) < turns_left P t.fuel t.calls (work_of work t.now) (now_of t.now)
    step_turns = rw (step_fuel, program_is) s.steps.lighter

    pub step_tells : Tells (job_with P t.fuel k) k t.trace k' t'.trace
    step_tells = subst (λ Q. Tells (job_with Q t.fuel k) k t.trace k' t'.trace) (sym program_is) s.steps.tells

    pub step_kept : work' ≡ Lost → ⊥
    step_kept e =
        let g = s.steps.fits in
        let lost : work_of work' t'.now ≡ W.Lost = ap (λ u. work_of u t'.now) e in
        never_lost k.program g.valid.views (now_of t'.now) (subst (λ u. IsGoodPoint k.program g.valid.views (u, now_of t'.now)) lost g.good)

    pub step_knows : KnowsTasks k.start t.trace t'.trace T.Again
    step_knows =
        let after = s.knows here.knows in
        record { waits = λ task e. absurd (cc); fetches = subst (λ start. AreFetchesKnown start t'.trace) s.steps.fits.start after.fetches }

  -- a machine that waits fits again, and knows the task that it waits for
  pub waits_known : (k' : Knows) (task : ℕ) (t' : Task) → LentWaits k (work_of work t.now) t k' task t' → KnowsTasks k.start t.trace t'.trace (T.NeedFetch task)
  waits_known k' task t' s = record {
    waits = λ other e. let same : task ≡ other = cc in subst (IsKnown k.start t.trace) same (s.known here.knows);
    fetches = subst (λ u. AreFetchesKnown k.start u.trace) (sym s.same) here.knows.fetches;
  }

  pub waits_fit : (k' : Knows) (task : ℕ) (t' : Task) → LentWaits k (work_of work t.now) t k' task t' → FitsAt P t'.fuel k' work t'
  waits_fit k' task t' s =
      let g = s.waits.fits in
      let same : job_of k t.fuel ≡ job_with P t.fuel k' = λ i. record { program = sym program_is i; start = sym g.start i; places = sym g.places i; fuel = t.fuel } in
      subst (λ u. FitsAt P u.fuel k' work u) (sym s.same)
      (at_fits P t.fuel k' work t (record { fits = subst (λ j. FitsWith j k' (work_of work t.now) (progress_of t)) same g; knows = s.knows here.knows; settled = here.settled }))

-- a machine that has ended fetched tasks alone that it knew
pub ended_known : (P : Program) (fuel : ℕ) (k : Knows) (work : LentWork) (t : Task) → work ≡ Ended → FitsAt P fuel k work t → KnowsTasks k.start t.trace t.trace T.Done
ended_known P fuel k Ended t e f = record { waits = λ task h. absurd (cc); fetches = f.knows.fetches }
ended_known P fuel k Lost t e f = absurd (cc)
ended_known P fuel k (Eval x) t e f = absurd (cc)
ended_known P fuel k Give t e f = absurd (cc)
ended_known P fuel k Leave t e f = absurd (cc)
ended_known P fuel k (Acting x) t e f = absurd (cc)
ended_known P fuel k (Calling g u) t e f = absurd (cc)
ended_known P fuel k (Items fresh xs) t e f = absurd (cc)
ended_known P fuel k (Defining fresh site xs) t e f = absurd (cc)
ended_known P fuel k (Pieces line xs) t e f = absurd (cc)

-- ---- new machines

module _ (j : Job) (k : Knows) (w : Work) (n : Now) where
  -- a task that has done nothing yet, at a point from which the rules finish as the whole run does
  fresh_at : (t : Progress) → IsValid j.program → k.program ≡ j.program → k.start ≡ j.start → k.places ≡ j.places → IsFresh k → t.fuel ≡ j.fuel → t.trace ≡ [] → t.calls ≡ 0 → t.now ≡ n
      → ((x : Over) (rest : List TraceItem) (e : Ending) → FinishesTo j x (w, n) 0 [] rest e → RunsTo j x rest e) → ((x : Over) (rest : List TraceItem) (e : Ending) → RunsTo j x rest e → FinishesTo j x (w, n) 0 [] rest e)
      → IsWithin k.world (w, n) → (v : IsValid j.program) → IsGoodPoint j.program v.views (w, n) → FitsWith j k w t
  fresh_at t valid program start places f fuel trace calls now up down worlds v good = record {
    program = program;
    start = start;
    places = places;
    fuel_is = fuel;
    valid = v;
    runs = λ x a rest e. (
      λ h. subst (λ (q : (Now × ℕ) × List Start). FinishesTo j x (w, q.0.0) q.0.1 q.1 rest e) (sym (λ i. ((now i, calls i), f.starts i)))
          (down x rest e (subst (λ (is : List TraceItem). RunsTo j x (is ++ rest) e) trace h)),
      λ h. subst (λ (is : List TraceItem). RunsTo j x (is ++ rest) e) (sym trace)
          (up x rest e (subst (λ (q : (Now × ℕ) × List Start). FinishesTo j x (w, q.0.0) q.0.1 q.1 rest e) (λ i. ((now i, calls i), f.starts i)) h)),
    );
    learnt = rw trace tt;
    order = rw trace f.begun;
    looks = rw trace (sym f.looks);
    own = rw trace (sym f.own);
    worlds = subst (λ m. IsWithin k.world (w, m)) (sym now) worlds;
    good = subst (λ m. IsGoodPoint j.program v.views (w, m)) (sym now) good;
  }

-- the same, of a machine
new_at : (P : Program) (fuel : ℕ) (k : Knows) (w : Work) (n : Now) (m : Machine) → IsNewAt (all_types P) w n fuel m → ((t : Progress) → t.fuel ≡ fuel → t.trace ≡ [] → t.calls ≡ 0 → t.now ≡ n → FitsWith (job_with P fuel k) k w t)
    → IsFresh k → PointMentions (IsKnown k.start []) (w, n) → MachineFits P fuel k m
new_at P fuel k w n m new fits f mentions = record {
  task = at_fits P fuel k m.work m.task (record {
    fits = subst (λ u. FitsWith (job_with P fuel k) k u (progress_of m.task)) (sym new.work) (fits (progress_of m.task) new.fuel new.trace new.calls new.now);
    knows = record {
      fetches = rw new.trace tt;
      spawns = rw f.starts tt;
      point = rw new.trace (subst (PointMentions (IsKnown k.start [])) (λ i. (sym new.work i, sym new.now i)) mentions);
    };
    settled = new.settled;
  });
  types = types_at P m.work m.memo new.types;
}

pub root_law : (k : Knows) → RootFits k
root_law k P fuel m valid program start f new =
    new_at P fuel k (W.Items false P.top V.Nothing) (first_now FIRST_WORLD [] []) m new
    (λ t fuel_is trace calls now. root_fits t fuel_is trace calls now) f
    (record { env = tt; stack = tt; work = nothing_mentions (IsKnown k.start []) })
  where
    j : Job
    j = record { program = P; start = None; places = k.places; fuel = fuel }

    root_fits : (t : Progress) → t.fuel ≡ fuel → t.trace ≡ [] → t.calls ≡ 0 → t.now ≡ first_now FIRST_WORLD [] [] → FitsWith (job_with P fuel k) k (W.Items false P.top V.Nothing) t
    root_fits t fuel_is trace calls now =
        subst (λ s. FitsWith (record { program = P; start = s; places = k.places; fuel = fuel }) k (W.Items false P.top V.Nothing) t) (sym start)
        (fresh_at (record { program = P; start = None; places = k.places; fuel = fuel }) k (W.Items false P.top V.Nothing) (first_now FIRST_WORLD [] []) t valid (sym program) start refl f fuel_is trace calls now
        (λ x rest e h. record { ran = h }) (λ x rest e h. h.ran)
        (record { world = (omega arith, f.world); waiting = tt; called = tt }) valid (root_good P valid (first_now FIRST_WORLD [] []) refl refl refl))

pub task_law : (k : Knows) → TaskFits k
task_law k P start fuel m valid sv program is world f new =
    new_at P fuel k (W.Eval new.expr) (first_now start.world (map value_of start.env) start.bindings) m new.new
    (λ t fuel_is trace calls now. task_fits t fuel_is trace calls now) f
    (record { env = subst (λ s. AllMention (IsKnown s []) (map value_of start.env)) (sym is) (begins_known start); stack = tt; work = tt })
  where
    task_fits : (t : Progress) → t.fuel ≡ fuel → t.trace ≡ [] → t.calls ≡ 0 → t.now ≡ first_now start.world (map value_of start.env) start.bindings → FitsWith (job_with P fuel k) k (W.Eval new.expr) t
    task_fits t fuel_is trace calls now =
        subst (λ s. FitsWith (record { program = P; start = s; places = k.places; fuel = fuel }) k (W.Eval new.expr) t) (sym is)
        (fresh_at (record { program = P; start = Some start; places = k.places; fuel = fuel }) k (W.Eval new.expr) (first_now start.world (map value_of start.env) start.bindings) t valid (sym program) is refl f fuel_is trace calls now
        (λ x rest e h. record { ran = rw new.there h }) (λ x rest e h. rw new.there at h.ran)
        (record { world = world; waiting = tt; called = tt }) valid
        (task_good P valid start new.expr (first_now start.world (map value_of start.env) start.bindings) sv new.there refl refl refl))

-- the turns that a new machine has left
new_turns : (P : Program) (w : Work) (n : Now) (fuel : ℕ) (m : Machine) → IsNewAt (all_types P) w n fuel m → turns_of P m ≡ turns_left P fuel 0 w n
new_turns P w n fuel m new = λ i. turns_left P (new.fuel i) (new.calls i) (new.work i) (new.now i)

pub root_turns : (P : Program) (fuel : ℕ) (m : Machine) → IsNewRoot P fuel m → turns_of P m ≤ 4 * (fuel + 1) * (program_size P + 1)
root_turns P fuel m new =
    let n = first_now FIRST_WORLD [] [] in
    subst (λ k. k ≤ 4 * (fuel + 1) * (program_size P + 1)) (sym (new_turns P (W.Items false P.top V.Nothing) n fuel m new)) (root_few P fuel V.Nothing n refl)

pub task_turns : (P : Program) (start : Start) (fuel : ℕ) (m : Machine) → IsNewTask P start fuel m → turns_of P m ≤ 4 * (fuel + 1) * (program_size P + 1)
task_turns P start fuel m new =
    let n = first_now start.world (map value_of start.env) start.bindings in
    subst (λ k. k ≤ 4 * (fuel + 1) * (program_size P + 1)) (sym (new_turns P (W.Eval new.expr) n fuel m new.new)) (task_few P fuel start.spawn new.expr n new.there refl)

-- ---- the other laws

pub lost_law : (k : Knows) → LostFits k
lost_law k P fuel m lost = record { task = lost_at P fuel k m.work m.task lost; types = subst (λ w. TypesAt P w m.memo) (sym lost) tt }

-- the job of one dispatcher is that of another that knows more
grown_job : (P : Program) (fuel : ℕ) (k k' : Knows) → Refused k k' → job_with P fuel k ≡ job_with P fuel k'
grown_job P fuel k k' r = λ i. record { program = P; start = sym r.grew.start i; places = sym r.grew.places i; fuel = fuel }

grown_at : (P : Program) (fuel : ℕ) (k k' : Knows) (work : LentWork) (t : Task) → Refused k k' → IsAt P fuel k work t → IsAt P fuel k' work t
grown_at P fuel k k' work t r f = record {
  fits = subst (λ j. FitsWith j k' (work_of work t.now) (progress_of t)) (grown_job P fuel k k' r) (grown (job_with P fuel k) k k' (work_of work t.now) (progress_of t) r f.fits);
  knows = knows_on k k' r.grew.start (work_of work t.now) (work_of work t.now) (progress_of t) (progress_of t) r.starts refl (λ K m. m) f.knows;
  settled = f.settled;
}

grown_fits : (P : Program) (fuel : ℕ) (k k' : Knows) (work : LentWork) (t : Task) → Refused k k' → FitsAt P fuel k work t → FitsAt P fuel k' work t
grown_fits P fuel k k' Lost t r f = tt
grown_fits P fuel k k' Ended t r f = grown_at P fuel k k' Ended t r f
grown_fits P fuel k k' (Eval x) t r f = grown_at P fuel k k' (Eval x) t r f
grown_fits P fuel k k' Give t r f = grown_at P fuel k k' Give t r f
grown_fits P fuel k k' Leave t r f = grown_at P fuel k k' Leave t r f
grown_fits P fuel k k' (Acting x) t r f = grown_at P fuel k k' (Acting x) t r f
grown_fits P fuel k k' (Calling g u) t r f = grown_at P fuel k k' (Calling g u) t r f
grown_fits P fuel k k' (Items fresh xs) t r f = grown_at P fuel k k' (Items fresh xs) t r f
grown_fits P fuel k k' (Defining fresh site xs) t r f = grown_at P fuel k k' (Defining fresh site xs) t r f
grown_fits P fuel k k' (Pieces line xs) t r f = grown_at P fuel k k' (Pieces line xs) t r f

pub grown_law : (k k' : Knows) → GrownFits k k'
grown_law k k' r P fuel m f = record { task = grown_fits P fuel k k' m.work m.task r f.task; types = f.types }

-- ---- the end

ran_task : (j : Job) (k : Knows) (t : Progress) (o : Outcome) → FitsWith j k (W.Ended o) t → IsKnowing k (W.Ended o) t → (r : Record) → t.trace ≡ r.trace → o ≡ r.outcome → t.now.out ≡ r.output → t.calls ≡ r.calls → IsRunOf j k r
ran_task j k t o f g r trace outcome out calls = record {
  program = f.program;
  start = f.start;
  places = f.places;
  runs = λ es a.
      let x : Over = record { events = es; until = None } in
      let e : Ending = record { outcome = o; output = t.now.out; calls = t.calls; starts = k.starts } in
      let ran = (f.runs x a [] e).1 (record { is = refl; whole = refl; printed = refl; counted_calls = refl; spawned_tasks = refl }) in
      let whole = subst (λ (is : List TraceItem). RunsTo j x is e) (append_nil t.trace) ran in
      subst (λ n. Run (setting_of j.program es j.places j.fuel) j.start r.trace r.outcome r.output n k.starts) calls
      (subst (λ text. Run (setting_of j.program es j.places j.fuel) j.start r.trace r.outcome text t.calls k.starts) out
      (subst (λ p. Run (setting_of j.program es j.places j.fuel) j.start r.trace p t.now.out t.calls k.starts) outcome
      (subst (λ is. Run (setting_of j.program es j.places j.fuel) j.start is o t.now.out t.calls k.starts) trace whole)));
  only = λ es a rest outcome2 output made starts h.
      let x : Over = record { events = es; until = None } in
      let e : Ending = record { outcome = outcome2; output = output; calls = made; starts = starts } in
      let end = (f.runs x a rest e).0 (subst (λ (is : List TraceItem). RunsTo j x (is ++ rest) e) (sym trace) h) in
      (end.whole, sym end.is ∙ outcome, sym end.printed ∙ out, sym end.counted_calls ∙ calls, sym end.spawned_tasks);
  learnt = rw (← trace) f.learnt;
  order = rw (← trace) f.order;
  looks = rw (← trace) f.looks;
  own = rw (← trace) f.own;
  tasks = rw (← trace, ← outcome) (record { fetches = g.fetches; spawns = g.spawns; ends = g.point.work });
}

ended_work : (P : Program) (fuel : ℕ) (k : Knows) (work : LentWork) (t : Task) (o : Outcome) → work_of work t.now ≡ W.Ended o → FitsAt P fuel k work t
    → FitsWith (job_with P fuel k) k (W.Ended o) (progress_of t) × IsKnowing k (W.Ended o) (progress_of t)
ended_work P fuel k Ended t o e f = (subst (λ u. FitsWith (job_with P fuel k) k u (progress_of t)) e f.fits, subst (λ u. IsKnowing k u (progress_of t)) e f.knows)
ended_work P fuel k Lost t o e f = absurd (cc)
ended_work P fuel k (Eval x) t o e f = absurd (cc)
ended_work P fuel k Give t o e f = absurd (cc)
ended_work P fuel k Leave t o e f = absurd (cc)
ended_work P fuel k (Acting x) t o e f = absurd (cc)
ended_work P fuel k (Calling g u) t o e f = absurd (cc)
ended_work P fuel k (Items fresh xs) t o e f = absurd (cc)
ended_work P fuel k (Defining fresh site xs) t o e f = absurd (cc)
ended_work P fuel k (Pieces line xs) t o e f = absurd (cc)

pub ended_law : (k : Knows) → EndedRuns k
ended_law k P fuel m r f h =
    let (fits, knows) = ended_work P fuel k m.work m.task r.outcome h.work f.task in
    ran_task (job_with P fuel k) k (progress_of m.task) r.outcome fits knows r h.trace refl h.out h.calls

pub record_ok : (r : Result Record AllocError) (P : Program) (fuel : ℕ) (k : Knows) (m : Machine) → MachineFits P fuel k m → IfOk r (λ x. HasEnded x m) → IfOk r (λ x. IsRunOf (job_with P fuel k) k x)
record_ok (Ok x) P fuel k m f h = ended_law k P fuel m x f h
record_ok (Err e) P fuel k m f h = tt

-- a task from a start, as the code makes it
values_back : (vs : List Value) → map value_of (map datum vs) ≡ vs
values_back [] = refl
values_back (v ∷ vs) = λ i. value_back v i ∷ values_back vs i

pub new_task_is : (P : Program) (start : Start) (fuel : ℕ) (vs : List Value) (frames : Held) (work : LentWork) (t : Task) (e : Expr) → slice_get P.spawns start.spawn ≡ Some e → map datum vs ≡ start.env → frames ≡ starts (with_open nothing_held vs) start.bindings
    → IsFirst fuel start.world frames t → work_of work t.now ≡ W.Eval e → IsSettled work t.now → (ds : List Decl) → ds ≡ all_types P → IsNewTask P start fuel (record { task = t; work = work; memo = ds })
new_task_is P start fuel vs frames work t e there values held first is settled ds types =
    let env : map value_of start.env ≡ vs = ap (map value_of) (sym values) ∙ values_back vs in
    let fr : t.now.frames ≡ starts (with_open nothing_held vs) start.bindings = first.frames_are ∙ held in
    record {
      expr = e;
      there = there;
      new = record {
        work = is;
        now = λ i. record { world = first.world i; room = first.room i; env = ((λ j. (fr j).env) ∙ sym env) i; bindings = (fr i).bindings; stack = (fr i).stack; out = first.out i };
        fuel = first.fuel;
        trace = first.trace;
        calls = first.calls;
        settled = settled;
        types = types;
      };
    }

-- what stands at a place of a list
pub there_is : {X : Type 0} (xs : List X) (i : ℕ) (x : X) → i < length xs → x ≡ get_or xs i x → slice_get xs i ≡ Some x
there_is [] i x lt e = absurd (omega (arith, lt))
there_is (y ∷ ys) zero x lt e = ap Some (sym e)
there_is (y ∷ ys) (suc i) x lt e = there_is ys i x (omega (arith, lt)) e
