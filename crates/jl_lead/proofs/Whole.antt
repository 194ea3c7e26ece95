-- Whole answers of a dispatcher that leads a task, by the way that the code went.
use Rattle.std.proofs.Common.{◌≡◌, ◌∙◌, ap, sym, subst, refl, ℕ, ◌+◌, ◌<◌, ◌≤◌, arith, Bool, true, false, List, [], ◌∷◌, ◌++◌, length-append, drop, length, Some, None, Result, Ok, Err, OnOk, OnErr}
use Rattle.jl_program.specs.declared.tree.Program.{Program}
use Rattle.jl_program.specs.declared.tree.Start.{Start}
use Rattle.jl_program.specs.declared.value.Value.TheVariants as V
use Rattle.jl_calculus.specs.declared.history.DefineFault.TheVariants as D
use Rattle.jl_calculus.specs.declared.history.DeleteFault.TheVariants as X
use Rattle.jl_calculus.specs.declared.history.Event.{Event}
use Rattle.jl_calculus.specs.declared.history.Event.TheVariants as Ev
use Rattle.jl_calculus.specs.declared.history.FetchFault.TheVariants as F
use Rattle.jl_calculus.specs.declared.history.Outcome.{Outcome}
use Rattle.jl_calculus.specs.declared.history.Outcome.TheVariants as O
use Rattle.jl_calculus.specs.declared.history.Record.{Record}
use Rattle.jl_calculus.specs.declared.history.SpawnFault.TheVariants as S
use Rattle.jl_calculus.specs.declared.history.TraceItem.{TraceItem}
use Rattle.jl_calculus.specs.declared.history.TraceItem.TheVariants.{Fetch}
use Rattle.jl_calculus.specs.Past.{EndedSo, done_of, tasks_of}
use Rattle.jl_calculus.specs.ValidHistory.{IsValidOutcome}
use Rattle.jl_calculus.specs.World.{world_of}
use Rattle.jl_task.proofs.ValueTypes.{nothing_valid}
use Rattle.jl_task.specs.Knows.{Knows}
use Rattle.jl_lead.specs.Answers.{AnswersDefinition, AnswersDeletion, AnswersSpawn, AnswersFetch}
use Rattle.jl_lead.specs.Items.{next_item, world_full_of, task_full_of, absent_of, is_absence, IsNoFetch}
use Rattle.jl_lead.specs.Known.{AreSound}
use Rattle.jl_lead.specs.Leads.{led_knows, IsPlaced}
use Rattle.jl_lead.specs.Stretch.{IsLeft}
use Rattle.jl_lead.proofs.Answering as A
use Rattle.jl_lead.proofs.EventFacts.{tasks_append}
use Rattle.jl_lead.proofs.KnownFacts.{ended_valid}

-- ---- where a task stands

pub placed_on : (es : List Event) (task seen p : ℕ) → IsPlaced es task seen → p ≤ length es → IsPlaced es task p
placed_on es task seen p h le = record { started = h.started; seen_some = le }

pub placed_same : (v u : Program × List Event) (task seen : ℕ) → v ≡ u → IsPlaced u.1 task seen → IsPlaced v.1 task seen
placed_same v u task seen e h = subst (λ (z : Program × List Event). IsPlaced z.1 task seen) (sym e) h

pub left_same : (v u : Program × List Event) (alone : Bool) (seen : ℕ) (is : List TraceItem) → v ≡ u → IsLeft u.0 alone u.1 seen is → IsLeft v.0 alone v.1 seen is
left_same v u alone seen is e h = subst (λ (z : Program × List Event). IsLeft z.0 alone z.1 seen is) (sym e) h

pub some_tasks : (es : List Event) → 1 ≤ tasks_of es
some_tasks [] = omega arith
some_tasks (Ev.Spawn by child start ∷ es) = omega arith
some_tasks (Ev.Begin fuel ∷ es) = some_tasks es
some_tasks (Ev.Key key ∷ es) = some_tasks es
some_tasks (Ev.Fill key site first ∷ es) = some_tasks es
some_tasks (Ev.Def by site ∷ es) = some_tasks es
some_tasks (Ev.Del by place ∷ es) = some_tasks es
some_tasks (Ev.Done by ended ∷ es) = some_tasks es

-- after one more event
pub placed_more : (P : Program) (es : List Event) (e : Event) (task seen n : ℕ) (v : Program × List Event) → IsPlaced es task seen → v ≡ (P, es ++ e ∷ []) → n ≡ length v.1 → IsPlaced v.1 task n
placed_more P es e task seen n v h q len = subst (λ (z : Program × List Event). IsPlaced z.1 task n) (sym q) (record { started = more; seen_some = all })
  where
    more : task < tasks_of (es ++ e ∷ [])
    more = let a = tasks_append es (e ∷ []) in let b = some_tasks (e ∷ []) in let t = h.started in omega (arith, a, b, t)

    all : n ≤ length (es ++ e ∷ [])
    all = let l : n ≡ length (es ++ e ∷ []) = len ∙ ap (λ (u : Program × List Event). length u.1) q in omega (arith, l)

-- or where it may be refused
pub placed_after : {X E : Type 0} (r : Result X E) (u v : Program × List Event) (e : Event) (task seen : ℕ) → OnOk r (v ≡ (u.0, u.1 ++ e ∷ [])) → OnErr r (v ≡ u) → IsPlaced u.1 task seen → IsPlaced v.1 task seen
placed_after (Ok x) u v e task seen added refused h = subst (λ (z : Program × List Event). IsPlaced z.1 task seen) (sym added) (record { started = more; seen_some = all })
  where
    more : task < tasks_of (u.1 ++ e ∷ [])
    more = let a = tasks_append u.1 (e ∷ []) in let b = some_tasks (e ∷ []) in let t = h.started in omega (arith, a, b, t)

    all : seen ≤ length (u.1 ++ e ∷ [])
    all = let l = length-append u.1 (e ∷ []) in let s = h.seen_some in omega (arith, l, s)
placed_after (Err x) u v e task seen added refused h = placed_same v u task seen refused h

module _ (P : Program) (es : List Event) (task : ℕ) (items : List TraceItem) (told seen looks : ℕ) (alone : Bool) where
  abbrev left : List TraceItem
  left = drop told items

  abbrev here : Knows
  here = led_knows P es task items told seen looks alone

  -- what the code has after an event is what was said
  moved_to : (Q : Knows → Type 0) (xs : List Event) (v : Program × List Event) (n : ℕ) → v ≡ (P, xs) → n ≡ length v.1 → Q (led_knows P xs task items told (length xs) looks true) → Q (led_knows v.0 v.1 task items told n looks true)
  moved_to Q xs v n e len h =
      subst (λ (z : (Program × List Event) × ℕ). Q (led_knows z.0.0 z.0.1 task items told z.1 looks true))
      (λ i. (sym e i, sym (len ∙ ap (λ (u : Program × List Event). length u.1) e) i)) h

  -- ---- a definition

  pub definition_told : (site p : ℕ) → world_full_of (next_item alone items told) ≡ Some p → IsLeft P alone es seen left → AnswersDefinition here (led_knows P es task items (told + 1) p looks alone) site (Err D.WorldLimit)
  definition_told site p h l = record {
    grew = A.world_full_grew P es task items told seen looks alone p h l;
    defined = tt;
    world = tt;
    refused = A.world_full_refused P es task items told seen looks alone p h l;
    full = λ e. A.world_full_told P es task items told seen looks alone p h l;
    limit = λ f. refl;
  }

  pub definition_full : (site n : ℕ) → world_full_of (next_item alone items told) ≡ None → is_absence (next_item alone items told) ≡ false → IsLeft P alone es seen left → seen ≤ length es → n ≡ length es → world_of es ≡ 65535
      → AnswersDefinition here (led_knows P es task items told n looks true) site (Err D.WorldLimit)
  definition_full site n h k l le len last = record {
    grew = A.world_off_grew P es task items told seen looks alone n h k l le len last;
    defined = tt;
    world = tt;
    refused = A.world_off_refused P es task items told seen looks alone n h k l le len last;
    full = λ e. A.world_off_told P es task items told seen looks alone n h k l le len last;
    limit = λ f. refl;
  }

  pub definition_lost : (site : ℕ) (v : Program × List Event) → v ≡ (P, es) → IsLeft P alone es seen left → (world_of es ≡ 65535 → is_absence (next_item alone items told) ≡ true) → AnswersDefinition here (led_knows v.0 v.1 task items told seen looks alone) site (Err D.Memory)
  definition_lost site v e l room = subst (λ (z : Program × List Event). AnswersDefinition here (led_knows z.0 z.1 task items told seen looks alone) site (Err D.Memory)) (sym e) (record {
    grew = A.same_grew P es task items told seen looks alone;
    defined = tt;
    world = tt;
    refused = A.same_refused P es task items told seen looks alone;
    full = λ q. absurd (cc (q));
    limit = λ f. absurd (A.not_full P es task items told seen looks alone l room f);
  })

  pub definition_made : (site w n : ℕ) (v : Program × List Event) → alone ≡ false → world_full_of (next_item alone items told) ≡ None → IsLeft P alone es seen left → seen ≤ length es → (world_of es ≡ 65535 → is_absence (next_item alone items told) ≡ true)
      → v ≡ (P, es ++ Ev.Def task site ∷ []) → n ≡ length v.1 → w ≡ world_of v.1 → AnswersDefinition here (led_knows v.0 v.1 task items told n looks true) site (Ok w)
  definition_made site w n v off h l le room e len world =
      moved_to (λ k. AnswersDefinition here k site (Ok w)) (es ++ Ev.Def task site ∷ []) v n e len (record {
        grew = A.define_grew P es task items told seen looks alone site off h l le;
        defined = A.define_made P es task items told seen looks alone site off h l le;
        world = A.define_world P es task items told seen looks alone site off h l le w (world ∙ ap (λ (u : Program × List Event). world_of u.1) e);
        refused = tt;
        full = λ q. absurd (cc (q));
        limit = λ f. absurd (A.not_full P es task items told seen looks alone l room f);
      })

  -- ---- a deletion

  pub deletion_told : (place p : ℕ) → world_full_of (next_item alone items told) ≡ Some p → IsLeft P alone es seen left → AnswersDeletion here (led_knows P es task items (told + 1) p looks alone) place (Err X.WorldLimit)
  deletion_told place p h l = record {
    grew = A.world_full_grew P es task items told seen looks alone p h l;
    deleted = tt;
    world = tt;
    refused = A.world_full_refused P es task items told seen looks alone p h l;
    absent = λ q. absurd (cc (q));
    full = λ e. A.world_full_told P es task items told seen looks alone p h l;
    limit = λ f. refl;
  }

  pub deletion_full : (place n : ℕ) → world_full_of (next_item alone items told) ≡ None → is_absence (next_item alone items told) ≡ false → IsLeft P alone es seen left → seen ≤ length es → n ≡ length es → world_of es ≡ 65535
      → AnswersDeletion here (led_knows P es task items told n looks true) place (Err X.WorldLimit)
  deletion_full place n h k l le len last = record {
    grew = A.world_off_grew P es task items told seen looks alone n h k l le len last;
    deleted = tt;
    world = tt;
    refused = A.world_off_refused P es task items told seen looks alone n h k l le len last;
    absent = λ q. absurd (cc (q));
    full = λ e. A.world_off_told P es task items told seen looks alone n h k l le len last;
    limit = λ f. refl;
  }

  pub deletion_lost : (place : ℕ) (v : Program × List Event) → v ≡ (P, es) → IsLeft P alone es seen left → (world_of es ≡ 65535 → is_absence (next_item alone items told) ≡ true) → AnswersDeletion here (led_knows v.0 v.1 task items told seen looks alone) place (Err X.Memory)
  deletion_lost place v e l room = subst (λ (z : Program × List Event). AnswersDeletion here (led_knows z.0 z.1 task items told seen looks alone) place (Err X.Memory)) (sym e) (record {
    grew = A.same_grew P es task items told seen looks alone;
    deleted = tt;
    world = tt;
    refused = A.same_refused P es task items told seen looks alone;
    absent = λ q. absurd (cc (q));
    full = λ q. absurd (cc (q));
    limit = λ f. absurd (A.not_full P es task items told seen looks alone l room f);
  })

  pub deletion_absent : (place p : ℕ) → absent_of place (next_item alone items told) ≡ Some p → IsLeft P alone es seen left → AnswersDeletion here (led_knows P es task items (told + 1) p looks alone) place (Err X.NoSuchMethod)
  deletion_absent place p h l = record {
    grew = A.absent_grew P es task items told seen looks alone place p h l;
    deleted = tt;
    world = tt;
    refused = A.absent_refused P es task items told seen looks alone place p h l;
    absent = λ e. A.absent_told P es task items told seen looks alone place p h l;
    full = λ q. absurd (cc (q));
    limit = λ f. absurd (A.not_full_there P es task items told seen looks alone place p h l f);
  }

  pub deletion_made : (place w n : ℕ) (v : Program × List Event) → alone ≡ false → world_full_of (next_item alone items told) ≡ None → absent_of place (next_item alone items told) ≡ None → IsLeft P alone es seen left → seen ≤ length es
      → (world_of es ≡ 65535 → is_absence (next_item alone items told) ≡ true) → v ≡ (P, es ++ Ev.Del task place ∷ []) → n ≡ length v.1 → w ≡ world_of v.1 → AnswersDeletion here (led_knows v.0 v.1 task items told n looks true) place (Ok w)
  deletion_made place w n v off h k l le room e len world =
      moved_to (λ k. AnswersDeletion here k place (Ok w)) (es ++ Ev.Del task place ∷ []) v n e len (record {
        grew = A.delete_grew P es task items told seen looks alone place off h k l le;
        deleted = A.delete_made P es task items told seen looks alone place off h k l le;
        world = A.delete_world P es task items told seen looks alone place off h k l le w (world ∙ ap (λ (u : Program × List Event). world_of u.1) e);
        refused = tt;
        absent = λ q. absurd (cc (q));
        full = λ q. absurd (cc (q));
        limit = λ f. absurd (A.not_full P es task items told seen looks alone l room f);
      })

  -- ---- a spawn

  pub spawn_told : (start : Start) (p : ℕ) → task_full_of (next_item alone items told) ≡ Some p → IsLeft P alone es seen left → AnswersSpawn here (led_knows P es task items (told + 1) p looks alone) start (Err S.TaskLimit)
  spawn_told start p h l = record {
    grew = A.task_full_grew P es task items told seen looks alone p h l;
    spawned = tt;
    refused = A.task_full_refused P es task items told seen looks alone p h l;
    full = λ e. A.task_full_told P es task items told seen looks alone p h l;
    limit = λ f. refl;
  }

  pub spawn_full : (start : Start) (n : ℕ) → task_full_of (next_item alone items told) ≡ None → IsLeft P alone es seen left → seen ≤ length es → n ≡ length es → tasks_of es ≡ 4096
      → AnswersSpawn here (led_knows P es task items told n looks true) start (Err S.TaskLimit)
  spawn_full start n h l le len last = record {
    grew = A.tasks_off_grew P es task items told seen looks alone n h l le len last;
    spawned = tt;
    refused = A.tasks_off_refused P es task items told seen looks alone n h l le len last;
    full = λ e. A.tasks_off_told P es task items told seen looks alone n h l le len last;
    limit = λ f. refl;
  }

  pub spawn_lost : (start : Start) (v : Program × List Event) → v ≡ (P, es) → tasks_of es < 4096 → AnswersSpawn here (led_knows v.0 v.1 task items told seen looks alone) start (Err S.Memory)
  spawn_lost start v e room = subst (λ (z : Program × List Event). AnswersSpawn here (led_knows z.0 z.1 task items told seen looks alone) start (Err S.Memory)) (sym e) (record {
    grew = A.same_grew P es task items told seen looks alone;
    spawned = tt;
    refused = A.same_refused P es task items told seen looks alone;
    full = λ q. absurd (cc (q));
    limit = λ f. absurd (A.tasks_not_full P es task items told seen looks alone room f);
  })

  pub spawn_made : (start : Start) (child n : ℕ) (v : Program × List Event) → task < tasks_of es → alone ≡ false → task_full_of (next_item alone items told) ≡ None → IsLeft P alone es seen left → seen ≤ length es
      → tasks_of es < 4096 → v ≡ (P, es ++ Ev.Spawn task (tasks_of es) start ∷ []) → n ≡ length v.1 → child ≡ tasks_of es → AnswersSpawn here (led_knows v.0 v.1 task items told n looks true) start (Ok child)
  spawn_made start child n v started off h l le room e len number =
      moved_to (λ k. AnswersSpawn here k start (Ok child)) (es ++ Ev.Spawn task (tasks_of es) start ∷ []) v n e len
      (subst (λ c. AnswersSpawn here (led_knows P (es ++ Ev.Spawn task (tasks_of es) start ∷ []) task items told (length (es ++ Ev.Spawn task (tasks_of es) start ∷ [])) looks true) start (Ok c)) (sym number) (record {
        grew = A.spawn_grew P es task items told seen looks alone start started off h l le;
        spawned = A.spawn_made P es task items told seen looks alone start started off h l le;
        refused = tt;
        full = λ q. absurd (cc (q));
        limit = λ f. absurd (A.tasks_not_full P es task items told seen looks alone room f);
      }))

  -- ---- a fetch

  pub fetch_told : (of : ℕ) (outcome : Outcome) (p : ℕ) → next_item alone items told ≡ Some (Fetch of outcome p) → IsLeft P alone es seen left → AreSound P es
      → AnswersFetch here (led_knows P es task items (told + 1) p looks alone) of (Ok outcome)
  fetch_told of outcome p h l sound = record {
    grew = A.fetch_grew P es task items told seen looks alone of outcome p h l;
    fetched = A.fetch_told P es task items told seen looks alone of outcome p h l;
    valid = ended_valid P es sound of p outcome (A.fetch_ended P es task items told seen looks alone of outcome p h l);
    refused = tt;
    never = λ q. cc (q);
  }

  pub fetch_ended : (of n : ℕ) (outcome : Outcome) → IsNoFetch (next_item alone items told) of → seen ≤ length es → n ≡ length es → EndedSo (done_of of es) outcome → IsValidOutcome P outcome
      → AnswersFetch here (led_knows P es task items told n looks true) of (Ok outcome)
  fetch_ended of n outcome h le len ended valid = record {
    grew = A.ended_off_grew P es task items told seen looks alone of n outcome h le len ended;
    fetched = A.ended_off_told P es task items told seen looks alone of n outcome h le len ended;
    valid = valid;
    refused = tt;
    never = λ q. cc (q);
  }

  pub fetch_lost : (of : ℕ) (v : Program × List Event) → v ≡ (P, es) → AnswersFetch here (led_knows v.0 v.1 task items told seen looks alone) of (Err F.Memory)
  fetch_lost of v e = subst (λ (z : Program × List Event). AnswersFetch here (led_knows z.0 z.1 task items told seen looks alone) of (Err F.Memory)) (sym e) (record {
    grew = A.same_grew P es task items told seen looks alone;
    fetched = tt;
    valid = tt;
    refused = A.asked P es task items told seen looks alone;
    never = λ q. cc (q);
  })

  pub fetch_made : (of n : ℕ) (ended : Record) (outcome : Outcome) (v : Program × List Event) → outcome ≡ ended.outcome → ended.outcome ≡ O.Value V.Nothing → alone ≡ false → IsNoFetch (next_item alone items told) of
      → seen ≤ length es → done_of of es ≡ None → v ≡ (P, es ++ Ev.Done of ended ∷ []) → n ≡ length v.1 → AnswersFetch here (led_knows v.0 v.1 task items told n looks true) of (Ok outcome)
  fetch_made of n ended outcome v same nothing off h le none e len =
      moved_to (λ k. AnswersFetch here k of (Ok outcome)) (es ++ Ev.Done of ended ∷ []) v n e len
      (subst (λ o. AnswersFetch here (led_knows P (es ++ Ev.Done of ended ∷ []) task items told (length (es ++ Ev.Done of ended ∷ [])) looks true) of (Ok o)) (sym same) (record {
        grew = A.end_grew P es task items told seen looks alone of ended off h le none;
        fetched = A.end_fetched P es task items told seen looks alone of ended off h le none;
        valid = subst (IsValidOutcome P) (sym nothing) (nothing_valid P);
        refused = tt;
        never = λ q. cc (q);
      }))
