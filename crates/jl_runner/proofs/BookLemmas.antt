-- What the book's answers leave of what a task knows.
use Rattle.std.proofs.Common.{◌≡◌, ◌∙◌, ap, sym, subst, refl, ℕ, ◌+◌, ◌≤◌, ◌<◌, ◌⊎◌, arith, inl, inr, List, [], ◌∷◌, ◌++◌, length, Some, Result, Ok, Err, IfOk, OnErr}
use Rattle.std.specs.declared.alloc.AllocError.{AllocError}
use Rattle.jl_model.specs.declared.ty.Key.{Key}
use Rattle.jl_program.specs.declared.tree.Start.{Start}
use Rattle.jl_calculus.specs.declared.history.DefineFault.{DefineFault}
use Rattle.jl_calculus.specs.declared.history.DeleteFault.{DeleteFault}
use Rattle.jl_calculus.specs.declared.history.Event.{Event}
use Rattle.jl_calculus.specs.declared.history.Event.TheVariants as Ev
use Rattle.jl_calculus.specs.declared.history.FetchFault.{FetchFault}
use Rattle.jl_calculus.specs.declared.history.Outcome.{Outcome}
use Rattle.jl_calculus.specs.declared.history.SpawnFault.{SpawnFault}
use Rattle.jl_calculus.specs.declared.history.TraceItem.TheVariants.{Fetch}
use Rattle.jl_calculus.specs.Learnt.{IsNamed}
use Rattle.jl_calculus.specs.Legal.{MayStand}
use Rattle.jl_calculus.specs.Past.{IsTrueOf, IsAbsent, tasks_of}
use Rattle.jl_calculus.specs.ValidStart.{IsValidStart}
use Rattle.jl_calculus.specs.World.{world_of, FindsMethod}
use Rattle.jl_task.specs.Worlds.{IsWorld}
use Rattle.jl_runner.proofs.FirstLemmas.{spawned_new}
use Rattle.jl_world.specs.declared.about.About.{About}
use Rattle.jl_world.specs.declared.view.TaskView.{TaskView}
use Rattle.jl_world.specs.Views.{Begins, begun, met, noted}
use Rattle.jl_world.proofs.Bounds.{few_worlds}
use Rattle.jl_world.proofs.Growth.{begins_self, worlds_grow, tasks_append, tasks_some}
use Rattle.jl_task.specs.Knows.{Grew, Refused, Defined, Deleted, IsAbsentNow, Fetched, Spawned, IsFull, AreTasksFull}
use Rattle.jl_rows.specs.declared.plan.RowPlan.{RowPlan}
use Rattle.jl_rows.specs.declared.plan.RowPlan.TheVariants.{NoMethod, Covered, RowsFull, Link}
use Rattle.jl_rows.specs.Plans.{with_row}
use Rattle.jl_book.specs.declared.faults.KeyFault.{KeyFault}
use Rattle.jl_book.specs.declared.resolved.Resolved.{Resolved}
use Rattle.jl_book.specs.Answers.{IsAddedOnce, IsResolved}
use Rattle.jl_book.specs.Passes.{task_in}
use Rattle.jl_runner.specs.declared.known.Knowing.{Knowing}
use Rattle.jl_runner.specs.Knowing.{knows_of, IsKnowing, IsNew}
use Rattle.jl_runner.proofs.KeyLemmas.{named_kept}
use Rattle.jl_runner.proofs.AskLemmas.{seen_as, knowing_more, knowing_met, refused_known, grew_known}
use Rattle.jl_runner.proofs.KnowingLemmas.{grew_own, seen_own, task_own, start_own, defined_so, deleted_so, absent_so, spawned_so, fetched_so, known_full, known_tasks}

-- ---- the history grows

added_grows : (old new : List Event) (key : Key) → IsAddedOnce old key new → Begins old new
added_grows old new key (inl h) = subst (Begins old) (sym h.1) (begins_self old)
added_grows old new key (inr h) = (Ev.Key key ∷ [], h.1)

pub key_grows : (r : Result ℕ KeyFault) (old new : List Event) (key : Key) → IfOk r (λ n. IsAddedOnce old key new) → OnErr r (new ≡ old) → Begins old new
key_grows (Ok n) old new key h e = added_grows old new key h
key_grows (Err x) old new key h e = subst (Begins old) (sym e) (begins_self old)

row_grows : (old : List Event) (number : ℕ) (row : RowPlan) → Begins old (with_row old number row)
row_grows old number NoMethod = begins_self old
row_grows old number Covered = begins_self old
row_grows old number RowsFull = begins_self old
row_grows old number (Link row) = (Ev.Fill number row.site row.first ∷ [], refl)

pub resolved_grows : (r : Result Resolved AllocError) (about : About) (old new : List Event) (number w : ℕ) → IfOk r (λ x. IsResolved about old number w x new) → OnErr r (new ≡ old) → Begins old new
resolved_grows (Ok x) about old new number w h e = subst (Begins old) (sym h.added) (row_grows old number h.plan.row)
resolved_grows (Err x) about old new number w h e = subst (Begins old) (sym e) (begins_self old)

-- ---- keys

pub knowing_same : (v : TaskView) (old new : List (Key × ℕ)) (first : ℕ) → new ≡ old → IsKnowing v old first → IsKnowing v new first
knowing_same v old new first e h = subst (λ xs. IsKnowing v xs first) (sym e) h

pub knowing_kept : (w v : TaskView) (es : List Event) (old new : List (Key × ℕ)) (first : ℕ) (copy key : Key) (number : ℕ) → w ≡ met es v → (new ≡ old) ⊎ (new ≡ old ++ (copy, number) ∷ []) → copy ≡ key
    → IsNamed es number key → IsKnowing w old first → IsKnowing w new first
knowing_kept w v es old new first copy key number same kept e named h =
    let s : w.seen ≡ es = ap (λ (u : TaskView). u.seen) same in
    record {
      named = named_kept w.seen old new copy number kept (subst (λ xs. IsNamed xs number copy) (sym s) (subst (IsNamed es number) (sym e) named)) h.named;
      begun = h.begun;
    }

-- ---- what holds where an error is answered

pub on_err : {T E : Type 0} {X : Type 0} (r : Result T E) → X → OnErr r X
on_err (Ok t) x = tt
on_err (Err e) x = x

-- ---- what became of a task

pub fetched_known : (r : Result Outcome FetchFault) (about : About) (k : Knowing) (v w : TaskView) (f s : ℕ) → seen_as v f s ≡ k → (es : List Event) → w ≡ met es v → (of : ℕ)
    → IfOk r (λ o. (t : ℕ) → IsTrueOf about.program.value es t (Fetch of o (length es))) → IfOk r (λ o. Fetched (knows_of about k) (knows_of about (seen_as w f s)) of o)
fetched_known (Ok o) about k v w f s is es same of h = subst (λ u. Fetched (knows_of about u) (knows_of about (seen_as w f s)) of o) is (fetched_so about v w f s es same of o h)
fetched_known (Err x) about k v w f s is es same of h = tt

-- ---- definitions, deletions and spawns

module _ (about : About) (k : Knowing) (v w : TaskView) (f s : ℕ) (is : seen_as v f s ≡ k) (old new : List Event) (b : Begins v.seen old) (of : v.task ≡ Some (task_in v)) where
  own_knowing : (e : Event) → new ≡ old ++ e ∷ [] → w ≡ met new (noted (length old) e v) → (keys : List (Key × ℕ)) → IsKnowing v keys f → IsKnowing w keys f
  own_knowing e added now keys h =
      knowing_more v w keys f (seen_own about v f s old new b of w e added now) (task_own about v f s old new b of w e added now) (start_own about v f s old new b of w e added now) h

  own_grew : (e : Event) → new ≡ old ++ e ∷ [] → w ≡ met new (noted (length old) e v) → Grew (knows_of about k) (knows_of about (seen_as w f s))
  own_grew e added now = subst (λ u. Grew (knows_of about u) (knows_of about (seen_as w f s))) is (grew_own about v f s old new b of w e added now)

  met_begins : new ≡ old → Begins v.seen new
  met_begins e = subst (Begins v.seen) (sym e) b

  -- an event of its own was added, or nothing
  pub made_knowing : {T E : Type 0} (e : T → Event) (r : Result T E) → IfOk r (λ n. new ≡ old ++ e n ∷ []) → IfOk r (λ n. w ≡ met new (noted (length old) (e n) v)) → OnErr r ((new ≡ old) × (w ≡ met new v))
      → (keys : List (Key × ℕ)) → IsKnowing v keys f → IsKnowing w keys f
  made_knowing e (Ok n) added now refused keys h = own_knowing (e n) added now keys h
  made_knowing e (Err x) added now refused keys h = knowing_met v w keys f new refused.1 (met_begins refused.0) h

  pub made_grew : {T E : Type 0} (e : T → Event) (r : Result T E) → IfOk r (λ n. new ≡ old ++ e n ∷ []) → IfOk r (λ n. w ≡ met new (noted (length old) (e n) v)) → OnErr r ((new ≡ old) × (w ≡ met new v))
      → Grew (knows_of about k) (knows_of about (seen_as w f s))
  made_grew e (Ok n) added now refused = own_grew (e n) added now
  made_grew e (Err x) added now refused = grew_known about k v w f s is s new refused.1 (met_begins refused.0)

  pub made_refused : {T E : Type 0} (r : Result T E) → OnErr r ((new ≡ old) × (w ≡ met new v)) → OnErr r (Refused (knows_of about k) (knows_of about (seen_as w f s)))
  made_refused (Ok n) refused = tt
  made_refused (Err x) refused = refused_known about k v w f s is s new refused.1 (met_begins refused.0)

  pub made_defined : (site : ℕ) (r : Result ℕ DefineFault) → IfOk r (λ n. new ≡ old ++ Ev.Def (task_in v) site ∷ []) → IfOk r (λ n. w ≡ met new (noted (length old) (Ev.Def (task_in v) site) v))
      → IfOk r (λ n. Defined (knows_of about k) (knows_of about (seen_as w f s)) site)
  made_defined site (Ok n) added now = subst (λ u. Defined (knows_of about u) (knows_of about (seen_as w f s)) site) is (defined_so about v f s old new b of w site added now)
  made_defined site (Err x) added now = tt

  pub made_deleted : (place : ℕ) (r : Result ℕ DeleteFault) → IfOk r (λ n. new ≡ old ++ Ev.Del (task_in v) place ∷ []) → IfOk r (λ n. w ≡ met new (noted (length old) (Ev.Del (task_in v) place) v))
      → IfOk r (λ n. Deleted (knows_of about k) (knows_of about (seen_as w f s)) place)
  made_deleted place (Ok n) added now = subst (λ u. Deleted (knows_of about u) (knows_of about (seen_as w f s)) place) is (deleted_so about v f s old new b of w place added now)
  made_deleted place (Err x) added now = tt

  -- there was nothing to delete
  pub made_absent : (place : ℕ) → place < length about.program.value.deletes → (r : Result ℕ DeleteFault) (x : DeleteFault) → OnErr r ((new ≡ old) × (w ≡ met new v))
      → (r ≡ Err x → (world_of old < 65535) × (FindsMethod about.program.value old place → ⊥)) → r ≡ Err x → IsAbsentNow (knows_of about k) (knows_of about (seen_as w f s)) place
  made_absent place there (Ok n) x refused absent e = absurd (cc)
  made_absent place there (Err y) x refused absent e =
      let a = absent e in
      subst (λ u. IsAbsentNow (knows_of about u) (knows_of about (seen_as w f s)) place) is
      (absent_so about v w f s new refused.1 place (subst (λ es. IsAbsent about.program.value es place) (sym refused.0) (record { known = there; room = a.0; absent = a.1 })))

  pub made_spawned : (start : Start) (r : Result (ℕ × TaskView) SpawnFault) → IfOk r (λ made. new ≡ old ++ Ev.Spawn (task_in v) made.0 start ∷ [])
      → IfOk r (λ made. w ≡ met new (noted (length old) (Ev.Spawn (task_in v) made.0 start) v)) → IfOk r (λ made. Spawned (knows_of about k) (knows_of about (seen_as w f s)) made.0 start)
  made_spawned start (Ok made) added now = subst (λ u. Spawned (knows_of about u) (knows_of about (seen_as w f s)) made.0 start) is (spawned_so about v f s old new b of w made.0 start added now)
  made_spawned start (Err x) added now = tt

  -- where the task knows that the world is the last one, it is
  pub world_limit : (X : Type 0) → MayStand about.program.value old → (world_of old ≡ 65535 → X) → IsFull (knows_of about k) → X
  world_limit X m to full =
      let last : world_of v.seen ≡ 65535 = known_full about v f s (subst (λ u. IsFull (knows_of about u)) (sym is) full) in
      to (omega (arith, last, worlds_grow v.seen old b, few_worlds about.program.value old m))

  -- where it knows that there is no room for a task, there is none
  pub task_limit : (X : Type 0) → tasks_of old ≤ 4096 → (tasks_of old ≡ 4096 → X) → AreTasksFull (knows_of about k) → X
  task_limit X few to full =
      let last : tasks_of v.seen ≡ 4096 = known_tasks about v f s (subst (λ u. AreTasksFull (knows_of about u)) (sym is) full) in
      let grown : tasks_of old + 1 ≡ tasks_of v.seen + tasks_of b.0 = ap (λ xs. tasks_of xs + 1) b.1 ∙ tasks_append v.seen b.0 in
      to (omega (arith, last, grown, few, tasks_some b.0))

pub spawn_new : (r : Result (ℕ × TaskView) SpawnFault) (about : About) (seen old new : List Event) (t : ℕ) (start : Start) → MayStand about.program.value old → IfOk r (λ made. made.0 ≡ tasks_of old)
    → IfOk r (λ made. new ≡ old ++ Ev.Spawn t made.0 start ∷ []) → IfOk r (λ made. made.1 ≡ begun made.0 (Some start) new) → IsValidStart about.program.value start → IsWorld start.world (world_of seen) → Begins seen old
    → IfOk r (λ made. IsNew about made.1 (Some start))
spawn_new (Ok made) about seen old new t start m number added child valid in_world b = spawned_new about seen old new made.1 t made.0 start m number added child valid in_world b
spawn_new (Err x) about seen old new t start m number added child valid in_world b = tt
