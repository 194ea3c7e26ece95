-- A question to the dispatcher is a step of the machine's task.
use Rattle.std.proofs.Common.{◌≡◌, refl, sym, ap, ◌∙◌, subst, ℕ, ◌-◌, ◌<◌, ◌≤◌, Bool, true, false, List, [], ◌∷◌, ◌++◌, map, length, take, drop, get_or, None, Some, Result, Ok, IfOk, arith, append-nil}
use Rattle.std.proofs.lemmas.List.{take_rest}
use Rattle.std.specs.declared.alloc.AllocError.{AllocError}
use Rattle.jl_program.specs.declared.fault.Fault.{Fault}
use Rattle.jl_program.specs.declared.fault.Fault.TheVariants.{WorldLimit, TaskLimit, NotTask, NoSuchMethod}
use Rattle.jl_program.specs.declared.tree.Expr.{Expr, out-Expr}
use Rattle.jl_program.specs.declared.tree.Expr.TheOpen.{Item-F}
use Rattle.jl_program.specs.declared.tree.Expr.TheOpen as F
use Rattle.jl_program.specs.declared.tree.Item.{Item, out-Item}
use Rattle.jl_program.specs.declared.tree.Stmt.{Stmt}
use Rattle.jl_program.specs.declared.tree.Piece.{Piece}
use Rattle.jl_program.specs.declared.tree.Program.{Program}
use Rattle.jl_program.specs.declared.tree.Start.{Start}
use Rattle.jl_program.specs.Meaning.{datum}
use Rattle.jl_model.specs.declared.ty.Ty.{Ty}
use Rattle.jl_calculus.specs.ValidStart.{IsValidStart}
use Rattle.jl_task.proofs.EnteredKept.{spawn_good}
use Rattle.jl_program.specs.declared.value.Value.{Value}
use Rattle.jl_program.specs.declared.value.Value.TheVariants as V
use Rattle.jl_program.specs.Scope.{View}
use Rattle.jl_program.specs.TypeOf.{type_of}
use Rattle.jl_calculus.specs.declared.history.Outcome.{Outcome}
use Rattle.jl_calculus.specs.declared.history.Outcome.TheVariants as O
use Rattle.jl_calculus.specs.declared.history.TraceItem.{TraceItem}
use Rattle.jl_calculus.specs.declared.history.TraceItem.TheVariants.{Look, Def, Del, Spawn, Fetch, WorldFull, TaskFull, Absent}
use Rattle.jl_calculus.specs.ValidHistory.{IsValidOutcome, IsValidValue}
use Rattle.jl_frames.specs.Held.{Held, with_open, first_value}
use Rattle.jl_task.specs.declared.point.Work.{Work}
use Rattle.jl_task.specs.declared.point.Work.TheVariants as W
use Rattle.jl_task.specs.declared.point.Now.{Now}
use Rattle.jl_task.specs.Point.{value_at}
use Rattle.jl_task.specs.Turns.{Point, answered, looked_item, start_of}
use Rattle.jl_task.specs.ValidPoint.{Every, IsGoodPoint, AreValidValues}
use Rattle.jl_calculus.specs.Core.{in_fault, in_outcome}
use Rattle.jl_calculus.specs.Run.{deleted_function}
use Rattle.jl_task.proofs.AskedLemmas.{task_failed_valid, world_limit_valid, task_limit_valid, not_task_valid, no_such_method_valid, delete_there, ended_good, acted_good, acting_values, latest_good}
use Rattle.jl_task.proofs.ValueTypes.{task_valid, nothing_valid}
use Rattle.jl_task.proofs.ItemsKept.{item_bind_good, item_do_good, item_define_good, items_end, define_good}
use Rattle.jl_task.specs.Knows.{Knows, Grew, Asked, Defined, Deleted, IsAbsentNow, WorldsFull, Spawned, TasksFull, Fetched, IsNotDone}
use Rattle.jl_task.specs.Fits.{Fitting, IsKnowing, Steps, fetched_outcome}
use Rattle.jl_task.specs.Known.{IsKnown, IsFetchOf, known_tasks, Mentions, AllMention, StackMentions, PointMentions}
use Rattle.jl_task.proofs.KnowingSteps.{knows_on, knows_item, spawned_mentions}
use Rattle.jl_task.proofs.KnownLemmas.{nothing_mentions, task_mentions, task_is, looked_mentions, ended_mentions}
use Rattle.jl_task.proofs.AskingSteps.{step_item, step_latest, step_made, step_worlds_full, step_deleted, step_absent, step_deletion_full, step_spawned, step_tasks_full, step_fetched, step_refused, waits, IsNoTask}
use Rattle.jl_task.proofs.Turning.{step_end}
use Rattle.jl_machine.specs.declared.now.LentNow.{LentNow}
use Rattle.jl_machine.specs.declared.now.LentWork.{LentWork}
use Rattle.jl_machine.specs.declared.now.LentWork.TheVariants as L
use Rattle.jl_machine.specs.declared.task.Task.{Task}
use Rattle.jl_machine.specs.Fetched.{task_of}
use Rattle.jl_machine.specs.Lent.{now_of, given_value, IsGiven, Reaches}
use Rattle.jl_machine.specs.Steps.{progress_of, KnowsOn, LentSteps, LentWaits, HasLooked}
use Rattle.jl_machine.proofs.Stepping.{MentionsNoMore, KnowsAt, knows_turn, lent_is, lent_ok}

-- ---- lists as the code takes them apart

pub empty_of : (xs : List Item) → length xs < 1 → xs ≡ []
empty_of [] h = refl
empty_of (x ∷ xs) h = absurd (omega (arith, h))

pub split_first : (xs : List Item) (x : Item) → 1 ≤ length xs → x ≡ get_or xs 0 x → xs ≡ x ∷ take (length xs - 1) (drop 1 xs)
split_first [] x h e = absurd (omega (arith, h))
split_first (y ∷ ys) x h e = ap (λ z. z ∷ ys) (sym e) ∙ ap (λ zs. x ∷ zs) (sym (take_rest (y ∷ ys) 1))

-- ---- looks

-- a statement that looked is begun at a good point
module _ (P : Program) (views : List View) (x : Item) (xs : List Item) (v : Value) (w : ℕ) (n : Now) where
  looked_good : (fresh : Bool) (y : Item-F Expr Item Piece Stmt) → out-Item x ≡ y → IsGoodPoint P views (W.Items fresh (x ∷ xs) v, n) → IsGoodPoint P views (looked_item x y fresh xs w n)
  looked_good true (F.Define site) is good = item_define_good P views true x site xs v n is good
  looked_good false (F.Define site) is good = item_define_good P views false x site xs v n is good
  looked_good true (F.Item::Bind slot e) is good = item_bind_good P views true x slot e xs v n.world w n is good
  looked_good false (F.Item::Bind slot e) is good = item_bind_good P views false x slot e xs v n.world w n is good
  looked_good true (F.Item::Do e) is good = item_do_good P views true x e xs v n.world w n is good
  looked_good false (F.Item::Do e) is good = item_do_good P views false x e xs v n.world w n is good

-- an item that brings no task, and is no fetch
abbrev IsPlain : TraceItem → Type 0
IsPlain (Look w p) = Unit {0}
IsPlain (Def site p) = Unit {0}
IsPlain (Del place p) = Unit {0}
IsPlain (Absent place p) = Unit {0}
IsPlain (WorldFull p) = Unit {0}
IsPlain (TaskFull p) = Unit {0}
IsPlain (Spawn child p) = ⊥
IsPlain (Fetch task o p) = ⊥

-- a step that adds such an item
knows_plain : (k k' : Knows) (w : Work) (t : Task) (i : TraceItem) (p : Point) → IsPlain i → Grew k k' → k'.starts ≡ k.starts → MentionsNoMore (w, now_of t.now) p → KnowsAt k w t k' p (record t { trace = t.trace ++ i ∷ [] })
knows_plain k k' w t i p plain grew starts keeps =
    knows_item k k' grew.start w p.0 (progress_of t) (record (progress_of t) { trace = t.trace ++ i ∷ []; now = p.1 }) i [] (starts ∙ sym (append-nil k.starts)) refl (λ g. fetch_of i plain) (λ g. tt) (λ K m b. keeps K m)
  where
    fetch_of : (i : TraceItem) → IsPlain i → IsFetchOf (known_tasks k.start t.trace) i
    fetch_of (Look w p) h = tt
    fetch_of (Def site p) h = tt
    fetch_of (Del place p) h = tt
    fetch_of (Absent place p) h = tt
    fetch_of (WorldFull p) h = tt
    fetch_of (TaskFull p) h = tt
    fetch_of (Spawn child p) h = tt
    fetch_of (Fetch task o p) h = absurd h

-- a step that ends the task with a fault which such an item tells, and which names no task
lent_ends : (k k' : Knows) (w : Work) (t : Task) (i : TraceItem) (x : Fault) → IsPlain i → ((K : ℕ → Type 0) → Every K (in_fault x)) → Grew k k' → k'.starts ≡ k.starts → (work : LentWork) (trace : List TraceItem) (n : LentNow) → trace ≡ t.trace ++ i ∷ []
    → Reaches work n (W.Ended (O.Error x), now_of t.now) → Steps k w (progress_of t) k' (W.Ended (O.Error x)) (record (progress_of t) { trace = t.trace ++ i ∷ [] }) → LentSteps k w t k' work (record t { trace = trace; now = n })
lent_ends k k' w t i x plain named grew starts work trace n at r steps =
    let S : List TraceItem → Type 0 = λ is. Steps k w (progress_of t) k' (W.Ended (O.Error x)) (record (progress_of t) { trace = is }) in
    lent_is work k k' w t (record t { trace = trace }) n (W.Ended (O.Error x), now_of t.now) r (subst S (sym at) steps)
    (subst (λ is. KnowsAt k w t k' (W.Ended (O.Error x), now_of t.now) (record t { trace = is })) (sym at)
    (knows_plain k k' w t i (W.Ended (O.Error x), now_of t.now) plain grew starts (λ K m. ended_mentions K (now_of t.now) m.env m.stack (O.Error x) (named K))))

-- the statements are done
pub lent_end : (k : Knows) (t : Task) (fresh : Bool) (xs : List Item) → length xs < 1 → IsGiven t.now.frames → Fitting k (W.Items fresh xs (given_value t.now)) (progress_of t) → LentSteps k (W.Items fresh xs (given_value t.now)) t k L.Give t
lent_end k t fresh xs e one h =
    let S : List Item → Type 0 = λ ys. Fitting k (W.Items fresh ys (given_value t.now)) (progress_of t) → LentSteps k (W.Items fresh ys (given_value t.now)) t k L.Give t in
    subst S (sym (empty_of xs e)) (λ f. record {
      steps = step_end k (progress_of t) fresh (given_value t.now) f (items_end k.program f.valid.views fresh (given_value t.now) (now_of t.now) f.good);
      knows = knows_turn k (W.Items fresh [] (given_value t.now)) t (W.Give (given_value t.now), now_of t.now) (λ K m. record { env = m.env; stack = m.stack; work = m.work });
      settled = one;
    }) h

module _ (k k' : Knows) (w : ℕ) (t t' : Task) (l : HasLooked k k' w t t') where
  -- the first of some statements has looked
  pub lent_item : (r : Result LentWork AllocError) (fresh : Bool) (ys : List Item) (x : Item) (xs : List Item) (v : Value) (n : LentNow) → ys ≡ x ∷ xs → Fitting k (W.Items fresh ys v) (progress_of t)
      → IfOk r (λ work. Reaches work n (looked_item x (out-Item x) fresh xs w (now_of t'.now))) → IfOk r (λ work. LentSteps k (W.Items fresh ys v) t k' work (record t' { now = n }))
  lent_item r fresh ys x xs v n items h reach =
      let S : List Item → Type 0 = λ zs. Fitting k (W.Items fresh zs v) (progress_of t) → IfOk r (λ work. LentSteps k (W.Items fresh zs v) t k' work (record t' { now = n })) in
      subst S (sym items) (λ f. at f t' l.task reach) h
    where
      at : Fitting k (W.Items fresh (x ∷ xs) v) (progress_of t) → (u : Task) → u ≡ record t { trace = t.trace ++ Look w l.place ∷ [] } → IfOk r (λ work. Reaches work n (looked_item x (out-Item x) fresh xs w (now_of u.now)))
          → IfOk r (λ work. LentSteps k (W.Items fresh (x ∷ xs) v) t k' work (record u { now = n }))
      at f u is go =
          let T : Task → Type 0 = λ u. IfOk r (λ work. Reaches work n (looked_item x (out-Item x) fresh xs w (now_of u.now))) → IfOk r (λ work. LentSteps k (W.Items fresh (x ∷ xs) v) t k' work (record u { now = n })) in
          subst T (sym is)
          (λ reach. lent_ok r k k' (W.Items fresh (x ∷ xs) v) t (record t { trace = t.trace ++ Look w l.place ∷ [] }) n (looked_item x (out-Item x) fresh xs w (now_of t.now)) reach
          (step_item k k' (progress_of t) w l.place l.looked fresh x xs v f (looked_good k.program f.valid.views x xs v w (now_of t.now) fresh (out-Item x) refl f.good))
          (knows_plain k k' (W.Items fresh (x ∷ xs) v) t (Look w l.place) (looked_item x (out-Item x) fresh xs w (now_of t.now)) tt l.looked.grew l.looked.starts (λ K m. looked_mentions K x (out-Item x) fresh xs w (now_of t.now) m.env m.stack))) go

  -- a call in the newest world has looked
  pub lent_latest : (e : Expr) (f : ℕ) (xs : List Expr) → out-Expr e ≡ F.Latest f xs → t.now.frames.open_text ≡ [] → Fitting k (W.Acting e t.now.frames.open_values) (progress_of t)
      → LentSteps k (W.Acting e t.now.frames.open_values) t k' (L.Calling f w) t'
  lent_latest e f xs is text h =
      let S : Task → Type 0 = λ u. LentSteps k (W.Acting e t.now.frames.open_values) t k' (L.Calling f w) u in
      subst S (sym l.task)
      (record {
        steps = step_latest k k' (progress_of t) w l.place l.looked e f xs t.now.frames.open_values is h (latest_good k.program h.valid.views e f w xs t.now.frames.open_values (now_of t.now) is h.good);
        knows = knows_plain k k' (W.Acting e t.now.frames.open_values) t (Look w l.place) (W.Calling f w t.now.frames.open_values, now_of t.now) tt l.looked.grew l.looked.starts (λ K m. record { env = m.env; stack = m.stack; work = m.work });
        settled = text;
      })

-- ---- definitions

module _ (k k' : Knows) (t : Task) (site : ℕ) (fresh : Bool) (xs : List Item) (grew : Grew k k') (h : Fitting k (W.Defining site fresh xs) (progress_of t)) where
  pub lent_made : (trace : List TraceItem) (frames : Held) → trace ≡ t.trace ++ Def site (k'.seen - 1) ∷ [] → frames ≡ with_open t.now.frames (V.Nothing ∷ []) → Defined k k' site
      → Steps k (W.Defining site fresh xs) (progress_of t) k' (W.Items fresh xs (first_value frames.open_values)) (progress_of (record t { trace = trace; now = record t.now { frames = frames } }))
  lent_made trace frames at is d =
      let S : List TraceItem × Held → Type 0 = λ q. Steps k (W.Defining site fresh xs) (progress_of t) k' (W.Items fresh xs (first_value q.1.open_values)) (progress_of (record t { trace = q.0; now = record t.now { frames = q.1 } })) in
      subst S (λ i. (sym at i, sym is i)) (step_made k k' (progress_of t) site fresh xs grew h d (define_good k.program h.valid.views site fresh xs (now_of t.now) h.good))

  pub knows_made : (trace : List TraceItem) (frames : Held) → trace ≡ t.trace ++ Def site (k'.seen - 1) ∷ [] → frames ≡ with_open t.now.frames (V.Nothing ∷ []) → Defined k k' site
      → KnowsOn k (W.Defining site fresh xs) t k' (W.Items fresh xs (first_value frames.open_values)) (record t { trace = trace; now = record t.now { frames = frames } })
  knows_made trace frames at is d =
      let S : List TraceItem × Held → Type 0 = λ q. KnowsOn k (W.Defining site fresh xs) t k' (W.Items fresh xs (first_value q.1.open_values)) (record t { trace = q.0; now = record t.now { frames = q.1 } }) in
      subst S (λ i. (sym at i, sym is i))
      (knows_plain k k' (W.Defining site fresh xs) t (Def site (k'.seen - 1)) (W.Items fresh xs V.Nothing, now_of t.now) tt grew d.starts (λ K m. record { env = m.env; stack = m.stack; work = nothing_mentions K }))

  pub lent_worlds_full : (work : LentWork) (trace : List TraceItem) (n : LentNow) → trace ≡ t.trace ++ WorldFull k'.seen ∷ [] → WorldsFull k k' → Reaches work n (W.Ended (O.Error WorldLimit), now_of t.now)
      → LentSteps k (W.Defining site fresh xs) t k' work (record t { trace = trace; now = n })
  lent_worlds_full work trace n at d r =
      lent_ends k k' (W.Defining site fresh xs) t (WorldFull k'.seen) WorldLimit tt (λ K. tt) grew d.starts work trace n at r
      (step_worlds_full k k' (progress_of t) site fresh xs grew h d
      (ended_good k.program h.valid.views (W.Defining site fresh xs) (now_of t.now) (O.Error WorldLimit) h.good (world_limit_valid k.program)))

-- ---- deletions

-- a deletion place is one of the program
pub place_there : (k : Knows) (t : Task) (e : Expr) (place : ℕ) → out-Expr e ≡ F.Delete place → Fitting k (W.Acting e t.now.frames.open_values) (progress_of t) → place < length k.program.deletes
place_there k t e place is h = delete_there k.program h.valid.views e place t.now.frames.open_values (now_of t.now) is h.good

module _ (k k' : Knows) (t : Task) (e : Expr) (place : ℕ) (is : out-Expr e ≡ F.Delete place) (h : Fitting k (W.Acting e t.now.frames.open_values) (progress_of t)) where
  abbrev us : List Value
  us = t.now.frames.open_values

  pub lent_deleted : (trace : List TraceItem) (frames : Held) → trace ≡ t.trace ++ Del place (k'.seen - 1) ∷ [] → frames ≡ with_open t.now.frames (V.Nothing ∷ []) → Grew k k' → Deleted k k' place
      → Steps k (W.Acting e us) (progress_of t) k' (W.Give (first_value frames.open_values)) (progress_of (record t { trace = trace; now = record t.now { frames = frames } }))
  lent_deleted trace frames at held grew d =
      let S : List TraceItem × Held → Type 0 = λ q. Steps k (W.Acting e us) (progress_of t) k' (W.Give (first_value q.1.open_values)) (progress_of (record t { trace = q.0; now = record t.now { frames = q.1 } })) in
      subst S (λ i. (sym at i, sym held i))
      (step_deleted k k' (progress_of t) e place us is grew h d (acted_good k.program h.valid.views e us (now_of t.now) (O.Value V.Nothing) h.good (nothing_valid k.program)))

  pub knows_deleted : (trace : List TraceItem) (frames : Held) → trace ≡ t.trace ++ Del place (k'.seen - 1) ∷ [] → frames ≡ with_open t.now.frames (V.Nothing ∷ []) → Grew k k' → Deleted k k' place
      → KnowsOn k (W.Acting e us) t k' (W.Give (first_value frames.open_values)) (record t { trace = trace; now = record t.now { frames = frames } })
  knows_deleted trace frames at held grew d =
      let S : List TraceItem × Held → Type 0 = λ q. KnowsOn k (W.Acting e us) t k' (W.Give (first_value q.1.open_values)) (record t { trace = q.0; now = record t.now { frames = q.1 } }) in
      subst S (λ i. (sym at i, sym held i))
      (knows_plain k k' (W.Acting e us) t (Del place (k'.seen - 1)) (W.Give V.Nothing, now_of t.now) tt grew d.starts (λ K m. record { env = m.env; stack = m.stack; work = nothing_mentions K }))

  pub lent_absent : (P : Program) (f : ℕ) (work : LentWork) (trace : List TraceItem) (n : LentNow) → P ≡ k.program → f ≡ deleted_function P place → trace ≡ t.trace ++ Absent place k'.seen ∷ [] → Grew k k' → IsAbsentNow k k' place
      → Reaches work n (W.Ended (O.Error (NoSuchMethod f)), now_of t.now) → LentSteps k (W.Acting e us) t k' work (record t { trace = trace; now = n })
  lent_absent P f work trace n eP eF at grew d r =
      let x : Fault = NoSuchMethod (deleted_function k.program place) in
      let named : f ≡ deleted_function k.program place = eF ∙ ap (λ Q. deleted_function Q place) eP in
      lent_ends k k' (W.Acting e us) t (Absent place k'.seen) x tt (λ K. tt) grew d.starts work trace n at (subst (λ m. Reaches work n (W.Ended (O.Error (NoSuchMethod m)), now_of t.now)) named r)
      (step_absent k k' (progress_of t) e place us is grew h d
      (ended_good k.program h.valid.views (W.Acting e us) (now_of t.now) (O.Error x) h.good (no_such_method_valid k.program place h.valid (place_there k t e place is h))))

  pub lent_deletion_full : (work : LentWork) (trace : List TraceItem) (n : LentNow) → trace ≡ t.trace ++ WorldFull k'.seen ∷ [] → Grew k k' → WorldsFull k k' → Reaches work n (W.Ended (O.Error WorldLimit), now_of t.now)
      → LentSteps k (W.Acting e us) t k' work (record t { trace = trace; now = n })
  lent_deletion_full work trace n at grew d r =
      lent_ends k k' (W.Acting e us) t (WorldFull k'.seen) WorldLimit tt (λ K. tt) grew d.starts work trace n at r
      (step_deletion_full k k' (progress_of t) e place us is grew h d
      (ended_good k.program h.valid.views (W.Acting e us) (now_of t.now) (O.Error WorldLimit) h.good (world_limit_valid k.program)))

-- ---- spawns

module _ (k k' : Knows) (t : Task) (e : Expr) (place : ℕ) (is : out-Expr e ≡ F.Spawn place) (grew : Grew k k') (h : Fitting k (W.Acting e t.now.frames.open_values) (progress_of t)) where
  abbrev vs : List Value
  vs = t.now.frames.open_values

  pub lent_spawned : (child : ℕ) (trace : List TraceItem) (frames : Held) → trace ≡ t.trace ++ Spawn child (k'.seen - 1) ∷ [] → frames ≡ with_open t.now.frames (V.Task child ∷ []) → Spawned k k' child (start_of place (now_of t.now))
      → Steps k (W.Acting e vs) (progress_of t) k' (W.Give (first_value frames.open_values)) (progress_of (record t { trace = trace; now = record t.now { frames = frames } }))
  lent_spawned child trace frames at held d =
      let S : List TraceItem × Held → Type 0 = λ q. Steps k (W.Acting e vs) (progress_of t) k' (W.Give (first_value q.1.open_values)) (progress_of (record t { trace = q.0; now = record t.now { frames = q.1 } })) in
      subst S (λ i. (sym at i, sym held i))
      (step_spawned k k' (progress_of t) e place vs is grew h child d (acted_good k.program h.valid.views e vs (now_of t.now) (O.Value (V.Task child)) h.good (task_valid k.program child)))

  pub knows_spawned : (child : ℕ) (trace : List TraceItem) (frames : Held) → trace ≡ t.trace ++ Spawn child (k'.seen - 1) ∷ [] → frames ≡ with_open t.now.frames (V.Task child ∷ []) → Spawned k k' child (start_of place (now_of t.now))
      → KnowsOn k (W.Acting e vs) t k' (W.Give (first_value frames.open_values)) (record t { trace = trace; now = record t.now { frames = frames } })
  knows_spawned child trace frames at held d =
      let S : List TraceItem × Held → Type 0 = λ q. KnowsOn k (W.Acting e vs) t k' (W.Give (first_value q.1.open_values)) (record t { trace = q.0; now = record t.now { frames = q.1 } }) in
      let i : TraceItem = Spawn child (k'.seen - 1) in
      subst S (λ j. (sym at j, sym held j))
      (knows_item k k' grew.start (W.Acting e vs) (W.Give (V.Task child)) (progress_of t) (record (progress_of t) { trace = t.trace ++ i ∷ [] }) i (start_of place (now_of t.now) ∷ []) d.starts refl (λ g. tt)
      (λ g. (spawned_mentions (IsKnown k.start t.trace) place (now_of t.now) g.point.env, tt))
      (λ K m b. record { env = m.env; stack = m.stack; work = task_mentions K child b.0 }))

  pub lent_tasks_full : (work : LentWork) (trace : List TraceItem) (n : LentNow) → trace ≡ t.trace ++ TaskFull k'.seen ∷ [] → TasksFull k k' → Reaches work n (W.Ended (O.Error TaskLimit), now_of t.now)
      → LentSteps k (W.Acting e vs) t k' work (record t { trace = trace; now = n })
  lent_tasks_full work trace n at d r =
      lent_ends k k' (W.Acting e vs) t (TaskFull k'.seen) TaskLimit tt (λ K. tt) grew d.starts work trace n at r
      (step_tasks_full k k' (progress_of t) e place vs is grew h d
      (ended_good k.program h.valid.views (W.Acting e vs) (now_of t.now) (O.Error TaskLimit) h.good (task_limit_valid k.program)))

-- the start that the code makes is that of a task that is spawned here
start_is : (t : Task) (place : ℕ) (start : Start) (env : List Value) (types : List Ty) → env ≡ t.now.frames.env → types ≡ t.now.frames.bindings → start ≡ record { spawn = place; env = map datum env; bindings = types; world = t.now.world }
    → start ≡ start_of place (now_of t.now)
start_is t place start env types e b h = h ∙ (λ i. record { spawn = place; env = map datum (e i); bindings = b i; world = t.now.world })

pub start_valid : (k : Knows) (t : Task) (e : Expr) (place : ℕ) → out-Expr e ≡ F.Spawn place → Fitting k (W.Acting e t.now.frames.open_values) (progress_of t) → (start : Start) (env : List Value) (types : List Ty) → env ≡ t.now.frames.env → types ≡ t.now.frames.bindings
    → start ≡ record { spawn = place; env = map datum env; bindings = types; world = t.now.world } → IsValidStart k.program start
start_valid k t e place is h start env types ee eb eq =
    subst (IsValidStart k.program) (sym (start_is t place start env types ee eb eq)) (spawn_good k.program h.valid e place t.now.world t.now.frames.open_values (now_of t.now) is h.good)

pub spawned_of : (k k' : Knows) (t : Task) (place child : ℕ) (start : Start) (env : List Value) (types : List Ty) → env ≡ t.now.frames.env → types ≡ t.now.frames.bindings → start ≡ record { spawn = place; env = map datum env; bindings = types; world = t.now.world }
    → Spawned k k' child start → Spawned k k' child (start_of place (now_of t.now))
spawned_of k k' t place child start env types ee eb eq d = subst (Spawned k k' child) (start_is t place start env types ee eb eq) d

-- ---- fetches

-- the task that a value is
is_task : (v : Value) (n : ℕ) → task_of v ≡ Some n → v ≡ V.Task n
is_task (V.Task m) n h = let same : m ≡ n = cc in ap V.Task same
is_task (V.Int i) n h = absurd (cc)
is_task (V.Bool b) n h = absurd (cc)
is_task V.Nothing n h = absurd (cc)
is_task (V.Tuple c) n h = absurd (cc)
is_task (V.Struct c) n h = absurd (cc)

no_task : (k : Knows) (t : Task) (e a : Expr) (xs : List Value) (is : out-Expr e ≡ F.Fetch a) (h : Fitting k (W.Acting e xs) (progress_of t)) (v : Value) → task_of v ≡ None → IsNoTask k (progress_of t) e a xs is h v
no_task k t e a xs is h (V.Task m) eq = absurd (cc)
no_task k t e a xs is h (V.Int i) eq = tt
no_task k t e a xs is h (V.Bool b) eq = tt
no_task k t e a xs is h V.Nothing eq = tt
no_task k t e a xs is h (V.Tuple c) eq = tt
no_task k t e a xs is h (V.Struct c) eq = tt

first_is : (us : List Value) → value_at us 0 ≡ first_value us
first_is [] = refl
first_is (v ∷ vs) = refl

first_mentions : (K : ℕ → Type 0) (vs : List Value) → AllMention K vs → Mentions K (first_value vs)
first_mentions K [] h = nothing_mentions K
first_mentions K (v ∷ vs) h = h.0

first_valid : (P : Program) (vs : List Value) → AreValidValues P vs → IsValidValue P (first_value vs)
first_valid P [] h = nothing_valid P
first_valid P (v ∷ vs) h = h.0

fetched_valid : (P : Program) (task : ℕ) (o : Outcome) → IsValidOutcome P o → IsValidOutcome P (fetched_outcome task o)
fetched_valid P task (O.Value v) h = h
fetched_valid P task (O.Error e) h = task_failed_valid P task

-- a value that is a task mentions it
fetched_task : (K : ℕ → Type 0) (v : Value) (task : ℕ) → task_of v ≡ Some task → Mentions K v → K task
fetched_task K v task is m = task_is K task (subst (Mentions K) (is_task v task is) m)

-- what a fetch gives mentions the task, or what its outcome mentions
fetched_mentions : (K : ℕ → Type 0) (task : ℕ) (o : Outcome) (n : Now) → AllMention K n.env → StackMentions K n.stack → K task → Every K (in_outcome o) → PointMentions K (answered (fetched_outcome task o), n)
fetched_mentions K task (O.Value v) n env stack h b = record { env = env; stack = stack; work = b }
fetched_mentions K task (O.Error x) n env stack h b = record { env = env; stack = stack; work = (h, tt) }

module _ (k k' : Knows) (t : Task) (e a : Expr) (is : out-Expr e ≡ F.Fetch a) (h : Fitting k (W.Acting e t.now.frames.open_values) (progress_of t)) where
  abbrev xs : List Value
  xs = t.now.frames.open_values

  -- the value that is fetched mentions the task
  known_first : (task : ℕ) → task_of (first_value xs) ≡ Some task → IsKnowing k (W.Acting e xs) (progress_of t) → IsKnown k.start t.trace task
  known_first task first g = fetched_task (IsKnown k.start t.trace) (first_value xs) task first (first_mentions (IsKnown k.start t.trace) xs g.point.work)

  pub lent_fetched : (r : Result LentWork AllocError) (task : ℕ) (o : Outcome) (trace : List TraceItem) (n : LentNow) → Grew k k' → task_of (first_value xs) ≡ Some task → Fetched k k' task o → IsValidOutcome k.program o → trace ≡ t.trace ++ Fetch task o k'.seen ∷ []
      → IfOk r (λ work. Reaches work n (answered (fetched_outcome task o), now_of t.now)) → IfOk r (λ work. LentSteps k (W.Acting e xs) t k' work (record t { trace = trace; now = n }))
  lent_fetched r task o trace n grew first d valid at reach =
      let S : List TraceItem → Type 0 = λ items. Steps k (W.Acting e xs) (progress_of t) k' (answered (fetched_outcome task o)) (record (progress_of t) { trace = items }) in
      let p : Point = (answered (fetched_outcome task o), now_of t.now) in
      lent_ok r k k' (W.Acting e xs) t (record t { trace = trace }) n p reach
      (subst S (sym at) (step_fetched k k' (progress_of t) e a task xs is (first_is xs ∙ is_task (first_value xs) task first) grew h o d
      (acted_good k.program h.valid.views e xs (now_of t.now) (fetched_outcome task o) h.good (fetched_valid k.program task o valid))))
      (subst (λ items. KnowsAt k (W.Acting e xs) t k' p (record t { trace = items })) (sym at)
      (knows_item k k' grew.start (W.Acting e xs) p.0 (progress_of t) (record (progress_of t) { trace = t.trace ++ Fetch task o k'.seen ∷ []; now = p.1 }) (Fetch task o k'.seen) [] (d.starts ∙ sym (append-nil k.starts)) refl
      (λ g. known_first task first g) (λ g. tt)
      (λ K m b. fetched_mentions K task o (now_of t.now) m.env m.stack (fetched_task K (first_value xs) task first (first_mentions K xs m.work)) b)))

  pub lent_refused : (r : Result LentWork AllocError) (n : LentNow) → task_of (first_value xs) ≡ None → IsValidOutcome k.program (O.Error (NotTask (type_of (first_value xs))))
      → IfOk r (λ work. Reaches work n (W.Ended (O.Error (NotTask (type_of (first_value xs)))), now_of t.now)) → IfOk r (λ work. LentSteps k (W.Acting e xs) t k work (record t { now = n }))
  lent_refused r n first valid reach =
      lent_ok r k k (W.Acting e xs) t t n (W.Ended (O.Error (NotTask (type_of (first_value xs)))), now_of t.now) reach
      (step_refused k (progress_of t) e a xs is h (first_value xs) (first_is xs) (no_task k t e a xs is h (first_value xs) first)
      (ended_good k.program h.valid.views (W.Acting e xs) (now_of t.now) (O.Error (NotTask (type_of (first_value xs)))) h.good valid))
      (knows_turn k (W.Acting e xs) t (W.Ended (O.Error (NotTask (type_of (first_value xs)))), now_of t.now) (λ K m. ended_mentions K (now_of t.now) m.env m.stack (O.Error (NotTask (type_of (first_value xs)))) tt))

  pub lent_fetched_is : (work : LentWork) (task : ℕ) (o : Outcome) (trace : List TraceItem) (n : LentNow) → Grew k k' → task_of (first_value xs) ≡ Some task → Fetched k k' task o → IsValidOutcome k.program o → trace ≡ t.trace ++ Fetch task o k'.seen ∷ []
      → Reaches work n (answered (fetched_outcome task o), now_of t.now) → LentSteps k (W.Acting e xs) t k' work (record t { trace = trace; now = n })
  lent_fetched_is work task o trace n = lent_fetched (Ok work) task o trace n

  pub lent_refused_is : (work : LentWork) (n : LentNow) → task_of (first_value xs) ≡ None
      → Reaches work n (W.Ended (O.Error (NotTask (type_of (first_value xs)))), now_of t.now) → LentSteps k (W.Acting e xs) t k work (record t { now = n })
  lent_refused_is work n first reach =
      lent_refused (Ok work) n first
      (not_task_valid k.program (first_value xs) h.valid (first_valid k.program xs (acting_values k.program h.valid.views e xs (now_of t.now) h.good))) reach

  pub lent_waits : (task : ℕ) → task_of (first_value xs) ≡ Some task → Asked k k' → IsNotDone k' task → LentWaits k (W.Acting e xs) t k' task t
  lent_waits task first asked running = record {
    waits = waits k k' (progress_of t) (W.Acting e xs) asked h;
    knows = knows_on k k' asked.grew.start (W.Acting e xs) (W.Acting e xs) (progress_of t) (progress_of t) asked.starts refl (λ K m. m);
    known = known_first task first;
    running = running;
    same = refl;
  }
