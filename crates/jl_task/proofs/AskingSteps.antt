-- A question to the dispatcher is a step: the trace gets the item that answers it.
use Rattle.std.proofs.Common.{◌≡◌, ◌↔◌, refl, inr, Bool, true, false, ℕ, ◌-◌, ◌<◌, List, [], ◌∷◌, ◌++◌, sym, ap, ◌∙◌, subst, arith, add-zero}
use Rattle.jl_program.specs.declared.value.Value.{Value}
use Rattle.jl_program.specs.declared.value.Value.TheVariants as V
use Rattle.jl_program.specs.declared.fault.Fault.TheVariants.{WorldLimit, TaskLimit, TaskFailed, NotTask, NoSuchMethod}
use Rattle.jl_program.specs.declared.tree.Expr.{Expr, out-Expr}
use Rattle.jl_program.specs.declared.tree.Item.{Item, out-Item}
use Rattle.jl_program.specs.declared.tree.Stmt.{Stmt}
use Rattle.jl_program.specs.declared.tree.Piece.{Piece}
use Rattle.jl_program.specs.declared.tree.Expr.TheOpen.{Item-F}
use Rattle.jl_program.specs.declared.tree.Expr.TheOpen as F
use Rattle.jl_program.specs.declared.tree.Start.{Start}
use Rattle.jl_program.specs.TypeOf.{type_of}
use Rattle.jl_calculus.specs.declared.history.TraceItem.{TraceItem}
use Rattle.jl_calculus.specs.declared.history.TraceItem.TheVariants.{Look, Def, Del, Spawn, Fetch, WorldFull, TaskFull, Absent}
use Rattle.jl_calculus.specs.declared.history.Outcome.{Outcome}
use Rattle.jl_calculus.specs.declared.history.Outcome.TheVariants as O
use Rattle.jl_calculus.specs.Run.{a_look, a_definition, a_deletion, a_spawn, a_fetch, deleted_function, deletes, fetches, fetches_value}
use Rattle.jl_task.specs.declared.point.Work.{Work}
use Rattle.jl_task.specs.declared.point.Work.TheVariants.{Give, Acting, Calling, Items, Defining, Ended}
use Rattle.jl_task.specs.Turns.{Point, scoped, begun_item, looked_item, answered, start_of}
use Rattle.jl_task.specs.Point.{value_at, gives, state_of}
use Rattle.jl_task.specs.ValidPoint.{IsGoodPoint}
use Rattle.jl_task.specs.Weight.{load}
use Rattle.jl_task.specs.Worlds.{IsWorld, IsCallWorld, IsWithin}
use Rattle.jl_task.proofs.Asking.{item_looks, item_looked, acts_same, goes_look, goes_definition, goes_deletion, goes_spawn, goes_fetch}
use Rattle.jl_task.proofs.Weighing.{item_layer, item_weighs}
use Rattle.jl_task.specs.Knows.{Knows, Grew, Looked, Asked, Defined, Deleted, IsAbsentNow, WorldsFull, Spawned, TasksFull, Fetched}
use Rattle.jl_task.specs.Asks.{Job, Over, over, Ending, EndsAs, FinishesTo, Asks}
use Rattle.jl_task.specs.Fits.{Progress, FitsWith, job_of, Fitting, Steps, Waits, fetched_outcome}
use Rattle.jl_task.proofs.Fitting.{both_ways, grown, item_fits, asks_by}
use Rattle.jl_task.proofs.Turning.{moves}
use Rattle.jl_task.proofs.Traces.{append_nil, between_up, worlds_up}

-- ---- a look

module _ (k k' : Knows) (t : Progress) (w p : ℕ) (l : Looked k k' w p) where
  -- the point after a look
  looks_to : (from : Work) (h : Fitting k from t) (q : Point) → IsWithin k'.world q → IsGoodPoint k.program h.valid.views q
      → ((x : Over) (rest : List TraceItem) (e : Ending) → FinishesTo (job_of k t.fuel) x q t.calls k.starts rest e ≡ FinishesTo (job_of k t.fuel) x (from, t.now) t.calls k.starts (Look w p ∷ rest) e)
      → FitsWith (job_of k t.fuel) k' q.0 (record t { now = q.1; trace = t.trace ++ Look w p ∷ [] })
  looks_to from h q worlds good same =
      let seen = l.grew.seen in
      let at = l.length in
      item_fits (job_of k t.fuel) k k' from t h q (Look w p) l.grew l.told (omega (arith, seen, at)) (omega (arith, at)) l.looks (l.own ∙ sym (append_nil k.own)) worlds good
      (λ x rest e. subst (λ starts. FinishesTo (job_of k t.fuel) x (from, t.now) t.calls k.starts (Look w p ∷ rest) e ↔ FinishesTo (job_of k t.fuel) x q t.calls starts rest e) (sym l.starts) (both_ways _ _ (same x rest e)))

  -- a statement at the top or of an evaluated block
  module _ (fresh : Bool) (x : Item) (xs : List Item) (v : Value) (h : Fitting k (Items fresh (x ∷ xs) v) t) where
    asks_look : Asks (job_of k t.fuel) k t.trace a_look
    asks_look =
        asks_by (job_of k t.fuel) k (Items fresh (x ∷ xs) v) t a_look h
        (λ o rest e r. goes_look (over (job_of k t.fuel) o) (EndsAs e) rest _ _ ((both_ways _ _ (sym (item_looks (over (job_of k t.fuel) o) (EndsAs e) t.calls k.starts t.now fresh x xs v rest))).0 r))
        (λ o e r. (both_ways _ _ (item_looks (over (job_of k t.fuel) o) (EndsAs e) t.calls k.starts t.now fresh x xs v [])).0 r)

    scoped_within : IsWorld (scoped fresh t.now).world k'.world
    scoped_within = at fresh
      where
        at : (b : Bool) → IsWorld (scoped b t.now).world k'.world
        at true = between_up t.now.world k.world k'.world l.grew.world h.worlds.world
        at false = between_up t.now.world k.world k'.world l.grew.world h.worlds.world

    begun_within : (b : Bool) (e : Expr) → IsWithin k'.world (begun_item e x b xs w t.now)
    begun_within true e = record { world = (l.low, l.high); waiting = (between_up t.now.world k.world k'.world l.grew.world h.worlds.world, worlds_up t.now.stack k.world k'.world l.grew.world h.worlds.waiting); called = tt }
    begun_within false e = record { world = (l.low, l.high); waiting = (between_up t.now.world k.world k'.world l.grew.world h.worlds.world, worlds_up t.now.stack k.world k'.world l.grew.world h.worlds.waiting); called = tt }

    defining_within : (b : Bool) (site : ℕ) → IsWithin k'.world (Defining site b xs, scoped b t.now)
    defining_within true site = record { world = between_up t.now.world k.world k'.world l.grew.world h.worlds.world; waiting = worlds_up t.now.stack k.world k'.world l.grew.world h.worlds.waiting; called = tt }
    defining_within false site = record { world = between_up t.now.world k.world k'.world l.grew.world h.worlds.world; waiting = worlds_up t.now.stack k.world k'.world l.grew.world h.worlds.waiting; called = tt }

    looked_within : (y : Item-F Expr Item Piece Stmt) → IsWithin k'.world (looked_item x y fresh xs w t.now)
    looked_within (F.Define site) = defining_within fresh site
    looked_within (F.Item::Bind slot e) = begun_within fresh e
    looked_within (F.Item::Do e) = begun_within fresh e

    begun_light : (b : Bool) (e : Expr) (y : Item-F Expr Item Piece Stmt) → load (begun_item e x b xs w t.now).0 (begun_item e x b xs w t.now).1 ≡ load (begun_item e x true xs w t.now).0 (begun_item e x true xs w t.now).1
    begun_light true e y = refl
    begun_light false e y = refl

    defining_light : (b : Bool) (site : ℕ) → load (Defining site b xs) (scoped b t.now) ≡ load (Defining site true xs) (scoped true t.now)
    defining_light true site = refl
    defining_light false site = refl

    looked_light : (y : Item-F Expr Item Piece Stmt) → out-Item x ≡ y → load (looked_item x y fresh xs w t.now).0 (looked_item x y fresh xs w t.now).1 < load (Items fresh (x ∷ xs) v) t.now
    looked_light (F.Define site) is = let weighs = item_weighs x ∙ ap item_layer is in let same = defining_light fresh site in omega (arith, weighs, same)
    looked_light (F.Item::Bind slot e) is = let weighs = item_weighs x ∙ ap item_layer is in let same = begun_light fresh e (F.Item::Bind slot e) in omega (arith, weighs, same)
    looked_light (F.Item::Do e) is = let weighs = item_weighs x ∙ ap item_layer is in let same = begun_light fresh e (F.Item::Do e) in omega (arith, weighs, same)

    pub step_item : let q = looked_item x (out-Item x) fresh xs w t.now in IsGoodPoint k.program h.valid.views q → Steps k (Items fresh (x ∷ xs) v) t k' q.0 (record t { now = q.1; trace = t.trace ++ Look w p ∷ [] })
    step_item good = record {
      fits = looks_to (Items fresh (x ∷ xs) v) h (looked_item x (out-Item x) fresh xs w t.now) (looked_within (out-Item x)) good
          (λ o rest e. item_looked (over (job_of k t.fuel) o) (EndsAs e) t.calls k.starts t.now fresh x xs v w p rest);
      lighter = let light = looked_light (out-Item x) refl in omega (arith, light);
      tells = inr (Look w p, a_look, refl, tt, l.starts, asks_look);
      follows = λ c. l.follows c t.trace;
    }

  -- a call in the newest world
  module _ (e : Expr) (f : ℕ) (xs : List Expr) (vs : List Value) (is : out-Expr e ≡ F.Latest f xs) (h : Fitting k (Acting e vs) t) where
    asks_newest : Asks (job_of k t.fuel) k t.trace a_look
    asks_newest =
        asks_by (job_of k t.fuel) k (Acting e vs) t a_look h
        (λ o rest d r. goes_look (over (job_of k t.fuel) o) (EndsAs d) rest _ _ ((both_ways _ _ (sym (acts_same (over (job_of k t.fuel) o) (EndsAs d) t.calls k.starts t.now e (F.Latest f xs) vs rest is))).0 r))
        (λ o d r. (both_ways _ _ (acts_same (over (job_of k t.fuel) o) (EndsAs d) t.calls k.starts t.now e (F.Latest f xs) vs [] is)).0 r)

    pub step_latest : IsGoodPoint k.program h.valid.views (Calling f w vs, t.now) → Steps k (Acting e vs) t k' (Calling f w vs) (record t { trace = t.trace ++ Look w p ∷ [] })
    step_latest good = record {
      fits = looks_to (Acting e vs) h (Calling f w vs, t.now)
          (record { world = between_up t.now.world k.world k'.world l.grew.world h.worlds.world; waiting = worlds_up t.now.stack k.world k'.world l.grew.world h.worlds.waiting; called = (l.low, l.high) }) good
          (λ o rest d. sym (acts_same (over (job_of k t.fuel) o) (EndsAs d) t.calls k.starts t.now e (F.Latest f xs) vs (Look w p ∷ rest) is));
      lighter = omega arith;
      tells = inr (Look w p, a_look, refl, tt, l.starts, asks_newest);
      follows = λ c. l.follows c t.trace;
    }

-- ---- a definition

module _ (k k' : Knows) (t : Progress) (site : ℕ) (fresh : Bool) (xs : List Item) (grew : Grew k k') (h : Fitting k (Defining site fresh xs) t) where
  asks_definition : Asks (job_of k t.fuel) k t.trace (a_definition site)
  asks_definition =
      asks_by (job_of k t.fuel) k (Defining site fresh xs) t (a_definition site) h
      (λ x rest e r. goes_definition (over (job_of k t.fuel) x) (EndsAs e) rest site (state_of t.now t.calls k.starts rest) _ r) (λ x e r. r)

  now_within : (work : Work) → IsWithin k'.world (Defining site fresh xs, t.now)
  now_within work = record { world = between_up t.now.world k.world k'.world grew.world h.worlds.world; waiting = worlds_up t.now.stack k.world k'.world grew.world h.worlds.waiting; called = tt }

  pub step_made : Defined k k' site → IsGoodPoint k.program h.valid.views (Items fresh xs V.Nothing, t.now)
      → Steps k (Defining site fresh xs) t k' (Items fresh xs V.Nothing) (record t { trace = t.trace ++ Def site (k'.seen - 1) ∷ [] })
  step_made d good =
      let at = d.place in
      let ws = now_within (Defining site fresh xs) in
      record {
        fits = item_fits (job_of k t.fuel) k k' (Defining site fresh xs) t h (Items fresh xs V.Nothing, t.now) (Def site (k'.seen - 1)) grew d.told (omega (arith, at)) (omega (arith, at)) (d.looks ∙ sym (add-zero k.looks)) d.own
            (record { world = ws.world; waiting = ws.waiting; called = tt }) good
            (λ x rest e. subst (λ starts. FinishesTo (job_of k t.fuel) x (Defining site fresh xs, t.now) t.calls k.starts (Def site (k'.seen - 1) ∷ rest) e ↔ FinishesTo (job_of k t.fuel) x (Items fresh xs V.Nothing, t.now) t.calls starts rest e) (sym d.starts) (λ r. r.1, λ r. (refl, r)));
        lighter = omega arith;
        tells = inr (Def site (k'.seen - 1), a_definition site, refl, refl, d.starts, asks_definition);
        follows = λ c. d.follows c t.trace;
      }

  pub step_worlds_full : WorldsFull k k' → IsGoodPoint k.program h.valid.views (Ended (O.Error WorldLimit), t.now)
      → Steps k (Defining site fresh xs) t k' (Ended (O.Error WorldLimit)) (record t { trace = t.trace ++ WorldFull k'.seen ∷ [] })
  step_worlds_full d good =
      let s = grew.seen in
      let ws = now_within (Defining site fresh xs) in
      record {
        fits = item_fits (job_of k t.fuel) k k' (Defining site fresh xs) t h (Ended (O.Error WorldLimit), t.now) (WorldFull k'.seen) grew d.told (omega (arith, s)) (omega arith) (d.looks ∙ sym (add-zero k.looks)) (d.own ∙ sym (append_nil k.own))
            (record { world = ws.world; waiting = ws.waiting; called = tt }) good
            (λ x rest e. subst (λ starts. FinishesTo (job_of k t.fuel) x (Defining site fresh xs, t.now) t.calls k.starts (WorldFull k'.seen ∷ rest) e ↔ FinishesTo (job_of k t.fuel) x (Ended (O.Error WorldLimit), t.now) t.calls starts rest e) (sym d.starts) (λ r. r, λ r. r));
        lighter = omega arith;
        tells = inr (WorldFull k'.seen, a_definition site, refl, tt, d.starts, asks_definition);
        follows = λ c. d.follows c t.trace;
      }

-- ---- a deletion

module _ (k k' : Knows) (t : Progress) (e : Expr) (place : ℕ) (vs : List Value) (is : out-Expr e ≡ F.Delete place) (grew : Grew k k') (h : Fitting k (Acting e vs) t) where
  abbrev of_task : Job
  of_task = job_of k t.fuel

  -- what the rules do here
  deletes_here : (x : Over) (o : Ending) (rest : List TraceItem) → FinishesTo of_task x (Acting e vs, t.now) t.calls k.starts rest o ≡ deletes (over of_task x) (EndsAs o) rest place (state_of t.now t.calls k.starts rest) (gives (over of_task x) (EndsAs o) t.now.stack t.now.world t.now.room V.Nothing)
  deletes_here x o rest = acts_same (over of_task x) (EndsAs o) t.calls k.starts t.now e (F.Delete place) vs rest is

  asks_deletion : Asks of_task k t.trace (a_deletion place)
  asks_deletion =
      asks_by of_task k (Acting e vs) t (a_deletion place) h
      (λ x rest o r. goes_deletion (over of_task x) (EndsAs o) rest place (state_of t.now t.calls k.starts rest) _ ((both_ways _ _ (sym (deletes_here x o rest))).0 r))
      (λ x o r. (both_ways _ _ (deletes_here x o [])).0 r)

  deletion_within : (work : Work) → IsWithin k'.world (Acting e vs, t.now)
  deletion_within work = record { world = between_up t.now.world k.world k'.world grew.world h.worlds.world; waiting = worlds_up t.now.stack k.world k'.world grew.world h.worlds.waiting; called = tt }

  deleted_same : (x : Over) (o : Ending) (rest : List TraceItem) (p : ℕ) → FinishesTo of_task x (Give V.Nothing, t.now) t.calls k.starts rest o ↔ deletes (over of_task x) (EndsAs o) (Del place p ∷ rest) place (state_of t.now t.calls k.starts (Del place p ∷ rest)) (gives (over of_task x) (EndsAs o) t.now.stack t.now.world t.now.room V.Nothing)
  deleted_same x o rest p = (λ r. (refl, r), λ r. r.1)

  absent_same : (x : Over) (o : Ending) (rest : List TraceItem) (p : ℕ)
      → FinishesTo of_task x (Ended (O.Error (NoSuchMethod (deleted_function k.program place))), t.now) t.calls k.starts rest o ↔ deletes (over of_task x) (EndsAs o) (Absent place p ∷ rest) place (state_of t.now t.calls k.starts (Absent place p ∷ rest)) (gives (over of_task x) (EndsAs o) t.now.stack t.now.world t.now.room V.Nothing)
  absent_same x o rest p = (λ r. (refl, r), λ r. r.1)

  pub step_deleted : Deleted k k' place → IsGoodPoint k.program h.valid.views (Give V.Nothing, t.now)
      → Steps k (Acting e vs) t k' (Give V.Nothing) (record t { trace = t.trace ++ Del place (k'.seen - 1) ∷ [] })
  step_deleted d good =
      let at = d.place in
      let ws = deletion_within (Acting e vs) in
      let i = Del place (k'.seen - 1) in
      record {
        fits = item_fits of_task k k' (Acting e vs) t h (Give V.Nothing, t.now) i grew d.told (omega (arith, at)) (omega (arith, at)) (d.looks ∙ sym (add-zero k.looks)) d.own
            (record { world = ws.world; waiting = ws.waiting; called = tt }) good
            (λ x rest o. subst (λ starts. FinishesTo of_task x (Acting e vs, t.now) t.calls k.starts (i ∷ rest) o ↔ FinishesTo of_task x (Give V.Nothing, t.now) t.calls starts rest o) (sym d.starts)
            (let same = both_ways _ _ (sym (deletes_here x o (i ∷ rest))) in let go = deleted_same x o rest (k'.seen - 1) in (λ r. go.1 (same.0 r), λ r. same.1 (go.0 r))));
        lighter = omega arith;
        tells = inr (i, a_deletion place, refl, refl, d.starts, asks_deletion);
        follows = λ c. d.follows c t.trace;
      }

  pub step_absent : IsAbsentNow k k' place → IsGoodPoint k.program h.valid.views (Ended (O.Error (NoSuchMethod (deleted_function k.program place))), t.now)
      → Steps k (Acting e vs) t k' (Ended (O.Error (NoSuchMethod (deleted_function k.program place)))) (record t { trace = t.trace ++ Absent place k'.seen ∷ [] })
  step_absent d good =
      let s = grew.seen in
      let ws = deletion_within (Acting e vs) in
      let i = Absent place k'.seen in
      let ends : Outcome = O.Error (NoSuchMethod (deleted_function k.program place)) in
      record {
        fits = item_fits of_task k k' (Acting e vs) t h (Ended ends, t.now) i grew d.told (omega (arith, s)) (omega arith) (d.looks ∙ sym (add-zero k.looks)) (d.own ∙ sym (append_nil k.own))
            (record { world = ws.world; waiting = ws.waiting; called = tt }) good
            (λ x rest o. subst (λ starts. FinishesTo of_task x (Acting e vs, t.now) t.calls k.starts (i ∷ rest) o ↔ FinishesTo of_task x (Ended ends, t.now) t.calls starts rest o) (sym d.starts)
            (let same = both_ways _ _ (sym (deletes_here x o (i ∷ rest))) in let go = absent_same x o rest k'.seen in (λ r. go.1 (same.0 r), λ r. same.1 (go.0 r))));
        lighter = omega arith;
        tells = inr (i, a_deletion place, refl, refl, d.starts, asks_deletion);
        follows = λ c. d.follows c t.trace;
      }

  pub step_deletion_full : WorldsFull k k' → IsGoodPoint k.program h.valid.views (Ended (O.Error WorldLimit), t.now)
      → Steps k (Acting e vs) t k' (Ended (O.Error WorldLimit)) (record t { trace = t.trace ++ WorldFull k'.seen ∷ [] })
  step_deletion_full d good =
      let s = grew.seen in
      let ws = deletion_within (Acting e vs) in
      let i = WorldFull k'.seen in
      record {
        fits = item_fits of_task k k' (Acting e vs) t h (Ended (O.Error WorldLimit), t.now) i grew d.told (omega (arith, s)) (omega arith) (d.looks ∙ sym (add-zero k.looks)) (d.own ∙ sym (append_nil k.own))
            (record { world = ws.world; waiting = ws.waiting; called = tt }) good
            (λ x rest o. subst (λ starts. FinishesTo of_task x (Acting e vs, t.now) t.calls k.starts (i ∷ rest) o ↔ FinishesTo of_task x (Ended (O.Error WorldLimit), t.now) t.calls starts rest o) (sym d.starts)
            (both_ways _ _ (sym (deletes_here x o (i ∷ rest)))));
        lighter = omega arith;
        tells = inr (i, a_deletion place, refl, tt, d.starts, asks_deletion);
        follows = λ c. d.follows c t.trace;
      }

-- ---- a spawn

module _ (k k' : Knows) (t : Progress) (e : Expr) (place : ℕ) (vs : List Value) (is : out-Expr e ≡ F.Spawn place) (grew : Grew k k') (h : Fitting k (Acting e vs) t) where
  abbrev j : Job
  j = job_of k t.fuel

  -- the start of a task that is spawned here
  abbrev start : Start
  start = start_of place t.now

  asks_spawn : Asks j k t.trace (a_spawn start)
  asks_spawn =
      asks_by j k (Acting e vs) t (a_spawn start) h
      (λ x rest o r. goes_spawn (over j x) (EndsAs o) rest start (state_of t.now t.calls k.starts rest) _ ((both_ways _ _ (sym (acts_same (over j x) (EndsAs o) t.calls k.starts t.now e (F.Spawn place) vs rest is))).0 r))
      (λ x o r. (both_ways _ _ (acts_same (over j x) (EndsAs o) t.calls k.starts t.now e (F.Spawn place) vs [] is)).0 r)

  spawn_within : (work : Work) → IsWithin k'.world (Acting e vs, t.now)
  spawn_within work = record { world = between_up t.now.world k.world k'.world grew.world h.worlds.world; waiting = worlds_up t.now.stack k.world k'.world grew.world h.worlds.waiting; called = tt }

  pub step_spawned : (child : ℕ) → Spawned k k' child start → IsGoodPoint k.program h.valid.views (Give (V.Task child), t.now)
      → Steps k (Acting e vs) t k' (Give (V.Task child)) (record t { trace = t.trace ++ Spawn child (k'.seen - 1) ∷ [] })
  step_spawned child d good =
      let at = d.place in
      let ws = spawn_within (Acting e vs) in
      let i = Spawn child (k'.seen - 1) in
      record {
        fits = item_fits j k k' (Acting e vs) t h (Give (V.Task child), t.now) i grew d.told (omega (arith, at)) (omega (arith, at)) (d.looks ∙ sym (add-zero k.looks)) d.own
            (record { world = ws.world; waiting = ws.waiting; called = tt }) good
            (λ x rest o. subst (λ starts. FinishesTo j x (Acting e vs, t.now) t.calls k.starts (i ∷ rest) o ↔ FinishesTo j x (Give (V.Task child), t.now) t.calls starts rest o) (sym d.starts)
            (both_ways _ _ (sym (acts_same (over j x) (EndsAs o) t.calls k.starts t.now e (F.Spawn place) vs (i ∷ rest) is))));
        lighter = omega arith;
        tells = inr (i, a_spawn start, refl, tt, d.starts, asks_spawn);
        follows = λ c. d.follows c t.trace;
      }

  pub step_tasks_full : TasksFull k k' → IsGoodPoint k.program h.valid.views (Ended (O.Error TaskLimit), t.now)
      → Steps k (Acting e vs) t k' (Ended (O.Error TaskLimit)) (record t { trace = t.trace ++ TaskFull k'.seen ∷ [] })
  step_tasks_full d good =
      let s = grew.seen in
      let ws = spawn_within (Acting e vs) in
      let i = TaskFull k'.seen in
      record {
        fits = item_fits j k k' (Acting e vs) t h (Ended (O.Error TaskLimit), t.now) i grew d.told (omega (arith, s)) (omega arith) (d.looks ∙ sym (add-zero k.looks)) (d.own ∙ sym (append_nil k.own))
            (record { world = ws.world; waiting = ws.waiting; called = tt }) good
            (λ x rest o. subst (λ starts. FinishesTo j x (Acting e vs, t.now) t.calls k.starts (i ∷ rest) o ↔ FinishesTo j x (Ended (O.Error TaskLimit), t.now) t.calls starts rest o) (sym d.starts)
            (both_ways _ _ (sym (acts_same (over j x) (EndsAs o) t.calls k.starts t.now e (F.Spawn place) vs (i ∷ rest) is))));
        lighter = omega arith;
        tells = inr (i, a_spawn start, refl, tt, d.starts, asks_spawn);
        follows = λ c. d.follows c t.trace;
      }

-- ---- a fetch

module _ (k k' : Knows) (t : Progress) (e a : Expr) (of : ℕ) (vs : List Value) (is : out-Expr e ≡ F.Fetch a) (task : value_at vs 0 ≡ V.Task of) (grew : Grew k k') (h : Fitting k (Acting e vs) t) where
  abbrev job : Job
  job = job_of k t.fuel

  -- what the rules do here
  fetches_here : (x : Over) (o : Ending) (rest : List TraceItem) → FinishesTo job x (Acting e vs, t.now) t.calls k.starts rest o ≡ fetches (over job x) (EndsAs o) rest of (state_of t.now t.calls k.starts rest) (gives (over job x) (EndsAs o) t.now.stack t.now.world t.now.room)
  fetches_here x o rest =
      acts_same (over job x) (EndsAs o) t.calls k.starts t.now e (F.Fetch a) vs rest is
      ∙ ap (λ v. fetches_value (over job x) (EndsAs o) v (state_of t.now t.calls k.starts rest) (gives (over job x) (EndsAs o) t.now.stack t.now.world t.now.room)) task

  asks_fetch : Asks job k t.trace (a_fetch of)
  asks_fetch =
      asks_by job k (Acting e vs) t (a_fetch of) h
      (λ x rest o r. goes_fetch (over job x) (EndsAs o) rest of (state_of t.now t.calls k.starts rest) _ ((both_ways _ _ (sym (fetches_here x o rest))).0 r))
      (λ x o r. (both_ways _ _ (fetches_here x o [])).0 r)

  fetch_within : (work : Work) → IsWithin k'.world (Acting e vs, t.now)
  fetch_within work = record { world = between_up t.now.world k.world k'.world grew.world h.worlds.world; waiting = worlds_up t.now.stack k.world k'.world grew.world h.worlds.waiting; called = tt }

  fetch_same : (x : Over) (o : Ending) (rest : List TraceItem) (q : Outcome) (p : ℕ) → FinishesTo job x (answered (fetched_outcome of q), t.now) t.calls k.starts rest o ↔ fetches (over job x) (EndsAs o) (Fetch of q p ∷ rest) of (state_of t.now t.calls k.starts (Fetch of q p ∷ rest)) (gives (over job x) (EndsAs o) t.now.stack t.now.world t.now.room)
  fetch_same x o rest (O.Value v) p = (λ r. (refl, r), λ r. r.1)
  fetch_same x o rest (O.Error fault) p = (λ r. (refl, r), λ r. r.1)

  answer_light : (q : Outcome) → load (answered q) t.now < load (Acting e vs) t.now
  answer_light (O.Value v) = omega arith
  answer_light (O.Error fault) = omega arith

  answer_called : (q : Outcome) → IsCallWorld (answered q) k'.world
  answer_called (O.Value v) = tt
  answer_called (O.Error fault) = tt

  pub step_fetched : (q : Outcome) → Fetched k k' of q → IsGoodPoint k.program h.valid.views (answered (fetched_outcome of q), t.now)
      → Steps k (Acting e vs) t k' (answered (fetched_outcome of q)) (record t { trace = t.trace ++ Fetch of q k'.seen ∷ [] })
  step_fetched q d good =
      let s = grew.seen in
      let ws = fetch_within (Acting e vs) in
      let i = Fetch of q k'.seen in
      record {
        fits = item_fits job k k' (Acting e vs) t h (answered (fetched_outcome of q), t.now) i grew d.told (omega (arith, s)) (omega arith) (d.looks ∙ sym (add-zero k.looks)) (d.own ∙ sym (append_nil k.own))
            (record { world = ws.world; waiting = ws.waiting; called = answer_called (fetched_outcome of q) }) good
            (λ x rest o. subst (λ starts. FinishesTo job x (Acting e vs, t.now) t.calls k.starts (i ∷ rest) o ↔ FinishesTo job x (answered (fetched_outcome of q), t.now) t.calls starts rest o) (sym d.starts)
            (let same = both_ways _ _ (sym (fetches_here x o (i ∷ rest))) in let go = fetch_same x o rest q k'.seen in (λ r. go.1 (same.0 r), λ r. same.1 (go.0 r))));
        lighter = let light = answer_light (fetched_outcome of q) in omega (arith, light);
        tells = inr (i, a_fetch of, refl, refl, d.starts, asks_fetch);
        follows = λ c. d.follows c t.trace;
      }

-- a value that is no task is refused
module _ (k : Knows) (t : Progress) (e a : Expr) (vs : List Value) (is : out-Expr e ≡ F.Fetch a) (h : Fitting k (Acting e vs) t) where
  -- a value that is no task
  abbrev pub IsNoTask : Value → Type 0
  IsNoTask (V.Task n) = ⊥
  IsNoTask (V.Int n) = Unit {0}
  IsNoTask (V.Bool b) = Unit {0}
  IsNoTask V.Nothing = Unit {0}
  IsNoTask (V.Tuple c) = Unit {0}
  IsNoTask (V.Struct c) = Unit {0}

  refused_same : (x : Over) (o : Ending) (rest : List TraceItem) (v : Value) → IsNoTask v
      → FinishesTo (job_of k t.fuel) x (Ended (O.Error (NotTask (type_of v))), t.now) t.calls k.starts rest o ≡ fetches_value (over (job_of k t.fuel) x) (EndsAs o) v (state_of t.now t.calls k.starts rest) (gives (over (job_of k t.fuel) x) (EndsAs o) t.now.stack t.now.world t.now.room)
  refused_same x o rest (V.Task n) other = absurd other
  refused_same x o rest (V.Int n) other = refl
  refused_same x o rest (V.Bool b) other = refl
  refused_same x o rest V.Nothing other = refl
  refused_same x o rest (V.Tuple c) other = refl
  refused_same x o rest (V.Struct c) other = refl

  pub step_refused : (v : Value) → value_at vs 0 ≡ v → IsNoTask v → IsGoodPoint k.program h.valid.views (Ended (O.Error (NotTask (type_of v))), t.now) → Steps k (Acting e vs) t k (Ended (O.Error (NotTask (type_of v)))) t
  step_refused v first other good =
      moves k t (Acting e vs) h (Ended (O.Error (NotTask (type_of v))), t.now) (record { worlds = λ w ws. record { world = w; waiting = ws; called = tt }; light = omega arith }) good
      (λ x rest o. both_ways _ _ (refused_same x o rest v other
      ∙ sym (ap (λ u. fetches_value (over (job_of k t.fuel) x) (EndsAs o) u (state_of t.now t.calls k.starts rest) (gives (over (job_of k t.fuel) x) (EndsAs o) t.now.stack t.now.world t.now.room)) first)
      ∙ sym (acts_same (over (job_of k t.fuel) x) (EndsAs o) t.calls k.starts t.now e (F.Fetch a) vs rest is)))

-- a task waits for another
pub waits : (k k' : Knows) (t : Progress) (w : Work) → Asked k k' → Fitting k w t → Waits k w t k'
waits k k' t w asked h = record {
  fits = grown (job_of k t.fuel) k k' w t (record { grew = asked.grew; looks = asked.looks; own = asked.own; starts = asked.starts }) h;
  follows = λ c. asked.follows c t.trace;
}
