-- What entries tell of which no cause holds: the events are legal but for the runs of the tasks.
use Rattle.std.proofs.Common.{◌≡◌, ◌∙◌, ap, sym, subst, refl, ℕ, zero, suc, ◌+◌, ◌<◌, ◌≤◌, arith, Bool, true, false, ◌||◌, nat_eq, List, [], ◌∷◌, ◌++◌, length, take, slice_get, append_assoc, append-nil, Option, Some, None, IsSome}
use Rattle.std.specs.List.{list_any}
use Rattle.jl_model.specs.declared.ty.Key.{Key}
use Rattle.jl_program.specs.declared.tree.Program.{Program}
use Rattle.jl_program.specs.declared.tree.Start.{Start}
use Rattle.jl_calculus.specs.declared.history.Event.{Event}
use Rattle.jl_calculus.specs.declared.history.Event.TheVariants as Ev
use Rattle.jl_calculus.specs.Legal.{fuel_of, MayCome, MayStand, IsTraced, AreFinished, HasTrueTrace, HasOwnEvents, OnDone, EachAfter}
use Rattle.jl_calculus.specs.Past.{tasks_of, done_of}
use Rattle.jl_world.proofs.Growth.{tasks_append, each_grow}
use Rattle.jl_report.specs.declared.entry.Entry.{Entry}
use Rattle.jl_report.specs.declared.entry.Entry.TheVariants as E
use Rattle.jl_causes.specs.declared.cause.Cause.TheVariants as C
use Rattle.jl_causes.specs.Sketch.{Tells, AllTell}
use Rattle.jl_causes.specs.Causes.{is_begin, StartWell, has_end, IsClean, AreClean}
use Rattle.jl_causes.proofs.SketchLemmas.{event_at, entry_at, end_there}

-- ---- one event

some_key : (o : Option Key) → IsSome o → (k : Key) × (o ≡ Some k)
some_key (Some k) h = (k, refl)
some_key None h = absurd (cc h)

module _ (P : Program) (all : List Entry) (es : List Event) where
  -- what a clean entry past the beginning tells may come
  pub comes : (x : Entry) (e : Event) → IsClean P all es x → Tells P x e → is_begin x ≡ false → MayCome P es e
  comes (E.Begin fuel) e c t b = absurd (cc b)
  comes (E.Key number function tuple) e c t b =
      let (key, named, is) = t in
      subst (MayCome P es) (sym is)
      (record { proper = named.proper; new = λ stands. (c C.KeyOrder).new key stands named; room = (c C.KeyOrder).room })
  comes (E.Fill number site begins) e c t b =
      let (key, at) = some_key _ (c C.FillKey).known in
      subst (MayCome P es) (sym t)
      (record {
        key = key;
        named = at;
        right = record { begun = c C.FillWorld key at; choice = c C.FillChoice key at };
        new = (c C.FillKey).new;
        room = (c C.FillKey).room;
      })
  comes (E.Def task site) e c t b =
      subst (MayCome P es) (sym t) (record { running = c C.NotRunning; may = c C.Site; room = c C.Limit })
  comes (E.Del task place) e c t b =
      subst (MayCome P es) (sym t) (record { running = c C.NotRunning; may = c C.NoDefinition; room = c C.Limit })
  comes (E.Spawn task child place) e c t b =
      subst (MayCome P es) (sym t) (record { running = c C.NotRunning; of_program = c C.Site; next = c C.ChildOrder; room = c C.Limit })
  comes (E.Done task calls trace output ending) e c t b = subst (MayCome P es) (sym t) (c C.NotRunning)

  -- the end of a task has a true trace and the task's own events
  pub traced : (x : Entry) (e : Event) → IsClean P all es x → Tells P x e → OnDone (HasTrueTrace P es) e
  traced (E.Begin fuel) e c t = subst (OnDone (HasTrueTrace P es)) (sym t) tt
  traced (E.Key number function tuple) e c t = subst (OnDone (HasTrueTrace P es)) (sym t.2) tt
  traced (E.Fill number site begins) e c t = subst (OnDone (HasTrueTrace P es)) (sym t) tt
  traced (E.Def task site) e c t = subst (OnDone (HasTrueTrace P es)) (sym t) tt
  traced (E.Del task place) e c t = subst (OnDone (HasTrueTrace P es)) (sym t) tt
  traced (E.Spawn task child place) e c t = subst (OnDone (HasTrueTrace P es)) (sym t) tt
  traced (E.Done task calls trace output ending) e c t = subst (OnDone (HasTrueTrace P es)) (sym t) (c C.ItemFalse)

  pub owned : (x : Entry) (e : Event) → IsClean P all es x → Tells P x e → OnDone (HasOwnEvents es) e
  owned (E.Begin fuel) e c t = subst (OnDone (HasOwnEvents es)) (sym t) tt
  owned (E.Key number function tuple) e c t = subst (OnDone (HasOwnEvents es)) (sym t.2) tt
  owned (E.Fill number site begins) e c t = subst (OnDone (HasOwnEvents es)) (sym t) tt
  owned (E.Def task site) e c t = subst (OnDone (HasOwnEvents es)) (sym t) tt
  owned (E.Del task place) e c t = subst (OnDone (HasOwnEvents es)) (sym t) tt
  owned (E.Spawn task child place) e c t = subst (OnDone (HasOwnEvents es)) (sym t) tt
  owned (E.Done task calls trace output ending) e c t = subst (OnDone (HasOwnEvents es)) (sym t) (c C.EventMissing)

-- ---- all events

-- what holds at each place holds of each after those before it
pub each_after : (R : List Event → Event → Type 0) (past es : List Event) → ((n : ℕ) (e : Event) → slice_get es n ≡ Some e → R (past ++ take n es) e) → EachAfter R past es
each_after R past [] h = tt
each_after R past (e ∷ es) h = (
  subst (λ xs. R xs e) (append-nil past) (h 0 e refl),
  each_after R (past ++ e ∷ []) es (λ n d at. subst (λ xs. R xs d) (sym (append_assoc past (e ∷ []) (take n es))) (h (suc n) d at)),
)

-- past the first entry there is no beginning
pub no_begin : (xs : List Entry) (n : ℕ) (x : Entry) → list_any is_begin xs ≡ false → slice_get xs n ≡ Some x → is_begin x ≡ false
no_begin [] zero x h g = absurd (cc g)
no_begin [] (suc n) x h g = absurd (cc g)
no_begin (y ∷ xs) n x h g = by (is_begin y) refl h n g (λ k m at. no_begin xs m x k at)
  where
    by : (b : Bool) → is_begin y ≡ b → (b || list_any is_begin xs) ≡ false → (n : ℕ) → slice_get (y ∷ xs) n ≡ Some x → (list_any is_begin xs ≡ false → (m : ℕ) → slice_get xs m ≡ Some x → is_begin x ≡ false) → is_begin x ≡ false
    by true q k n g more = absurd (cc k)
    by false q k zero g more =
        let same : y ≡ x = cc g in
        subst (λ z. is_begin z ≡ false) same q
    by false q k (suc n) g more = more k n g

-- a task past the root is spawned by some event
abbrev IsSpawned : List Event → ℕ → Type 0
IsSpawned es task = (n : ℕ) × (parent : ℕ) × (start : Start) × (slice_get es n ≡ Some (Ev.Spawn parent task start))

abbrev AreSpawned : List Event → Type 0
AreSpawned es = (task : ℕ) → 1 ≤ task → task < tasks_of es → IsSpawned es task

still_there : (es : List Event) (e d : Event) (n : ℕ) → slice_get es n ≡ Some d → slice_get (es ++ e ∷ []) n ≡ Some d
still_there [] e d zero h = absurd (cc h)
still_there [] e d (suc n) h = absurd (cc h)
still_there (x ∷ es) e d zero h = h
still_there (x ∷ es) e d (suc n) h = still_there es e d n h

at_end : (es : List Event) (e : Event) → slice_get (es ++ e ∷ []) (length es) ≡ Some e
at_end [] e = refl
at_end (x ∷ es) e = at_end es e

still_spawned : (es : List Event) (e : Event) (task : ℕ) → IsSpawned es task → IsSpawned (es ++ e ∷ []) task
still_spawned es e task (n, parent, start, at) = (n, parent, start, still_there es e _ n at)

spawned_more : (P : Program) (past : List Event) (e : Event) → AreSpawned past → MayCome P past e → AreSpawned (past ++ e ∷ [])
spawned_more P past (Ev.Begin fuel) h m task low high = still_spawned past _ task (h task low (omega (arith, high, tasks_append past (Ev.Begin fuel ∷ []))))
spawned_more P past (Ev.Key key) h m task low high = still_spawned past _ task (h task low (omega (arith, high, tasks_append past (Ev.Key key ∷ []))))
spawned_more P past (Ev.Fill key site begins) h m task low high = still_spawned past _ task (h task low (omega (arith, high, tasks_append past (Ev.Fill key site begins ∷ []))))
spawned_more P past (Ev.Def by site) h m task low high = still_spawned past _ task (h task low (omega (arith, high, tasks_append past (Ev.Def by site ∷ []))))
spawned_more P past (Ev.Del by place) h m task low high = still_spawned past _ task (h task low (omega (arith, high, tasks_append past (Ev.Del by place ∷ []))))
spawned_more P past (Ev.Done by ended) h m task low high = still_spawned past _ task (h task low (omega (arith, high, tasks_append past (Ev.Done by ended ∷ []))))
spawned_more P past (Ev.Spawn by child start) h m task low high = go (nat_eq child task) refl
  where
    more : tasks_of (past ++ Ev.Spawn by child start ∷ []) ≡ tasks_of past + 1
    more = omega (arith, tasks_append past (Ev.Spawn by child start ∷ []))

    go : (b : Bool) → nat_eq child task ≡ b → IsSpawned (past ++ Ev.Spawn by child start ∷ []) task
    go true q =
        let is : child ≡ task = grind (arith, q) in
        (length past, by, start, at_end past (Ev.Spawn by child start) ∙ ap (λ (t : ℕ). Some (Ev.Spawn by t start)) is)
    go false q =
        let other : child ≡ task → ⊥ = grind (arith, q) in
        still_spawned past (Ev.Spawn by child start) task (h task low (omega (arith, high, more, m.next, other)))

pub all_spawned : (P : Program) (es : List Event) → MayStand P es → AreSpawned es
all_spawned P es h = each_grow P AreSpawned (spawned_more P) [] es (λ task low high. absurd (omega (arith, low, high))) h.come

-- ---- the law for what the entries tell

pub get_front : (xs rest : List Entry) (n : ℕ) (x : Entry) → slice_get xs n ≡ Some x → slice_get (xs ++ rest) n ≡ Some x
get_front [] rest zero x g = absurd (cc g)
get_front [] rest (suc n) x g = absurd (cc g)
get_front (y ∷ xs) rest zero x g = g
get_front (y ∷ xs) rest (suc n) x g = get_front xs rest n x g

module _ (P : Program) (all : List Entry) (well : StartWell all) where
  -- the first entries are clean, and the events are what they tell
  module _ (xs : List Entry) (es : List Event) (rest : List Entry) (front : xs ++ rest ≡ all) (h : AreClean P all xs es) where
    pub comes_at : (n : ℕ) (e : Event) → slice_get es n ≡ Some e → MayCome P ([] ++ take n es) e
    comes_at n e at =
        let (x, there, tells) = entry_at P xs es n e h.told at in
        at_place n x (get_front xs rest n x there) tells (h.clean n x there)
      where
        begin_at : (all : List Entry) (x : Entry) → StartWell all → slice_get all 0 ≡ Some x → Tells P x e → MayCome P [] e
        begin_at [] x w g t = absurd w
        begin_at (E.Begin fuel ∷ ys) x w g t =
            let same : x ≡ E.Begin fuel = cc g in
            let is : e ≡ Ev.Begin fuel = subst (λ z. Tells P z e) same t in
            subst (MayCome P []) (sym is) (record { nothing_before = refl; allowed = w.0 })
        begin_at (E.Key number function tuple ∷ ys) x w g t = absurd w
        begin_at (E.Fill number site begins ∷ ys) x w g t = absurd w
        begin_at (E.Def task site ∷ ys) x w g t = absurd w
        begin_at (E.Del task place ∷ ys) x w g t = absurd w
        begin_at (E.Spawn task child place ∷ ys) x w g t = absurd w
        begin_at (E.Done task calls trace output ending ∷ ys) x w g t = absurd w

        later : (all : List Entry) (n : ℕ) (x : Entry) → StartWell all → slice_get all (suc n) ≡ Some x → is_begin x ≡ false
        later [] n x w g = absurd w
        later (E.Begin fuel ∷ ys) n x w g = no_begin ys n x w.1 g
        later (E.Key number function tuple ∷ ys) n x w g = absurd w
        later (E.Fill number site begins ∷ ys) n x w g = absurd w
        later (E.Def task site ∷ ys) n x w g = absurd w
        later (E.Del task place ∷ ys) n x w g = absurd w
        later (E.Spawn task child place ∷ ys) n x w g = absurd w
        later (E.Done task calls trace output ending ∷ ys) n x w g = absurd w

        at_place : (n : ℕ) (x : Entry) → slice_get (xs ++ rest) n ≡ Some x → Tells P x e → IsClean P all (take n es) x → MayCome P (take n es) e
        at_place zero x g t c = begin_at all x well (subst (λ ys. slice_get ys 0 ≡ Some x) front g) t
        at_place (suc n) x g t c = comes P all (take (suc n) es) x e c t (later all n x well (subst (λ ys. slice_get ys (suc n) ≡ Some x) front g))

    begun : 0 < length es → IsSome (fuel_of es)
    begun l = by es l h.told
      where
        first : (all : List Entry) (e : Event) (ds : List Event) (x : Entry) → StartWell all → slice_get all 0 ≡ Some x → Tells P x e → IsSome (fuel_of (e ∷ ds))
        first [] e ds x w g t = absurd w
        first (E.Begin fuel ∷ ys) e ds x w g t =
            let same : x ≡ E.Begin fuel = cc g in
            let is : e ≡ Ev.Begin fuel = subst (λ z. Tells P z e) same t in
            subst (λ d. IsSome (fuel_of (d ∷ ds))) (sym is) refl
        first (E.Key number function tuple ∷ ys) e ds x w g t = absurd w
        first (E.Fill number site begins ∷ ys) e ds x w g t = absurd w
        first (E.Def task site ∷ ys) e ds x w g t = absurd w
        first (E.Del task place ∷ ys) e ds x w g t = absurd w
        first (E.Spawn task child place ∷ ys) e ds x w g t = absurd w
        first (E.Done task calls trace output ending ∷ ys) e ds x w g t = absurd w

        by : (ds : List Event) → 0 < length ds → AllTell P xs ds → IsSome (fuel_of ds)
        by [] l t = absurd (omega (arith, l))
        by (e ∷ ds) l t =
            let (x, there, tells) = entry_at P xs (e ∷ ds) 0 e t refl in
            first all e ds x well (subst (λ ys. slice_get ys 0 ≡ Some x) front (get_front xs rest 0 x there)) tells

    pub stands : 0 < length es → MayStand P es
    stands l = record { begun = begun l; come = each_after (MayCome P) [] es comes_at }

    pub is_traced : IsTraced P es
    is_traced = record {
      traces = each_after (λ past. OnDone (HasTrueTrace P past)) [] es
          (λ n e at. let (x, there, tells) = entry_at P xs es n e h.told at in traced P all (take n es) x e (h.clean n x there) tells);
      own = each_after (λ past. OnDone (HasOwnEvents past)) [] es
          (λ n e at. let (x, there, tells) = entry_at P xs es n e h.told at in owned P all (take n es) x e (h.clean n x there) tells);
    }

  -- where no cause holds, each task ends
  pub finished : (es : List Event) → AreClean P all all es → AreFinished es
  finished es h task l = by (nat_eq task 0) refl
    where
      root : (all : List Entry) → StartWell all → (x : Entry) → slice_get all 0 ≡ Some x → (whole : List Entry) → IsClean P whole [] x → has_end whole 0 ≡ true
      root [] w x g whole c = absurd w
      root (E.Begin fuel ∷ ys) w x g whole c =
          let same : x ≡ E.Begin fuel = cc g in
          let begun : IsClean P whole [] (E.Begin fuel) = subst (IsClean P whole []) same c in
          begun C.Unfinished
      root (E.Key number function tuple ∷ ys) w x g whole c = absurd w
      root (E.Fill number site begins ∷ ys) w x g whole c = absurd w
      root (E.Def task site ∷ ys) w x g whole c = absurd w
      root (E.Del task place ∷ ys) w x g whole c = absurd w
      root (E.Spawn task child place ∷ ys) w x g whole c = absurd w
      root (E.Done task calls trace output ending ∷ ys) w x g whole c = absurd w

      some_first : (all : List Entry) → StartWell all → (x : Entry) × (slice_get all 0 ≡ Some x)
      some_first [] w = absurd w
      some_first (x ∷ ys) w = (x, refl)

      child_ends : (n parent : ℕ) (start : Start) (x : Entry) → IsClean P all (take n es) x → Tells P x (Ev.Spawn parent task start) → has_end all task ≡ true
      child_ends n parent start (E.Begin fuel) c t = absurd (cc t)
      child_ends n parent start (E.Key number function tuple) c t = absurd (cc (t.2))
      child_ends n parent start (E.Fill number site begins) c t = absurd (cc t)
      child_ends n parent start (E.Def by_task site) c t = absurd (cc t)
      child_ends n parent start (E.Del by_task place) c t = absurd (cc t)
      child_ends n parent start (E.Spawn by_task child place) c t =
          let same : child ≡ task = cc t in
          ap (has_end all) (sym same) ∙ c C.Unfinished
      child_ends n parent start (E.Done by_task calls trace output ending) c t = absurd (cc t)

      many : 0 < length es
      many =
          let (x, there) = some_first all well in
          let (e, at, tells) = event_at P all es 0 x h.told there in
          within es e at
        where
          within : (es : List Event) (e : Event) → slice_get es 0 ≡ Some e → 0 < length es
          within [] e g = absurd (cc g)
          within (d ∷ es) e g = omega arith

      by : (b : Bool) → nat_eq task 0 ≡ b → IsSome (done_of task es)
      by true q =
          let is : task ≡ 0 = grind (arith, q) in
          let (x, there) = some_first all well in
          end_there P all es task h.told (ap (has_end all) is ∙ root all well x there all (h.clean 0 x there))
      by false q =
          let past : 1 ≤ task = grind (arith, q) in
          let (n, parent, start, at) = all_spawned P es (stands all es [] (append-nil all) h many) task past l in
          let (x, there, tells) = entry_at P all es n (Ev.Spawn parent task start) h.told at in
          end_there P all es task h.told (child_ends n parent start x (h.clean n x there) tells)
