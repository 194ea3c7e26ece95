-- Of the entries of a legal history no cause holds.
use Rattle.std.proofs.Common.{◌≡◌, ◌∙◌, ap, sym, subst, refl, ℕ, zero, suc, ◌+◌, ◌<◌, arith, Bool, true, false, ◌||◌, cond, nat_eq, List, [], ◌∷◌, ◌++◌, length, take, slice_get, Option, Some}
use Rattle.std.specs.Option.{is_some}
use Rattle.std.specs.List.{Contains}
use Rattle.jl_model.specs.declared.ty.Key.{Key}
use Rattle.jl_model.specs.declared.ty.Ty.TheVariants.{Tuple}
use Rattle.jl_program.specs.declared.tree.Program.{Program}
use Rattle.jl_program.specs.declared.tree.Start.{Start}
use Rattle.jl_program.specs.Text.{function_name, type_text}
use Rattle.jl_calculus.specs.declared.history.Event.{Event}
use Rattle.jl_calculus.specs.declared.history.Event.TheVariants as Ev
use Rattle.jl_calculus.specs.declared.history.Record.{Record}
use Rattle.jl_calculus.specs.Legal.{MayCome, AreFinished, HasTrueTrace, HasOwnEvents, OnDone, EachAfter}
use Rattle.jl_calculus.specs.Past.{tasks_of, done_of}
use Rattle.jl_calculus.specs.Ranges.{keys_of, MayBegin, SelectsSite}
use Rattle.jl_world.proofs.Growth.{tasks_some}
use Rattle.jl_report.specs.declared.entry.Entry.{Entry}
use Rattle.jl_report.specs.declared.entry.Entry.TheVariants as E
use Rattle.jl_report.proofs.PlaceLemmas.{place_known}
use Rattle.jl_report.specs.HistoryText.{steps_of, ending_of, entry_of, keys_with, entries_from, entries_of}
use Rattle.jl_causes.specs.Sketch.{start_at, record_of, Names, Tells, AllTell}
use Rattle.jl_causes.specs.Causes.{has_end, IsClean}
use Rattle.jl_causes.specs.Laws.{AreApart, LegalHasNoCause}
use Rattle.jl_causes.proofs.SketchLemmas.{tell_take}
use Rattle.jl_causes.proofs.AlikeLemmas.{IsAlike, AreAlike, Same, alike_take, same, same_back, begin_to, selects_to, finds_to, running_to, world_to}
use Rattle.jl_causes.proofs.TableLemmas.{clean, begin_free, key_free, fill_free, def_free, del_free, spawn_free, done_free}
use Rattle.jl_causes.proofs.TraceLemmas.{trace_back, own_back}
use Rattle.jl_causes.proofs.LawLemmas.{each_at, steps_items}

-- ---- what the entries of a history tell

abbrev sketch : Event → Event
sketch (Ev.Begin fuel) = Ev.Begin fuel
sketch (Ev.Key key) = Ev.Key key
sketch (Ev.Fill key site begins) = Ev.Fill key site begins
sketch (Ev.Def by site) = Ev.Def by site
sketch (Ev.Del by place) = Ev.Del by place
sketch (Ev.Spawn by child start) = Ev.Spawn by child (start_at start.spawn)
sketch (Ev.Done by ended) = Ev.Done by (record_of ended.calls (steps_of ended.trace) ended.output)

abbrev sketches : List Event → List Event
sketches [] = []
sketches (d ∷ ds) = sketch d ∷ sketches ds

alike_sketch : (d : Event) → IsAlike (sketch d) d
alike_sketch (Ev.Begin fuel) = refl
alike_sketch (Ev.Key key) = refl
alike_sketch (Ev.Fill key site begins) = refl
alike_sketch (Ev.Def by site) = refl
alike_sketch (Ev.Del by place) = refl
alike_sketch (Ev.Spawn by child start) = (start, refl, refl)
alike_sketch (Ev.Done by ended) = (ended, refl, sym (steps_items (steps_of ended.trace)))

alike_sketches : (ds : List Event) → AreAlike (sketches ds) ds
alike_sketches [] = refl
alike_sketches (d ∷ ds) = (alike_sketch d, alike_sketches ds)

tells_sketch : (P : Program) (past : List Event) (k : ℕ) (d : Event) → MayCome P past d → Tells P (entry_of P k d) (sketch d)
tells_sketch P past k (Ev.Begin fuel) m = refl
tells_sketch P past k (Ev.Key key) m = (key, record { proper = m.proper; by_function = refl; by_types = refl }, refl)
tells_sketch P past k (Ev.Fill key site begins) m = refl
tells_sketch P past k (Ev.Def by site) m = refl
tells_sketch P past k (Ev.Del by place) m = refl
tells_sketch P past k (Ev.Spawn by child start) m = refl
tells_sketch P past k (Ev.Done by ended) m = refl

tell_sketches : (P : Program) (past ds : List Event) (k : ℕ) → EachAfter (MayCome P) past ds → AllTell P (entries_from P k ds) (sketches ds)
tell_sketches P past [] k h = refl
tell_sketches P past (d ∷ ds) k h = (tells_sketch P past k d h.0, tell_sketches P (past ++ d ∷ []) ds (keys_with k d) h.1)

-- the entry at a place is that of the event there, with the keys before it
keys_step : (k : ℕ) (d : Event) (ds : List Event) → keys_with k d + length (keys_of ds) ≡ k + length (keys_of (d ∷ ds))
keys_step k (Ev.Begin fuel) ds = refl
keys_step k (Ev.Key key) ds = omega arith
keys_step k (Ev.Fill key site begins) ds = refl
keys_step k (Ev.Def by site) ds = refl
keys_step k (Ev.Del by place) ds = refl
keys_step k (Ev.Spawn by child start) ds = refl
keys_step k (Ev.Done by ended) ds = refl

abbrev IsEntryAt : Program → ℕ → List Event → ℕ → Entry → Type 0
IsEntryAt P k ds n x = (d : Event) × (slice_get ds n ≡ Some d) × (x ≡ entry_of P (k + length (keys_of (take n ds))) d)

entry_there : (P : Program) (k : ℕ) (ds : List Event) (n : ℕ) (x : Entry) → slice_get (entries_from P k ds) n ≡ Some x → IsEntryAt P k ds n x
entry_there P k [] zero x g = absurd (cc g)
entry_there P k [] (suc n) x g = absurd (cc g)
entry_there P k (d ∷ ds) zero x g =
    let none : k ≡ k + 0 = omega arith in
    (d, refl, sym (cc g) ∙ ap (λ m. entry_of P m d) none)
entry_there P k (d ∷ ds) (suc n) x g =
    let (e, at, is) = entry_there P (keys_with k d) ds n x g in
    (e, at, is ∙ ap (λ m. entry_of P m e) (keys_step k d (take n ds)))

-- a task that ends has its end among the entries
end_among : (P : Program) (k : ℕ) (ds : List Event) (task : ℕ) → has_end (entries_from P k ds) task ≡ is_some (done_of task ds)
end_among P k [] task = refl
end_among P k (Ev.Begin fuel ∷ ds) task = end_among P k ds task
end_among P k (Ev.Key key ∷ ds) task = end_among P (k + 1) ds task
end_among P k (Ev.Fill key site begins ∷ ds) task = end_among P k ds task
end_among P k (Ev.Def by site ∷ ds) task = end_among P k ds task
end_among P k (Ev.Del by place ∷ ds) task = end_among P k ds task
end_among P k (Ev.Spawn by child start ∷ ds) task = end_among P k ds task
end_among P k (Ev.Done by ended ∷ ds) task = go (nat_eq by task) (end_among P k ds task)
  where
    go : (b : Bool) → has_end (entries_from P k ds) task ≡ is_some (done_of task ds) → (b || has_end (entries_from P k ds) task) ≡ is_some (cond b (Some ended) (done_of task ds))
    go true h = refl
    go false h = h

-- ---- each entry is clean

-- the task that an event starts ends in the text
abbrev EndsAll : List Entry → Event → Type 0
EndsAll all (Ev.Begin fuel) = has_end all 0 ≡ true
EndsAll all (Ev.Spawn by child start) = has_end all child ≡ true
EndsAll all (Ev.Key key) = Unit {0}
EndsAll all (Ev.Fill key site begins) = Unit {0}
EndsAll all (Ev.Def by site) = Unit {0}
EndsAll all (Ev.Del by place) = Unit {0}
EndsAll all (Ev.Done by ended) = Unit {0}

same_some : (key other : Key) (o : Option Key) → o ≡ Some key → o ≡ Some other → key ≡ other
same_some key other o h k = cc (h, k)

module _ (P : Program) (apart : AreApart P) (all : List Entry) (es ds : List Event) (h : AreAlike es ds) (xs : List Entry) (told : AllTell P xs es) where
  back : Same ds es
  back = same_back es ds (same es ds h)

  clean_key : (k : ℕ) (key : Key) → k ≡ length (keys_of ds) → MayCome P ds (Ev.Key key) → IsClean P all es (entry_of P k (Ev.Key key))
  clean_key k key counted m =
      let named : Names P (function_name P key.function) (type_text P (Tuple key.types)) key = record { proper = m.proper; by_function = refl; by_types = refl } in
      clean P all es (entry_of P k (Ev.Key key))
      (key_free P all es 14 k (function_name P key.function) (type_text P (Tuple key.types))
      (λ l.
      record {
        counted = counted ∙ ap length (sym back.keys);
        new = λ other stands n. m.new (subst (λ ks. Contains ks key) back.keys (subst (Contains (keys_of es)) (apart _ _ other key n named) stands));
        room = omega (arith, ap length back.keys, m.room);
      })
      (λ l. (key, named)))

  clean_fill : (k number site begins : ℕ) → MayCome P ds (Ev.Fill number site begins) → IsClean P all es (entry_of P k (Ev.Fill number site begins))
  clean_fill k number site begins m =
      let at : slice_get (keys_of es) number ≡ Some m.key = ap (λ ks. slice_get ks number) back.keys ∙ m.named in
      clean P all es (entry_of P k (Ev.Fill number site begins))
      (fill_free P all es 14 number site begins
      (λ l.
      record {
        known = ap is_some at;
        new = λ row stands. m.new row (subst (λ rs. Contains rs row) back.rows stands);
        room = omega (arith, ap length back.rows, m.room);
      })
      (λ l key there. subst (λ q. MayBegin P es q begins) (same_some m.key key _ at there) (begin_to P ds es back m.key begins m.right.begun))
      (λ l key there. subst (λ q. SelectsSite P es q begins site) (same_some m.key key _ at there) (selects_to P ds es back m.key begins site m.right.choice)))

  clean_def : (k by site : ℕ) → MayCome P ds (Ev.Def by site) → IsClean P all es (entry_of P k (Ev.Def by site))
  clean_def k by site m =
      clean P all es (entry_of P k (Ev.Def by site))
      (def_free P all es 14 by site (λ l. running_to P ds es back by m.running) (λ l. m.may) (λ l. omega (arith, world_to P ds es back, m.room)))

  clean_del : (k by place : ℕ) → MayCome P ds (Ev.Del by place) → IsClean P all es (entry_of P k (Ev.Del by place))
  clean_del k by place m =
      clean P all es (entry_of P k (Ev.Del by place))
      (del_free P all es 14 by place (λ l. running_to P ds es back by m.running) (λ l. place_known P ds place m.may) (λ l. finds_to P ds es back place m.may) (λ l. omega (arith, world_to P ds es back, m.room)))

  clean_spawn : (k by child : ℕ) (start : Start) → has_end all child ≡ true → MayCome P ds (Ev.Spawn by child start) → IsClean P all es (entry_of P k (Ev.Spawn by child start))
  clean_spawn k by child start ends m =
      clean P all es (entry_of P k (Ev.Spawn by child start))
      (spawn_free P all es 14 by child start.spawn (λ l. running_to P ds es back by m.running) (λ l. m.of_program) (λ l. omega (arith, m.next, back.tasks)) (λ l. omega (arith, back.tasks, m.room)) (λ l. ends))

  clean_done : (k by : ℕ) (ended : Record) → HasTrueTrace P ds by ended → HasOwnEvents ds by ended → MayCome P ds (Ev.Done by ended) → IsClean P all es (entry_of P k (Ev.Done by ended))
  clean_done k by ended t o m =
      clean P all es (entry_of P k (Ev.Done by ended))
      (done_free P all es 14 by ended.calls (steps_of ended.trace) ended.output (ending_of P ended.outcome) (λ l. running_to P ds es back by m)
      (λ l. trace_back P es ds h xs told by ended.calls ended.output ended t) (λ l. own_back P es ds h xs told by ended.calls ended.output ended o))

  clean_event : (k : ℕ) (d : Event) → k ≡ length (keys_of ds) → EndsAll all d → MayCome P ds d → OnDone (HasTrueTrace P ds) d → OnDone (HasOwnEvents ds) d → IsClean P all es (entry_of P k d)
  clean_event k (Ev.Begin fuel) counted ends m t o = clean P all es (E.Begin fuel) (begin_free P all es 14 fuel (λ l. ends))
  clean_event k (Ev.Key key) counted ends m t o = clean_key k key counted m
  clean_event k (Ev.Fill number site begins) counted ends m t o = clean_fill k number site begins m
  clean_event k (Ev.Def by site) counted ends m t o = clean_def k by site m
  clean_event k (Ev.Del by place) counted ends m t o = clean_del k by place m
  clean_event k (Ev.Spawn by child start) counted ends m t o = clean_spawn k by child start ends m
  clean_event k (Ev.Done by ended) counted ends m t o = clean_done k by ended t o m

-- the child of a spawn is a task of the whole list
more_tasks : (ds : List Event) (n by child : ℕ) (start : Start) → slice_get ds n ≡ Some (Ev.Spawn by child start) → tasks_of (take n ds) < tasks_of ds
more_tasks [] zero by child start g = absurd (cc g)
more_tasks [] (suc n) by child start g = absurd (cc g)
more_tasks (d ∷ ds) zero by child start g =
    let is : d ≡ Ev.Spawn by child start = cc g in
    subst (λ x. 1 < tasks_of (x ∷ ds)) (sym is) (omega (arith, tasks_some ds))
more_tasks (Ev.Begin fuel ∷ ds) (suc n) by child start g = more_tasks ds n by child start g
more_tasks (Ev.Key key ∷ ds) (suc n) by child start g = more_tasks ds n by child start g
more_tasks (Ev.Fill key site begins ∷ ds) (suc n) by child start g = more_tasks ds n by child start g
more_tasks (Ev.Def task site ∷ ds) (suc n) by child start g = more_tasks ds n by child start g
more_tasks (Ev.Del task place ∷ ds) (suc n) by child start g = more_tasks ds n by child start g
more_tasks (Ev.Spawn task other s ∷ ds) (suc n) by child start g = omega (arith, more_tasks ds n by child start g)
more_tasks (Ev.Done task ended ∷ ds) (suc n) by child start g = more_tasks ds n by child start g

ends_all : (P : Program) (ds : List Event) → AreFinished ds → (n : ℕ) (d : Event) → slice_get ds n ≡ Some d → MayCome P (take n ds) d → EndsAll (entries_of P ds) d
ends_all P ds f n (Ev.Begin fuel) at m = end_among P 0 ds 0 ∙ f 0 (omega (arith, tasks_some ds))
ends_all P ds f n (Ev.Key key) at m = tt
ends_all P ds f n (Ev.Fill key site begins) at m = tt
ends_all P ds f n (Ev.Def by site) at m = tt
ends_all P ds f n (Ev.Del by place) at m = tt
ends_all P ds f n (Ev.Spawn by child start) at m = end_among P 0 ds child ∙ f child (omega (arith, m.next, more_tasks ds n by child start at))
ends_all P ds f n (Ev.Done by ended) at m = tt

pub legal_has_no_cause : LegalHasNoCause
legal_has_no_cause P ds apart stand traced f =
    let all = entries_of P ds in
    let told = tell_sketches P [] ds 0 stand.come in (
      sketches ds,
      record {
        told = told;
        clean = λ n x at.
            let (d, there, is) = entry_there P 0 ds n x at in
            let m = each_at (MayCome P) [] ds n d stand.come there in
            subst (IsClean P all (take n (sketches ds))) (sym is)
            (clean_event P apart all (take n (sketches ds)) (take n ds) (alike_take n (sketches ds) ds (alike_sketches ds)) (take n all) (tell_take P n all (sketches ds) told)
            (0 + length (keys_of (take n ds))) d (omega arith) (ends_all P ds f n d there m) m
            (each_at (λ past. OnDone (HasTrueTrace P past)) [] ds n d traced.traces there) (each_at (λ past. OnDone (HasOwnEvents past)) [] ds n d traced.own there));
      },
    )
