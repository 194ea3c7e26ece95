-- The stores of the book's seat keep the rule.
use Rattle.std.proofs.Common.{◌≡◌, ◌≢◌, ◌∙◌, ap, sym, subst, refl, ℕ, suc, ◌+◌, ◌*◌, ◌<◌, ◌≤◌, ◌⊎◌, inl, inr, ⊎_elim, arith, Bool, true, false, cond, nat_eq, List, [], ◌∷◌, ◌++◌, map, length, set, slice_get, append-nil, length-append, Option, Some, None, IsSome}
use Rattle.std.proofs.lemmas.Option.{slice_get_within}
use Rattle.std.specs.Prelude.{slice_index, slice_set}
use mathlib.Core.Option.{some, none}
use lib.ListN.{get_elem?}
use Rattle.atomic_table.specs.Table.{State, Me, Step, step, keeps, Allows}
use Rattle.jl_program.specs.declared.tree.Program.{Program}
use Rattle.jl_program.specs.declared.tree.Start.{Start}
use Rattle.jl_calculus.specs.declared.history.Change.TheVariants as Ch
use Rattle.jl_calculus.specs.declared.history.Event.{Event}
use Rattle.jl_calculus.specs.declared.history.Event.TheVariants as Ev
use Rattle.jl_calculus.specs.declared.history.Record.{Record}
use Rattle.jl_calculus.specs.declared.history.TraceItem.TheVariants.{Spawn}
use Rattle.jl_calculus.specs.Legal.{fuel_of, start_of, IsRunning, MayCome, MayStand}
use Rattle.jl_calculus.specs.Past.{tasks_of, done_of, own_events, own_starts}
use Rattle.jl_calculus.specs.Ranges.{CacheRow, keys_of, rows_of}
use Rattle.jl_calculus.specs.World.{world_of}
use Rattle.jl_calculus.proofs.GrowthLemmas.{keys_append, rows_append}
use Rattle.jl_world.specs.declared.about.About.{About}
use Rattle.jl_world.specs.declared.row_word.RowWord.{RowWord}
use Rattle.jl_world.specs.declared.row_word.RowWord.TheVariants.{Last}
use Rattle.jl_world.specs.declared.view.TaskView.{TaskView}
use Rattle.jl_world.specs.declared.view.BookView.{BookView}
use Rattle.jl_world.specs.declared.view.View.{View}
use Rattle.jl_world.specs.declared.view.View.TheVariants.{Nobody, Task, Book}
use Rattle.jl_world.specs.Adds.{HoldsActor, IsNarrow, HasPlaceFor, IsReady, MayFollow, MayAdd}
use Rattle.jl_world.specs.Places.{AreFew, AreNarrow, HasPlaces, word_count, row_place, place_of, word_of}
use Rattle.jl_world.specs.Rule.{Now, IsOpenRow, IsHistory, Words, IsWhole, SeatIs, Kept, Holds}
use Rattle.jl_world.specs.Views.{Begins, Each, IsViewOf, IsOwn, Fits, HasTask, NoTwice, begun, book_of, cut_at, fuel_in, grown, held_after, is_of, noted, number_or_zero, own_of, parts, starts_of, stored_at, without}
use Rattle.jl_world.proofs.Bounds.{few_events}
use Rattle.jl_world.proofs.Growth.{NotOf, KeepsOn, IsAside, agree, agreed, aside, begins_more, begins_self, differ, done_append, fuel_append, own_append, runs_on, stand_push, start_before, start_later, starts_append, still_true, tasks_append, unstarted}
use Rattle.jl_world.proofs.SeatLists.{each_map, SeatsAre, OneSeat, Apart, seats_set, one_set, still_apart}
use Rattle.jl_world.proofs.Wording.{words_noted, IsChangeBy, words_changed, words_linked, words_cut, words_stored}

-- ---- one view

module _ (P : Program) (es : List Event) (e : Event) where
  abbrev more : List Event
  more = es ++ e ∷ []

  -- a task whose event it is not
  view_kept : (t : ℕ) (v : TaskView) → IsAside e t → IsViewOf es t v → IsViewOf more t v
  view_kept t v a h = record {
    running = runs_on t es e a.2.0 h.running;
    start = h.start ∙ sym (start_before t es (e ∷ []) a.2.1);
    fuel = fuel_append es (e ∷ []) h.running.begun ∙ h.fuel;
    own = h.own ∙ sym (own_append t 0 es (e ∷ []) ∙ ap (λ xs. own_events t 0 es ++ xs) (a.0 (0 + length es)) ∙ append-nil (own_events t 0 es));
    starts = h.starts ∙ sym (starts_append t es (e ∷ []) ∙ ap (λ (xs : List Start). own_starts t es ++ xs) a.1 ∙ append-nil (own_starts t es));
  }

  -- one that may have made it
  view_noted : (t : ℕ) (v : TaskView) → v.task ≡ Some t → KeepsOn e t → IsViewOf es t v → IsViewOf more t (noted (length es) e v)
  view_noted t v is a h = record {
    running = runs_on t es e a.0 h.running;
    start = h.start ∙ sym (start_before t es (e ∷ []) a.1);
    fuel = fuel_append es (e ∷ []) h.running.begun ∙ h.fuel;
    own = ap (λ o. v.own ++ own_of o (length es) (e ∷ [])) is ∙ ap (λ xs. xs ++ own_events t (length es) (e ∷ [])) h.own ∙ ap (λ n. own_events t 0 es ++ own_events t n (e ∷ [])) (let z : length es ≡ 0 + length es = omega arith in z) ∙ sym (own_append t 0 es (e ∷ []));
    starts = ap (λ o. v.starts ++ starts_of o (e ∷ [])) is ∙ ap (λ (xs : List Start). xs ++ own_starts t (e ∷ [])) h.starts ∙ sym (starts_append t es (e ∷ []));
  }

  fits_grow : (v : TaskView) → ((t : ℕ) → v.task ≡ Some t → IsRunning es t → IsAside e t) → Fits P es v → Fits P more v
  fits_grow v a fits =
      let b = begins_more v.seen es (e ∷ []) fits.prefix in
      record { prefix = b; stand = fits.stand; learnt = still_true P v.seen more b; own = own v.task a fits.own }
    where
      own : (o : Option ℕ) → ((t : ℕ) → o ≡ Some t → IsRunning es t → IsAside e t) → IsOwn es o v → IsOwn more o v
      own None a h = tt
      own (Some t) a h = view_kept t v (a t refl h.running) h

  fits_noted : (v : TaskView) → ((t : ℕ) → v.task ≡ Some t → IsRunning es t → KeepsOn e t) → Fits P es v → Fits P more (noted (length es) e v)
  fits_noted v a fits =
      let b = begins_more v.seen es (e ∷ []) fits.prefix in
      record { prefix = b; stand = fits.stand; learnt = still_true P v.seen more b; own = own v.task refl a fits.own }
    where
      own : (o : Option ℕ) → v.task ≡ o → ((t : ℕ) → o ≡ Some t → IsRunning es t → KeepsOn e t) → IsOwn es o v → IsOwn more o (noted (length es) e v)
      own None is a h = tt
      own (Some t) is a h = view_noted t v is (a t refl h.running) h

-- ---- the views that are held

is_of_self : (t : ℕ) (o : Option ℕ) → o ≡ Some t → is_of t o ≡ true
is_of_self t o is = ap (is_of t) is ∙ agreed t t refl

put_if : (Q : TaskView → Type 0) (b : Bool) (v : TaskView) (vs : List TaskView) → (b ≡ false → Q v) → Each Q vs → Each Q (cond b vs (v ∷ vs))
put_if Q true v vs h e = e
put_if Q false v vs h e = (h refl, e)

fits_without : (P : Program) (es : List Event) (t : ℕ) (r : Record) (vs : List TaskView) → Each (Fits P es) vs → Each (Fits P (es ++ Ev.Done t r ∷ [])) (without t vs)
fits_without P es t r [] each = tt
fits_without P es t r (v ∷ vs) each =
    put_if (Fits P (es ++ Ev.Done t r ∷ [])) (is_of t v.task) v (without t vs)
    (λ no. fits_grow P es (Ev.Done t r) v (λ u is run. aside (Ev.Done t r) u (λ same. absurd (cc (no, is_of_self t v.task (is ∙ ap Some (sym same)))))) each.0)
    (fits_without P es t r vs each.1)

-- who holds a task of these fits knows that it is running
pub has_running : (P : Program) (es : List Event) (t : ℕ) (vs : List TaskView) → Each (Fits P es) vs → HasTask t vs → IsRunning es t
has_running P es t [] fits has = absurd has
has_running P es t (v ∷ vs) fits (inl is) = (subst (λ (o : Option ℕ). IsOwn es o v) is fits.0.own).running
has_running P es t (v ∷ vs) fits (inr has) = has_running P es t vs fits.1 has

fuel_is : (o : Option ℕ) → IsSome o → o ≡ Some (number_or_zero o)
fuel_is None h = absurd cc
fuel_is (Some n) h = refl

fits_child : (P : Program) (es : List Event) (t c : ℕ) (start : Start) → MayStand P es → MayCome P es (Ev.Spawn t c start)
    → Fits P (es ++ Ev.Spawn t c start ∷ []) (begun c (Some start) (es ++ Ev.Spawn t c start ∷ []))
fits_child P es t c start stand may =
    let e : Event = Ev.Spawn t c start in
    let all : List Event = es ++ e ∷ [] in
    let u = unstarted P es stand c (omega (arith, may.next)) in
    let apart : nat_eq t c ≡ false = differ t c (λ same. omega (arith, same, may.next, may.running.started)) in
    let next = stand_push P es e stand may in
    record {
      prefix = begins_self all;
      stand = next;
      learnt = still_true P all all (begins_self all);
      own = record {
        running = record {
          begun = next.begun;
          started = omega (arith, tasks_append es (e ∷ []), may.next);
          going = done_append c es (e ∷ []) u.going;
        };
        start = sym (start_later c es (e ∷ []) u.start ∙ ap (λ b. cond b (Some start) None) (agreed c c refl));
        fuel = fuel_is (fuel_of all) next.begun;
        own = sym (own_append c 0 es (e ∷ []) ∙ ap (λ xs. xs ++ own_events c (0 + length es) (e ∷ [])) u.own ∙ ap (λ b. cond b (Spawn c (0 + length es) ∷ []) []) apart);
        starts = sym (starts_append c es (e ∷ []) ∙ ap (λ (xs : List Start). xs ++ own_starts c (e ∷ [])) u.starts ∙ ap (λ b. cond b (start ∷ []) []) apart);
      };
    }

module _ (about : About) (b : BookView) where
  abbrev P : Program
  P = about.program.value

  abbrev FitsAll : List TaskView → Type 0
  FitsAll vs = Each (Fits P b.events) vs

  abbrev after : Event → List Event
  after e = b.events ++ e ∷ []

  all_noted : (e : Event) → ((t : ℕ) → IsRunning b.events t → KeepsOn e t) → FitsAll b.held → Each (Fits P (after e)) (map (noted (length b.events) e) b.held)
  all_noted e goes fits = each_map (Fits P b.events) (Fits P (after e)) (noted (length b.events) e) (λ v f. fits_noted P b.events e v (λ t is run. goes t run) f) b.held fits

  held_fits : (e : Event) → MayAdd about b e → MayStand P b.events → MayCome P b.events e → FitsAll b.held → Each (Fits P (after e)) (held_after b.events e b.held)
  held_fits (Ev.Begin fuel) may stand come fits = absurd may.may
  held_fits (Ev.Key key) may stand come fits = all_noted (Ev.Key key) (λ t run. (refl, refl)) fits
  held_fits (Ev.Fill number site first) may stand come fits = all_noted (Ev.Fill number site first) (λ t run. (refl, refl)) fits
  held_fits (Ev.Def task site) may stand come fits = all_noted (Ev.Def task site) (λ t run. (refl, refl)) fits
  held_fits (Ev.Del task place) may stand come fits = all_noted (Ev.Del task place) (λ t run. (refl, refl)) fits
  held_fits (Ev.Spawn task child start) may stand come fits = (
    fits_child P b.events task child start stand come,
    all_noted (Ev.Spawn task child start) (λ t run. (refl, ap (λ x. cond x (Some start) None) (differ child t (λ same. omega (arith, same, come.next, run.started))))) fits,
  )
  held_fits (Ev.Done task ended) may stand come fits = fits_without P b.events task ended b.held fits

  may_come : (e : Event) → MayAdd about b e → FitsAll b.held → MayCome P b.events e
  may_come (Ev.Begin fuel) may fits = absurd may.may
  may_come (Ev.Key key) may fits = may.may
  may_come (Ev.Fill number site first) may fits = may.may
  may_come (Ev.Def task site) may fits = record { running = has_running P b.events task b.held fits may.holds; may = may.may.0; room = may.may.1 }
  may_come (Ev.Del task place) may fits = record { running = has_running P b.events task b.held fits may.holds; may = may.may.0; room = may.may.1 }
  may_come (Ev.Spawn task child start) may fits = may.may
  may_come (Ev.Done task ended) may fits = has_running P b.events task b.held fits may.holds

has_map : (f : TaskView → TaskView) → ((v : TaskView) → (f v).task ≡ v.task) → (t : ℕ) (vs : List TaskView) → HasTask t (map f vs) → HasTask t vs
has_map f same t [] has = has
has_map f same t (v ∷ vs) (inl is) = inl (sym (same v) ∙ is)
has_map f same t (v ∷ vs) (inr has) = inr (has_map f same t vs has)

has_kept : (b : Bool) (t : ℕ) (v : TaskView) (vs : List TaskView) → HasTask t (cond b vs (v ∷ vs)) → (v.task ≡ Some t) ⊎ HasTask t vs
has_kept true t v vs has = inr has
has_kept false t v vs has = has

pub has_without : (u t : ℕ) (vs : List TaskView) → HasTask t (without u vs) → HasTask t vs
has_without u t [] has = has
has_without u t (v ∷ vs) has = ⊎_elim (λ is. inl is) (λ h. inr (has_without u t vs h)) (has_kept (is_of u v.task) t v (without u vs) has)

-- a task that is held afterwards was held, or is new
has_after : (about : About) (b : BookView) (e : Event) (t : ℕ) → MayAdd about b e → HasTask t (held_after b.events e b.held) → HasTask t b.held ⊎ (t ≡ tasks_of b.events)
has_after about b (Ev.Begin fuel) t may has = absurd may.may
has_after about b (Ev.Key key) t may has = inl (has_map (noted (length b.events) (Ev.Key key)) (λ v. refl) t b.held has)
has_after about b (Ev.Fill number site first) t may has = inl (has_map (noted (length b.events) (Ev.Fill number site first)) (λ v. refl) t b.held has)
has_after about b (Ev.Def task site) t may has = inl (has_map (noted (length b.events) (Ev.Def task site)) (λ v. refl) t b.held has)
has_after about b (Ev.Del task place) t may has = inl (has_map (noted (length b.events) (Ev.Del task place)) (λ v. refl) t b.held has)
has_after about b (Ev.Spawn task child start) t may (inl is) = inr (let e : child ≡ t = cc (is) in sym e ∙ may.may.next)
has_after about b (Ev.Spawn task child start) t may (inr has) = inl (has_map (noted (length b.events) (Ev.Spawn task child start)) (λ v. refl) t b.held has)
has_after about b (Ev.Done task ended) t may has = inl (has_without task t b.held has)

once_map : (f : TaskView → TaskView) → ((v : TaskView) → (f v).task ≡ v.task) → (vs : List TaskView) → NoTwice vs → NoTwice (map f vs)
once_map f same [] once = tt
once_map f same (v ∷ vs) once = ((λ t is has. once.0 t (sym (same v) ∙ is) (has_map f same t vs has)), once_map f same vs once.1)

once_if : (b : Bool) (v : TaskView) (vs : List TaskView) → ((t : ℕ) → v.task ≡ Some t → HasTask t vs → ⊥) → NoTwice vs → NoTwice (cond b vs (v ∷ vs))
once_if true v vs apart once = once
once_if false v vs apart once = (apart, once)

pub once_without : (u : ℕ) (vs : List TaskView) → NoTwice vs → NoTwice (without u vs)
once_without u [] once = tt
once_without u (v ∷ vs) once = once_if (is_of u v.task) v (without u vs) (λ t is has. once.0 t is (has_without u t vs has)) (once_without u vs once.1)

held_once : (about : About) (b : BookView) (e : Event) → MayAdd about b e → FitsAll about b b.held → NoTwice b.held → NoTwice (held_after b.events e b.held)
held_once about b (Ev.Begin fuel) may fits once = absurd may.may
held_once about b (Ev.Key key) may fits once = once_map (noted (length b.events) (Ev.Key key)) (λ v. refl) b.held once
held_once about b (Ev.Fill number site first) may fits once = once_map (noted (length b.events) (Ev.Fill number site first)) (λ v. refl) b.held once
held_once about b (Ev.Def task site) may fits once = once_map (noted (length b.events) (Ev.Def task site)) (λ v. refl) b.held once
held_once about b (Ev.Del task place) may fits once = once_map (noted (length b.events) (Ev.Del task place)) (λ v. refl) b.held once
held_once about b (Ev.Spawn task child start) may fits once = (
  (λ t is has.
      let h = has_map (noted (length b.events) (Ev.Spawn task child start)) (λ v. refl) t b.held has in
      let r = has_running about.program.value b.events t b.held fits h in
      let e : child ≡ t = cc (is) in
      omega (arith, r.started, e, may.may.next)),
  once_map (noted (length b.events) (Ev.Spawn task child start)) (λ v. refl) b.held once,
)
held_once about b (Ev.Done task ended) may fits once = once_without task b.held once

-- a task of another seat: the event is none of its own
other_task : (about : About) (b : BookView) (e : Event) (t : ℕ) → MayAdd about b e → IsRunning b.events t → (HasTask t b.held → ⊥) → NotOf e t
other_task about b (Ev.Begin fuel) t may run apart = tt
other_task about b (Ev.Key key) t may run apart = tt
other_task about b (Ev.Fill number site first) t may run apart = tt
other_task about b (Ev.Def task site) t may run apart = λ same. apart (subst (λ n. HasTask n b.held) same may.holds)
other_task about b (Ev.Del task place) t may run apart = λ same. apart (subst (λ n. HasTask n b.held) same may.holds)
other_task about b (Ev.Spawn task child start) t may run apart = ((λ same. apart (subst (λ n. HasTask n b.held) same may.holds)), (λ same. omega (arith, same, may.may.next, run.started)))
other_task about b (Ev.Done task ended) t may run apart = λ same. apart (subst (λ n. HasTask n b.held) same may.holds)

each_having : (Q R : TaskView → Type 0) (vs : List TaskView) → ((v : TaskView) → ((t : ℕ) → v.task ≡ Some t → HasTask t vs) → Q v → R v) → Each Q vs → Each R vs
each_having Q R [] h e = tt
each_having Q R (v ∷ vs) h e = (h v (λ t is. inl is) e.0, each_having Q R vs (λ w has p. h w (λ t is. inr (has t is)) p) e.1)

other_whole : (now later : Now) (seat id k : ℕ) (u : View) → id ≡ seat → k ≢ id → IsWhole now seat k u → IsWhole later seat k u
other_whole now later seat id k Nobody mine ne whole = tt
other_whole now later seat id k (Task v) mine ne whole = tt
other_whole now later seat id k (Book b) mine ne whole = absurd (ne (whole.0 ∙ sym mine))

abbrev pub now_of : BookView → Now
now_of b = record { events = b.events; cut = b.cut; stored = b.stored }

words_store : (about : About) (b : BookView) (words : List ℕ) (e : Event) → IsHistory about b.events → Words about (now_of b) words → MayAdd about b e → Words about (now_of (grown e b)) (slice_set words (place_of e) (word_of e (b.events ++ e ∷ [])))
words_store about b words (Ev.Begin fuel) history h may = absurd may.may
words_store about b words (Ev.Key key) history h may = words_noted about (now_of b) words (Ev.Key key) h may.ready (record { rows = refl; defs = refl; worldly = refl; noted = refl; fills = λ k. refl })
words_store about b words (Ev.Fill number site first) history h may =
    let (uncut, filled) = may.ready in
    let (key, named, stored) = filled in
    words_linked about (now_of b) words number site first key h uncut named stored (omega (arith, slice_get_within (keys_of b.events) number key named, history.few.0))
words_store about b words (Ev.Def task site) history h may =
    words_changed about (now_of b) words (Ev.Def task site) (Ch.Def site) (record { makes = refl; rows = refl; noted = refl; fills = λ k. refl }) history.stand h may.ready
words_store about b words (Ev.Del task place) history h may =
    words_changed about (now_of b) words (Ev.Del task place) (Ch.Del place) (record { makes = refl; rows = refl; noted = refl; fills = λ k. refl }) history.stand h may.ready
words_store about b words (Ev.Spawn task child start) history h may = words_noted about (now_of b) words (Ev.Spawn task child start) h may.ready (record { rows = refl; defs = refl; worldly = refl; noted = refl; fills = λ k. refl })
words_store about b words (Ev.Done task ended) history h may = words_noted about (now_of b) words (Ev.Done task ended) h may.ready (record { rows = refl; defs = refl; worldly = refl; noted = refl; fills = λ k. refl })

-- there is a place for what comes
few_more : (about : About) (es : List Event) (e : Event) → HasPlaceFor about es e → AreFew about es → length (es ++ e ∷ []) ≤ 98289 → AreFew about (es ++ e ∷ [])
few_more about es e place few all = by e place all
  where
    keys : (e : Event) → length (keys_of (es ++ e ∷ [])) ≡ length (keys_of es) + length (keys_of (e ∷ []))
    keys e = ap length (keys_append es (e ∷ [])) ∙ length-append (keys_of es) (keys_of (e ∷ []))

    rows : (e : Event) → length (rows_of (es ++ e ∷ [])) ≡ length (rows_of es) + length (rows_of (e ∷ []))
    rows e = ap length (rows_append es (e ∷ [])) ∙ length-append (rows_of es) (rows_of (e ∷ []))

    by : (e : Event) → HasPlaceFor about es e → length (es ++ e ∷ []) ≤ 98289 → AreFew about (es ++ e ∷ [])
    by (Ev.Begin fuel) p l = (omega (arith, keys (Ev.Begin fuel), few.0), omega (arith, rows (Ev.Begin fuel), few.1), l)
    by (Ev.Key key) p l = (omega (arith, keys (Ev.Key key), p), omega (arith, rows (Ev.Key key), few.1), l)
    by (Ev.Fill n s f) p l = (omega (arith, keys (Ev.Fill n s f), few.0), omega (arith, rows (Ev.Fill n s f), p), l)
    by (Ev.Def t s) p l = (omega (arith, keys (Ev.Def t s), few.0), omega (arith, rows (Ev.Def t s), few.1), l)
    by (Ev.Del t s) p l = (omega (arith, keys (Ev.Del t s), few.0), omega (arith, rows (Ev.Del t s), few.1), l)
    by (Ev.Spawn t c s) p l = (omega (arith, keys (Ev.Spawn t c s), few.0), omega (arith, rows (Ev.Spawn t c s), few.1), l)
    by (Ev.Done t r) p l = (omega (arith, keys (Ev.Done t r), few.0), omega (arith, rows (Ev.Done t r), few.1), l)

narrow_append : (xs ys : List CacheRow) → AreNarrow xs → AreNarrow ys → AreNarrow (xs ++ ys)
narrow_append [] ys a b = b
narrow_append (x ∷ xs) ys a b = (a.0, narrow_append xs ys a.1 b)

narrow_one : (e : Event) → IsNarrow e → AreNarrow (rows_of (e ∷ []))
narrow_one (Ev.Begin fuel) n = tt
narrow_one (Ev.Key key) n = tt
narrow_one (Ev.Fill number site first) n = (n, tt)
narrow_one (Ev.Def task site) n = tt
narrow_one (Ev.Del task place) n = tt
narrow_one (Ev.Spawn task child start) n = tt
narrow_one (Ev.Done task ended) n = tt

history_more : (about : About) (b : BookView) (e : Event) → MayAdd about b e → IsHistory about b.events → FitsAll about b b.held → IsHistory about (b.events ++ e ∷ [])
history_more about b e may history fits =
    let P = about.program.value in
    let stand = stand_push P b.events e history.stand (may_come about b e may fits) in
    record { stand = stand; fuel = fuel_append b.events (e ∷ []) history.stand.begun ∙ history.fuel; few = few_more about b.events e may.place history.few (few_events P (b.events ++ e ∷ []) stand); narrow = subst AreNarrow (sym (rows_append b.events (e ∷ []))) (narrow_append (rows_of b.events) (rows_of (e ∷ [])) history.narrow (narrow_one e may.narrow)) }

abbrev pub GrowTells : About → Event → Step (Unit {0}) → Me (Unit {0}) View → ℕ → Me (Unit {0}) View → Type 0
GrowTells about e s me n after = (after ≡ (Book (grown e (book_of me.0)), me.1)) × AreFew about (grown e (book_of me.0)).events

other_seat : (about : About) (b : BookView) (e : Event) (seat id : ℕ) (views : List View) → id ≡ seat → MayAdd about b e → SeatsAre about.program.value (now_of b) seat views → OneSeat views → get_elem? views id ≡ some (Book b)
    → (k : ℕ) (u : View) → k ≢ id → get_elem? views k ≡ some u → SeatIs about.program.value (now_of (grown e b)) seat k u
other_seat about b e seat id views mine may seats one at k u ne at_k =
    let P = about.program.value in
    let ok = seats k u at_k in
    record {
      once = ok.once;
      whole = other_whole (now_of b) (now_of (grown e b)) seat id k u mine ne ok.whole;
      fits = each_having (Fits P b.events) (Fits P (b.events ++ e ∷ [])) (parts u)
          (λ v has f. fits_grow P b.events e v (λ t is run. aside e t (other_task about b e t may run (λ held. ne (one t k id u (Book b) at_k at (has t is) held)))) f) ok.fits;
    }

grown_apart : (about : About) (b : BookView) (e : Event) (seat id : ℕ) (views : List View) → MayAdd about b e → SeatsAre about.program.value (now_of b) seat views → OneSeat views → get_elem? views id ≡ some (Book b) → Apart views id (Book (grown e b))
grown_apart about b e seat id views may seats one at t k u ne at_k hw hu =
    ⊎_elim
    (λ (had : HasTask t b.held). ne (one t k id u (Book b) at_k at hu had))
    (λ (new : t ≡ tasks_of b.events). let r = has_running about.program.value b.events t (parts u) (seats k u at_k).fits hu in omega (arith, r.started, new))
    (has_after about b e t may hw)

grows_from : (about : About) (id seat : ℕ) (b : BookView) (e : Event) (s : State (Unit {0}) View) → MayAdd about b e → id ≡ seat → Kept about (now_of b) seat s → get_elem? s.views id ≡ some (Book b)
    → Kept about (now_of (grown e b)) seat record { words = slice_set s.words (place_of e) (word_of e (b.events ++ e ∷ [])); homes = s.homes; views = set s.views id (Book (grown e b)) }
grows_from about id seat b e s may is kept at =
    let P = about.program.value in
    let mine = kept.seats id (Book b) at in
    record {
      history = history_more about b e may kept.history mine.fits;
      words = words_store about b s.words e kept.history kept.words may;
      seats = seats_set P (now_of (grown e b)) seat id s.views (Book (grown e b)) (other_seat about b e seat id s.views is may kept.seats kept.one_seat at) (record {
        whole = (is, refl, refl, refl);
        fits = held_fits about b e may kept.history.stand (may_come about b e may mine.fits) mine.fits;
        once = held_once about b e may mine.fits mine.once;
      });
      one_seat = one_set id s.views (Book (grown e b)) kept.one_seat (grown_apart about b e seat id s.views may kept.seats kept.one_seat at);
    }

-- what the book's seat knows is how things are
pub known_now : (about : About) (b : BookView) (now : Now) (seat id : ℕ) (s : State (Unit {0}) View) → Kept about now seat s → get_elem? s.views id ≡ some (Book b) → (id ≡ seat) × Kept about (now_of b) seat s
known_now about b now seat id s kept at =
    let w = (kept.seats id (Book b) at).whole in
    (w.0, subst (λ n. Kept about n seat s) (λ i. record { events = sym w.1 i; cut = sym w.2 i; stored = sym w.3 i }) kept)

pub grows : (about : About) (slots id : ℕ) (b : BookView) (e : Event) → MayAdd about b e
    → Allows (Holds about) slots id (Book b, []) (place_of e) (λ _. word_of e (b.events ++ e ∷ [])) (λ _. GrowTells about e (step slots (place_of e) (word_of e (b.events ++ e ∷ [])) 0 none) (Book b, []) (word_of e (b.events ++ e ∷ [])))
grows about slots id b e may s h deep at fit =
    let k = known_now about b h.0 h.1 id s h.2 at in
    let after = grows_from about id h.1 b e s may k.0 k.1 at in
    (Book (grown e b), keeps, tt, (now_of (grown e b), h.1, after), (refl, after.history.few))

pub grows_as : (about name : About) (slots id : ℕ) (me : Me (Unit {0}) View) (e : Event) (word value : ℕ) → about ≡ name → me ≡ (Book (book_of me.0), []) → MayAdd name (book_of me.0) e
    → word ≡ place_of e → value ≡ word_of e ((book_of me.0).events ++ e ∷ [])
    → Allows (Holds about) slots id me word (λ _. value) (λ _. GrowTells name e (step slots word value 0 none) me value)
grows_as about name slots id me e word value same is may w v =
    subst (λ (z : About × Me (Unit {0}) View × ℕ × ℕ). Allows (Holds about) slots id z.1 z.2 (λ _. z.3) (λ _. GrowTells z.0 e (step slots z.2 z.3 0 none) z.1 z.3)) (λ i. (same i, sym is i, sym w i, sym v i))
    (grows about slots id (book_of me.0) e (subst (λ (a : About). MayAdd a (book_of me.0) e) (sym same) may))

-- the store is in range
pub place_small : (about : About) (b : BookView) (e : Event) → HasPlaces about → AreFew about b.events → MayAdd about b e → place_of e < word_count about
place_small about b (Ev.Begin fuel) places few may = absurd may.may
place_small about b (Ev.Key key) places few may = omega (arith, places)
place_small about b (Ev.Def task site) places few may = omega (arith, places)
place_small about b (Ev.Del task place) places few may = omega (arith, places)
place_small about b (Ev.Spawn task child start) places few may = omega (arith, places)
place_small about b (Ev.Done task ended) places few may = omega (arith, places)
place_small about b (Ev.Fill number site first) places few may =
    let (uncut, filled) = may.ready in
    let (key, named, stored) = filled in omega (arith, places, few.0, slice_get_within (keys_of b.events) number key named)

-- ---- a store that adds no event

quiet : (about : About) (seat id : ℕ) (b c : BookView) (s : State (Unit {0}) View) (ws : List ℕ) → c.events ≡ b.events → c.held ≡ b.held → id ≡ seat → Kept about (now_of b) seat s → get_elem? s.views id ≡ some (Book b) → Words about (now_of c) ws
    → Kept about (now_of c) seat record { words = ws; homes = s.homes; views = set s.views id (Book c) }
quiet about seat id b c s ws same held is kept at words =
    let P = about.program.value in
    let mine = kept.seats id (Book b) at in
    record {
      history = subst (IsHistory about) (sym same) kept.history;
      words = words;
      seats = seats_set P (now_of c) seat id s.views (Book c)
          (λ j u ne e. let ok = kept.seats j u e in record { whole = other_whole (now_of b) (now_of c) seat id j u is ne ok.whole; fits = subst (λ es. Each (Fits P es) (parts u)) (sym same) ok.fits; once = ok.once })
          (record { whole = (is, refl, refl, refl); fits = subst (λ (z : List Event × List TaskView). Each (Fits P z.0) z.1) (λ i. (sym same i, sym held i)) mine.fits; once = subst NoTwice (sym held) mine.once });
      one_seat = one_set id s.views (Book c) kept.one_seat (still_apart id s.views (Book b) (Book c) kept.one_seat at (λ t x. subst (HasTask t) held x));
    }

abbrev pub CutTells : Step (Unit {0}) → Me (Unit {0}) View → ℕ → Me (Unit {0}) View → Type 0
CutTells s me n after = (r : ℕ) → s.word ≡ row_place r Last → after ≡ (Book (cut_at r (book_of me.0)), me.1)

pub cuts : (about : About) (slots id q : ℕ) (b : BookView) → IsOpenRow about.program.value b.events q
    → Allows (Holds about) slots id (Book b, []) (row_place q Last) (λ _. world_of b.events) (λ _. CutTells (step slots (row_place q Last) (world_of b.events) 0 none) (Book b, []) (world_of b.events))
cuts about slots id q b open_row s h deep at fit =
    let k = known_now about b h.0 h.1 id s h.2 at in
    let c = cut_at q b in (
      Book c,
      keeps,
      tt,
      (now_of c, h.1, quiet about h.1 id b c s (slice_set s.words (row_place q Last) (world_of b.events)) refl refl k.0 k.1 at (words_cut about (now_of b) s.words q k.1.words k.1.history.few.1 open_row)),
      λ r e. let same : q ≡ r = omega (arith, e) in ap (λ n. (Book (cut_at n b), [])) same,
    )

pub cuts_as : (about name : About) (slots id q i v : ℕ) (me : Me (Unit {0}) View) → about ≡ name → me ≡ (Book (book_of me.0), []) → i ≡ row_place q Last → v ≡ world_of (book_of me.0).events → IsOpenRow name.program.value (book_of me.0).events q
    → Allows (Holds about) slots id me i (λ _. v) (λ _. CutTells (step slots i v 0 none) me v)
cuts_as about name slots id q i v me same is ie ve open_row =
    subst (λ (z : Me (Unit {0}) View × ℕ × ℕ). Allows (Holds about) slots id z.0 z.1 (λ _. z.2) (λ _. CutTells (step slots z.1 z.2 0 none) z.0 z.2)) (λ k. (sym is k, sym ie k, sym ve k))
    (cuts about slots id q (book_of me.0) (subst (λ (a : About). IsOpenRow a.program.value (book_of me.0).events q) (sym same) open_row))

abbrev pub LooseTells : Step (Unit {0}) → Me (Unit {0}) View → ℕ → Me (Unit {0}) View → Type 0
LooseTells s me n after = after ≡ (Book (stored_at s.word s.first (book_of me.0)), me.1)

pub loosens : (about : About) (slots id q : ℕ) (x : RowWord) (v : ℕ) (b : BookView) → length (rows_of b.events) ≤ q → q < about.rows
    → Allows (Holds about) slots id (Book b, []) (row_place q x) (λ _. v) (λ _. LooseTells (step slots (row_place q x) v 0 none) (Book b, []) v)
loosens about slots id q x v b free low s h deep at fit =
    let k = known_now about b h.0 h.1 id s h.2 at in
    let c = stored_at (row_place q x) v b in
    (Book c, keeps, tt, (now_of c, h.1, quiet about h.1 id b c s (slice_set s.words (row_place q x) v) refl refl k.0 k.1 at (words_stored about (now_of b) s.words q x v k.1.words free low)), refl)

pub loosens_as : (about name : About) (slots id q : ℕ) (x : RowWord) (i v : ℕ) (me : Me (Unit {0}) View) → about ≡ name → me ≡ (Book (book_of me.0), []) → i ≡ row_place q x → length (rows_of (book_of me.0).events) ≤ q → q < name.rows
    → Allows (Holds about) slots id me i (λ _. v) (λ _. LooseTells (step slots i v 0 none) me v)
loosens_as about name slots id q x i v me same is ie free low =
    subst (λ (z : Me (Unit {0}) View × ℕ). Allows (Holds about) slots id z.0 z.1 (λ _. v) (λ _. LooseTells (step slots z.1 v 0 none) z.0 v)) (λ k. (sym is k, sym ie k))
    (loosens about slots id q x v (book_of me.0) free (subst (λ (a : About). q < a.rows) (sym same) low))
