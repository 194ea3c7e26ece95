-- Views that are cut in two, and put together, keep the rule.
use Rattle.std.proofs.Common.{◌≡◌, ◌≢◌, ◌⊎◌, ℕ, ◌<◌, Bool, true, false, cond, nat_eq, List, [], ◌∷◌, ◌++◌, length, set, refl, sym, ap, ◌∙◌, subst, inl, inr, ⊎_elim, arith, Option, Some, None}
use Rattle.std.specs.Prelude.{slice_index, slice_set}
use mathlib.Core.Option.{some, none}
use lib.ListN.{get_elem?}
use Rattle.atomic_table.specs.Table.{State, Me, Step, step, keeps, Allows, Splits, Joins}
use Rattle.atomic_table.proofs.Lists.{at_set, set_again}
use Rattle.jl_program.specs.declared.tree.Program.{Program}
use Rattle.jl_calculus.specs.declared.history.Event.{Event}
use Rattle.jl_calculus.specs.Legal.{MayStand}
use Rattle.jl_world.specs.declared.about.About.{About}
use Rattle.jl_world.specs.declared.view.TaskView.{TaskView}
use Rattle.jl_world.specs.declared.view.BookView.{BookView}
use Rattle.jl_world.specs.declared.view.View.{View}
use Rattle.jl_world.specs.declared.view.View.TheVariants.{Nobody, Task, Book}
use Rattle.jl_world.specs.Rule.{Now, IsHistory, SeatIs, Kept, Holds}
use Rattle.jl_world.specs.Views.{Begins, Each, IsOwn, Fits, parts, HasTask, NoTwice, idle, task_of, book_of, is_of, without, view_of, met, taken, given, returned, front, rest}
use Rattle.jl_world.proofs.Growth.{agree, agreed, begins_self, still_true}
use Rattle.jl_world.proofs.Moves.{fits_more, same_words}
use Rattle.jl_world.proofs.Stores.{has_without, once_without}
use Rattle.jl_world.proofs.SeatLists.{seats_set, one_set, still_apart, seats_push, one_push}

-- a seat keeps some of its tasks, and a new one has others
split_keeps : (about : About) (events : Now) (seat id : ℕ) (v left right : View) (s : State (Unit {0}) View) → Kept about events seat s → get_elem? s.views id ≡ some v
    → SeatIs about.program.value events seat id left → ((j : ℕ) → SeatIs about.program.value events seat j right)
    → ((t : ℕ) → HasTask t (parts left) → HasTask t (parts v)) → ((t : ℕ) → HasTask t (parts right) → HasTask t (parts v)) → ((t : ℕ) → HasTask t (parts left) → HasTask t (parts right) → ⊥)
    → Kept about events seat record { words = s.words; homes = s.homes; views = set s.views id left ++ right ∷ [] }
split_keeps about events seat id v left right s kept at left_ok right_ok less new apart =
    record {
      history = kept.history;
      words = kept.words;
      seats = seats_push about.program.value events seat (set s.views id left) right (seats_set about.program.value events seat id s.views left (λ j u ne e. kept.seats j u e) left_ok) (right_ok (length (set s.views id left)));
      one_seat = one_push (set s.views id left) right (one_set id s.views left kept.one_seat (still_apart id s.views v left kept.one_seat at less))
          (λ t k u e hr hu. ⊎_elim
          (λ (x : (k ≡ id) × (left ≡ u)). apart t (subst (λ z. HasTask t (parts z)) (sym x.1) hu) hr)
          (λ (x : (k ≢ id) × (get_elem? s.views k ≡ some u)). x.0 (kept.one_seat t k id u v x.1 at hu (new t hr)))
          (at_set s.views id k left u e));
    }

-- a seat takes in all tasks of another
join_keeps : (about : About) (events : Now) (seat id other : ℕ) (v w both : View) (s : State (Unit {0}) View) → Kept about events seat s → get_elem? s.views id ≡ some v → ¬ (other ≡ id)
    → get_elem? s.views other ≡ some w → SeatIs about.program.value events seat id both → ((t : ℕ) → HasTask t (parts both) → HasTask t (parts v) ⊎ HasTask t (parts w))
    → Kept about events seat record { words = s.words; homes = s.homes; views = set (set s.views id both) other Nobody }
join_keeps about events seat id other v w both s kept at apart there both_ok less =
    let spent_ok : SeatIs about.program.value events seat other Nobody = record { whole = tt; fits = tt; once = tt } in
    record {
      history = kept.history;
      words = kept.words;
      seats = seats_set about.program.value events seat other (set s.views id both) Nobody (λ j u ne e. seats_set about.program.value events seat id s.views both (λ i x n f. kept.seats i x f) both_ok j u e) spent_ok;
      one_seat = λ t j k a b ea eb ha hb. ⊎_elim
          (λ (x : (j ≡ other) × (Nobody ≡ a)). absurd (subst (λ z. HasTask t (parts z)) (sym x.1) ha))
          (λ (x : (j ≢ other) × (get_elem? (set s.views id both) j ≡ some a)). ⊎_elim
          (λ (y : (k ≡ other) × (Nobody ≡ b)). absurd (subst (λ z. HasTask t (parts z)) (sym y.1) hb))
          (λ (y : (k ≢ other) × (get_elem? (set s.views id both) k ≡ some b)). two t j k a b x.0 y.0 x.1 y.1 ha hb)
          (at_set (set s.views id both) other k Nobody b eb))
          (at_set (set s.views id both) other j Nobody a ea);
    }
  where
    none_else : (t k : ℕ) (u : View) → k ≢ id → k ≢ other → get_elem? s.views k ≡ some u → HasTask t (parts both) → HasTask t (parts u) → ⊥
    none_else t k u ni nj e hb hu = ⊎_elim (λ (h : HasTask t (parts v)). ni (kept.one_seat t k id u v e at hu h)) (λ (h : HasTask t (parts w)). nj (kept.one_seat t k other u w e there hu h)) (less t hb)

    two : (t j k : ℕ) (a b : View) → j ≢ other → k ≢ other → get_elem? (set s.views id both) j ≡ some a → get_elem? (set s.views id both) k ≡ some b → HasTask t (parts a) → HasTask t (parts b) → j ≡ k
    two t j k a b nj nk ea eb ha hb =
        ⊎_elim
        (λ (x : (j ≡ id) × (both ≡ a)). ⊎_elim
        (λ (y : (k ≡ id) × (both ≡ b)). x.0 ∙ sym y.0)
        (λ (y : (k ≢ id) × (get_elem? s.views k ≡ some b)). absurd (none_else t k b y.0 nk y.1 (subst (λ z. HasTask t (parts z)) (sym x.1) ha) hb))
        (at_set s.views id k both b eb))
        (λ (x : (j ≢ id) × (get_elem? s.views j ≡ some a)). ⊎_elim
        (λ (y : (k ≡ id) × (both ≡ b)). absurd (none_else t j a x.0 nj x.1 (subst (λ z. HasTask t (parts z)) (sym y.1) hb) ha))
        (λ (y : (k ≢ id) × (get_elem? s.views k ≡ some b)). kept.one_seat t j k a b x.1 y.1 ha hb)
        (at_set s.views id k both b eb))
        (at_set s.views id j both a ea)

fits_idle : (P : Program) (events : List Event) (v : TaskView) → Fits P events v → Fits P events (idle v.seen)
fits_idle P events v f = record { prefix = f.prefix; stand = f.stand; learnt = f.learnt; own = tt }

fits_met : (P : Program) (events : List Event) (v : TaskView) → MayStand P events → Fits P events v → Fits P events (met events v)
fits_met P events v stand f = fits_more P events events v stand f f.prefix (begins_self events)

nobody_has : (t : ℕ) (es : List Event) → HasTask t (idle es ∷ []) → ⊥
nobody_has t es (inl is) = absurd (cc (is))
nobody_has t es (inr h) = h

pub copies : (about : About) (id : ℕ) (v : TaskView) → Splits (Holds about) id (Task v) (Task v) (Task (idle v.seen))
copies about id v s h at =
    let ok = h.2.seats id (Task v) at in
    (h.0, h.1, split_keeps about h.0 h.1 id (Task v) (Task v) (Task (idle v.seen)) s h.2 at ok (λ j. record { whole = tt; fits = (fits_idle about.program.value h.0.events v ok.fits.0, tt); once = ((λ t is x. x), tt) }) (λ t x. x) (λ t x. absurd (nobody_has t v.seen x)) (λ t x y. nobody_has t v.seen y))

pub hands : (about : About) (id : ℕ) (v : TaskView) → Splits (Holds about) id (Task v) (Task (idle v.seen)) (Task v)
hands about id v s h at =
    let ok = h.2.seats id (Task v) at in
    (h.0, h.1, split_keeps about h.0 h.1 id (Task v) (Task (idle v.seen)) (Task v) s h.2 at (record { whole = tt; fits = (fits_idle about.program.value h.0.events v ok.fits.0, tt); once = ((λ t is x. x), tt) }) (λ j. record { whole = tt; fits = ok.fits; once = ok.once }) (λ t x. absurd (nobody_has t v.seen x)) (λ t x. x) (λ t x y. nobody_has t v.seen x))

pub takes : (about : About) (id : ℕ) (b : BookView) (other : ℕ) (w : TaskView) → Joins (Holds about) id (Book b) other (Task w) (Book (taken w b)) Nobody
takes about id b other w s h at apart there =
    let ok = h.2.seats id (Book b) at in
    let theirs : get_elem? s.views other ≡ some (Task w) = ⊎_elim (λ (x : (other ≡ id) × (Book (taken w b) ≡ Task w)). absurd (apart x.0)) (λ (x : (other ≢ id) × (get_elem? s.views other ≡ some (Task w))). x.1) (at_set s.views id other (Book (taken w b)) (Task w) there) in
    let it = h.2.seats other (Task w) theirs in (
      h.0,
      h.1,
      join_keeps about h.0 h.1 id other (Book b) (Task w) (Book (taken w b)) s h.2 at apart theirs (record { whole = ok.whole; fits = (it.fits.0, ok.fits); once = ((λ t is has. apart (h.2.one_seat t other id (Task w) (Book b) theirs at (inl is) has)), ok.once) })
          (λ t x. ⊎_elim (λ is. inr (inl is)) (λ y. inl y) x),
    )

each_rest : (P : TaskView → Type 0) (vs : List TaskView) → Each P vs → Each P (rest vs)
each_rest P [] e = tt
each_rest P (v ∷ vs) e = e.1

once_rest : (vs : List TaskView) → NoTwice vs → NoTwice (rest vs)
once_rest [] o = tt
once_rest (v ∷ vs) o = o.1

has_rest : (t : ℕ) (vs : List TaskView) → HasTask t (rest vs) → HasTask t vs
has_rest t [] h = h
has_rest t (v ∷ vs) h = inr h

fits_front : (P : Program) (events : List Event) (vs : List TaskView) → 0 < length vs → Each (Fits P events) vs → Fits P events (front vs)
fits_front P events [] lt e = absurd (omega arith)
fits_front P events (v ∷ vs) lt e = e.0

has_front : (t : ℕ) (events : List Event) (vs : List TaskView) → HasTask t (met events (front vs) ∷ []) → HasTask t vs
has_front t events [] (inl is) = absurd (cc (is))
has_front t events [] (inr h) = absurd h
has_front t events (v ∷ vs) (inl is) = inl is
has_front t events (v ∷ vs) (inr h) = absurd h

apart_front : (t : ℕ) (events : List Event) (vs : List TaskView) → NoTwice vs → HasTask t (rest vs) → HasTask t (met events (front vs) ∷ []) → ⊥
apart_front t events [] o h f = h
apart_front t events (v ∷ vs) o h (inl is) = o.0 t is h
apart_front t events (v ∷ vs) o h (inr f) = f

pub returns : (about : About) (id : ℕ) (b : BookView) → 0 < length b.held → Splits (Holds about) id (Book b) (Book (returned b)) (Task (met b.events (front b.held)))
returns about id b some_held s h at =
    let ok = h.2.seats id (Book b) at in
    let whole = ok.whole in
    let P = about.program.value in
    let now = subst (λ es. Fits P h.0.events (met es (front b.held))) (sym whole.1) (fits_met P h.0.events (front b.held) h.2.history.stand (fits_front P h.0.events b.held some_held ok.fits)) in (
      h.0,
      h.1,
      split_keeps about h.0 h.1 id (Book b) (Book (returned b)) (Task (met b.events (front b.held))) s h.2 at
          (record { whole = whole; fits = each_rest (Fits P h.0.events) b.held ok.fits; once = once_rest b.held ok.once })
          (λ j. record { whole = tt; fits = (now, tt); once = ((λ t is x. x), tt) })
          (λ t x. has_rest t b.held x) (λ t x. has_front t b.events b.held x) (λ t x y. apart_front t b.events b.held ok.once x y),
    )

each_without : (Q : TaskView → Type 0) (t : ℕ) (vs : List TaskView) → Each Q vs → Each Q (without t vs)
each_without Q t [] e = tt
each_without Q t (v ∷ vs) e = put (is_of t v.task) (without t vs) e.0 (each_without Q t vs e.1)
  where
    put : (b : Bool) (ws : List TaskView) → Q v → Each Q ws → Each Q (cond b ws (v ∷ ws))
    put true ws p e = e
    put false ws p e = (p, e)

is_of_some : (t : ℕ) (o : Option ℕ) → is_of t o ≡ true → o ≡ Some t
is_of_some t None is = absurd cc
is_of_some t (Some u) is = ap (λ n. Some n) (agree u t is)

is_of_self : (t : ℕ) (o : Option ℕ) → o ≡ Some t → is_of t o ≡ true
is_of_self t o is = ap (is_of t) is ∙ agreed t t refl

-- the view of a task that is there
view_there : (Q : TaskView → Type 0) (t : ℕ) (vs : List TaskView) → HasTask t vs → Each Q vs → Q (view_of t vs) × ((view_of t vs).task ≡ Some t)
view_there Q t [] has e = absurd has
view_there Q t (v ∷ vs) has e = pick (is_of t v.task) refl has (λ h. view_there Q t vs h e.1)
  where
    pick : (b : Bool) → is_of t v.task ≡ b → HasTask t (v ∷ vs) → (HasTask t vs → Q (view_of t vs) × ((view_of t vs).task ≡ Some t)) → Q (cond b v (view_of t vs)) × ((cond b v (view_of t vs)).task ≡ Some t)
    pick true is h r = (e.0, is_of_some t v.task is)
    pick false is (inl here) r = absurd (cc (is, is_of_self t v.task here))
    pick false is (inr h) r = r h

-- a view that has a task has no other
sole : (t u : ℕ) (events : List Event) (v : TaskView) → v.task ≡ Some t → HasTask u (met events v ∷ []) → t ≡ u
sole t u events v is (inl so) = cc (is, so)
sole t u events v is (inr h) = absurd h

gone : (t : ℕ) (vs : List TaskView) → HasTask t (without t vs) → ⊥
gone t [] h = h
gone t (v ∷ vs) h = put (is_of t v.task) refl h (λ x. gone t vs x)
  where
    put : (b : Bool) → is_of t v.task ≡ b → HasTask t (cond b (without t vs) (v ∷ without t vs)) → (HasTask t (without t vs) → ⊥) → ⊥
    put true is x r = r x
    put false is (inl here) r = absurd (cc (is, is_of_self t v.task here))
    put false is (inr x) r = r x

pub gives : (about : About) (id : ℕ) (b : BookView) (t : ℕ) → HasTask t b.held → Splits (Holds about) id (Book b) (Book (given t b)) (Task (met b.events (view_of t b.held)))
gives about id b t has s h at =
    let ok = h.2.seats id (Book b) at in
    let whole = ok.whole in
    let P = about.program.value in
    let there = view_there (Fits P h.0.events) t b.held has ok.fits in
    let now = subst (λ es. Fits P h.0.events (met es (view_of t b.held))) (sym whole.1) (fits_met P h.0.events (view_of t b.held) h.2.history.stand there.0) in (
      h.0,
      h.1,
      split_keeps about h.0 h.1 id (Book b) (Book (given t b)) (Task (met b.events (view_of t b.held))) s h.2 at
          (record { whole = whole; fits = each_without (Fits P h.0.events) t b.held ok.fits; once = once_without t b.held ok.once })
          (λ j. record { whole = tt; fits = (now, tt); once = ((λ u is x. x), tt) })
          (λ u x. has_without t u b.held x)
          (λ u x. subst (λ n. HasTask n b.held) (sole t u b.events (view_of t b.held) there.1 x) has)
          (λ u x y. gone t b.held (subst (λ n. HasTask n (without t b.held)) (sym (sole t u b.events (view_of t b.held) there.1 y)) x)),
    )

abbrev pub CheckTells : About → Step (Unit {0}) → Me (Unit {0}) View → ℕ → Me (Unit {0}) View → Type 0
CheckTells about s me n after = (after ≡ me) × IsHistory about (book_of me.0).events × Each (Fits about.program.value (book_of me.0).events) (book_of me.0).held

pub checks : (about : About) (slots id : ℕ) (b : BookView) → Allows (Holds about) slots id (Book b, []) 0 (λ n. n) (CheckTells about (step slots 0 0 0 none) (Book b, []))
checks about slots id b s h deep at fit =
    let ok = h.2.seats id (Book b) at in
    let same : record { words = slice_set s.words 0 (slice_index s.words 0); homes = s.homes; views = set s.views id (Book b) } ≡ s =
    λ i. record { words = same_words s.words 0 i; homes = s.homes; views = set_again s.views id (Book b) at i } in (
      Book b,
      keeps,
      tt,
      (h.0, h.1, subst (Kept about h.0 h.1) (sym same) h.2),
      (refl, subst (IsHistory about) (sym ok.whole.1) h.2.history, subst (λ es. Each (Fits about.program.value es) b.held) (sym ok.whole.1) ok.fits),
    )

-- the same, at views that are known
module _ (about : About) (id : ℕ) where
  pub copies_as : (me : Me (Unit {0}) View) → me ≡ (Task (task_of me.0), []) → Splits (Holds about) id me.0 me.0 (Task (idle (task_of me.0).seen))
  copies_as me is = subst (λ (v : View). Splits (Holds about) id v v (Task (idle (task_of me.0).seen))) (sym (ap (λ m. m.0) is)) (copies about id (task_of me.0))

  pub hands_as : (me : Me (Unit {0}) View) → me ≡ (Task (task_of me.0), []) → Splits (Holds about) id me.0 (Task (idle (task_of me.0).seen)) me.0
  hands_as me is = subst (λ (v : View). Splits (Holds about) id v (Task (idle (task_of me.0).seen)) v) (sym (ap (λ m. m.0) is)) (hands about id (task_of me.0))

  pub takes_as : (me : Me (Unit {0}) View) (other : ℕ) (it : Me (Unit {0}) View) → me ≡ (Book (book_of me.0), []) → it ≡ (Task (task_of it.0), []) → Joins (Holds about) id me.0 other it.0 (Book (taken (task_of it.0) (book_of me.0))) Nobody
  takes_as me other it is of = subst (λ (z : View × View). Joins (Holds about) id z.0 other z.1 (Book (taken (task_of it.0) (book_of me.0))) Nobody) (λ i. (ap (λ m. m.0) (sym is) i, ap (λ m. m.0) (sym of) i)) (takes about id (book_of me.0) other (task_of it.0))

  pub returns_as : (me : Me (Unit {0}) View) → me ≡ (Book (book_of me.0), []) → 0 < length (book_of me.0).held → Splits (Holds about) id me.0 (Book (returned (book_of me.0))) (Task (met (book_of me.0).events (front (book_of me.0).held)))
  returns_as me is lt = subst (λ (v : View). Splits (Holds about) id v (Book (returned (book_of me.0))) (Task (met (book_of me.0).events (front (book_of me.0).held)))) (sym (ap (λ m. m.0) is)) (returns about id (book_of me.0) lt)

  pub gives_as : (me : Me (Unit {0}) View) (t : ℕ) → me ≡ (Book (book_of me.0), []) → HasTask t (book_of me.0).held → Splits (Holds about) id me.0 (Book (given t (book_of me.0))) (Task (met (book_of me.0).events (view_of t (book_of me.0).held)))
  gives_as me t is has = subst (λ (v : View). Splits (Holds about) id v (Book (given t (book_of me.0))) (Task (met (book_of me.0).events (view_of t (book_of me.0).held)))) (sym (ap (λ m. m.0) is)) (gives about id (book_of me.0) t has)

  pub checks_as : (name : About) (slots : ℕ) (me : Me (Unit {0}) View) → about ≡ name → me ≡ (Book (book_of me.0), []) → Allows (Holds about) slots id me 0 (λ n. n) (CheckTells name (step slots 0 0 0 none) me)
  checks_as name slots me same is = subst (λ (z : About × Me (Unit {0}) View). Allows (Holds about) slots id z.1 0 (λ n. n) (CheckTells z.0 (step slots 0 0 0 none) z.1)) (λ i. (same i, sym is i)) (checks about slots id (book_of me.0))
