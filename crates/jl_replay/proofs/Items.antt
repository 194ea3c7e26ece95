-- Items and the steps that are told of them: true items are those of their steps, and a trace is split at its definition, deletion or
-- spawn at a place.
use Rattle.std.proofs.Common.{◌≡◌, ◌∙◌, ap, sym, subst, refl, ℕ, ◌+◌, ◌<◌, ◌≤◌, arith, Bool, true, false, cond, nat_eq, List, [], ◌∷◌, ◌++◌, length, take, drop, take-append-drop, Option, Some, None}
use Rattle.std.proofs.lemmas.List.{take-append-le}
use Rattle.jl_model.specs.declared.limits.TheConstants.{MOST_WORLDS, MOST_TASKS}
use Rattle.jl_program.specs.declared.tree.Program.{Program}
use Rattle.jl_calculus.specs.declared.history.Event.{Event}
use Rattle.jl_calculus.specs.declared.history.Event.TheVariants as Ev
use Rattle.jl_calculus.specs.declared.history.Outcome.{Outcome}
use Rattle.jl_calculus.specs.declared.history.Record.{Record}
use Rattle.jl_calculus.specs.declared.history.TraceItem.{TraceItem}
use Rattle.jl_calculus.specs.declared.history.TraceItem.TheVariants as I
use Rattle.jl_calculus.specs.Led.{spawn_count, items_before}
use Rattle.jl_calculus.specs.Legal.{AreTrueOf}
use Rattle.jl_calculus.specs.Past.{tasks_of, done_of, EndedSo, IsAbsent, IsTrueOf, IsInOrder, place, past, own_items, own_events, own_starts}
use Rattle.jl_calculus.specs.World.{world_of}
use Rattle.jl_calculus.proofs.GrowthLemmas.{get_same}
use Rattle.jl_lead.proofs.EventFacts.{self_eq, done_stays}
use Rattle.jl_report.specs.declared.entry.Step.{Step}
use Rattle.jl_report.specs.declared.entry.Step.TheVariants as S
use Rattle.jl_report.specs.HistoryText.{step_of, steps_of}
use Rattle.jl_replay.specs.Told.{steps_before, outcome_or_nothing, item_told, items_told}

-- ---- true items are those of their steps

ended_so : (o : Option Record) (outcome : Outcome) → EndedSo o outcome → (r : Record) × (o ≡ Some r) × (r.outcome ≡ outcome)
ended_so None outcome h = absurd h
ended_so (Some r) outcome h = (r, refl, h)

-- the outcome of a task that ended among the first events is the one that it has after all of them
pub fetch_told : (es : List Event) (task p : ℕ) (outcome : Outcome) → EndedSo (done_of task (take p es)) outcome → outcome_or_nothing (done_of task es) ≡ outcome
fetch_told es task p outcome h =
    let (r, is, so) = ended_so (done_of task (take p es)) outcome h in
    ap outcome_or_nothing (subst (λ xs. done_of task xs ≡ Some r) (take-append-drop p es) (done_stays task (take p es) (drop p es) r is)) ∙ so

pub item_true : (P : Program) (es : List Event) (t : ℕ) (i : TraceItem) → IsTrueOf P es t i → item_told es (step_of i) ≡ i
item_true P es t (I.Look w p) h = refl
item_true P es t (I.Def site p) h = refl
item_true P es t (I.Spawn child p) h = refl
item_true P es t (I.Fetch task outcome p) h = ap (λ o. I.Fetch task o p) (fetch_told es task p outcome h.1)
item_true P es t (I.WorldFull p) h = refl
item_true P es t (I.TaskFull p) h = refl
item_true P es t (I.Del place p) h = refl
item_true P es t (I.Absent place p) h = refl

pub items_true : (P : Program) (es : List Event) (t : ℕ) (is : List TraceItem) → AreTrueOf P es t is → is ≡ items_told es (steps_of is)
items_true P es t [] h = refl
items_true P es t (i ∷ is) h =
    let one : i ≡ item_told es (step_of i) = sym (item_true P es t i h.0) in
    let more : is ≡ items_told es (steps_of is) = items_true P es t is h.1 in
    λ k. one k ∷ more k

step_told : (es : List Event) (s : Step) → step_of (item_told es s) ≡ s
step_told es (S.Look w p) = refl
step_told es (S.Def site p) = refl
step_told es (S.Spawn child p) = refl
step_told es (S.Fetch task p) = refl
step_told es (S.WorldFull p) = refl
step_told es (S.TaskFull p) = refl
step_told es (S.Del place p) = refl
step_told es (S.Absent place p) = refl

-- the steps of the items that steps are
pub steps_told : (es : List Event) (ss : List Step) → steps_of (items_told es ss) ≡ ss
steps_told es [] = refl
steps_told es (s ∷ ss) =
    let one : step_of (item_told es s) ≡ s = step_told es s in
    let more : steps_of (items_told es ss) ≡ ss = steps_told es ss in
    λ k. one k ∷ more k

pub items_append : (es : List Event) (ss more : List Step) → items_told es (ss ++ more) ≡ items_told es ss ++ items_told es more
items_append es [] more = refl
items_append es (s ∷ ss) more = ap (λ is. item_told es s ∷ is) (items_append es ss more)

pub steps_append : (is more : List TraceItem) → steps_of (is ++ more) ≡ steps_of is ++ steps_of more
steps_append [] more = refl
steps_append (i ∷ is) more = ap (λ ss. step_of i ∷ ss) (steps_append is more)

-- ---- items up to a place

pub order_high : (low : ℕ) (is : List TraceItem) (high : ℕ) → IsInOrder low is high → low ≤ high
order_high low [] high h = h
order_high low (I.Look w p ∷ is) high h = omega (arith, h.0, order_high p is high h.1)
order_high low (I.Def site p ∷ is) high h = omega (arith, h.0, order_high (p + 1) is high h.1)
order_high low (I.Spawn child p ∷ is) high h = omega (arith, h.0, order_high (p + 1) is high h.1)
order_high low (I.Fetch task outcome p ∷ is) high h = omega (arith, h.0, order_high p is high h.1)
order_high low (I.WorldFull p ∷ is) high h = omega (arith, h.0, order_high p is high h.1)
order_high low (I.TaskFull p ∷ is) high h = omega (arith, h.0, order_high p is high h.1)
order_high low (I.Del at p ∷ is) high h = omega (arith, h.0, order_high (p + 1) is high h.1)
order_high low (I.Absent at p ∷ is) high h = omega (arith, h.0, order_high p is high h.1)

-- what is true of a longer list and tells of its first events alone is true of these
pub true_cut : (P : Program) (es more : List Event) (t : ℕ) (i : TraceItem) → past i ≤ length es → IsTrueOf P (es ++ more) t i → IsTrueOf P es t i
true_cut P es more t (I.Look w p) l h = (l, subst (λ xs. world_of xs ≡ w) (take-append-le p es more l) h.1)
true_cut P es more t (I.Def site p) l h = sym (get_same es more p (omega (arith, l))) ∙ h
true_cut P es more t (I.Spawn child p) l h = (h.0, sym (get_same es more p (omega (arith, l))) ∙ h.1)
true_cut P es more t (I.Fetch task outcome p) l h = (l, subst (λ xs. EndedSo (done_of task xs) outcome) (take-append-le p es more l) h.1)
true_cut P es more t (I.WorldFull p) l h = (l, subst (λ xs. world_of xs ≡ MOST_WORLDS) (take-append-le p es more l) h.1)
true_cut P es more t (I.TaskFull p) l h = (l, subst (λ xs. tasks_of xs ≡ MOST_TASKS) (take-append-le p es more l) h.1)
true_cut P es more t (I.Del at p) l h = sym (get_same es more p (omega (arith, l))) ∙ h
true_cut P es more t (I.Absent at p) l h = (l, subst (λ xs. IsAbsent P xs at) (take-append-le p es more l) h.1)

pub all_cut : (P : Program) (es more : List Event) (t low : ℕ) (is : List TraceItem) → IsInOrder low is (length es) → AreTrueOf P (es ++ more) t is → AreTrueOf P es t is
all_cut P es more t low [] o h = tt
all_cut P es more t low (i ∷ is) o h = (true_cut P es more t i (order_high (past i) is (length es) o.1) h.0, all_cut P es more t (past i) is o.1 h.1)

-- the items before one that is at a place
pub order_before : (low high : ℕ) (before : List TraceItem) (i : TraceItem) (after : List TraceItem) → IsInOrder low (before ++ i ∷ after) high → IsInOrder low before (place i)
order_before low high [] i after h = h.0
order_before low high (j ∷ js) i after h = (h.0, order_before (past j) high js i after h.1)

pub true_before : (P : Program) (es : List Event) (t : ℕ) (before after : List TraceItem) → AreTrueOf P es t (before ++ after) → AreTrueOf P es t before
true_before P es t [] after h = tt
true_before P es t (j ∷ js) after h = (h.0, true_before P es t js after h.1)

-- ---- a trace, split at its definition, deletion or spawn at a place

-- all are at earlier places
abbrev pub AreBefore : ℕ → List TraceItem → Type 0
AreBefore n [] = Unit {0}
AreBefore n (i ∷ is) = (place i < n) × AreBefore n is

-- what comes before, of which these are the definitions, deletions and spawns
pub record IsSplit (n : ℕ) (is own : List TraceItem) (x : TraceItem) : Type 0 where
  pub after : List TraceItem
  pub whole : is ≡ items_before n is ++ x ∷ after
  pub own_before : own_items (items_before n is) ≡ own

module _ (n : ℕ) (x : TraceItem) (stops : (js : List TraceItem) → items_before n (x ∷ js) ≡ []) (rest : List TraceItem) where
  private_head : (i : TraceItem) (is : List TraceItem)
      → ((js : List TraceItem) → items_before n (i ∷ js) ≡ cond (nat_eq (place i) n) [] (i ∷ items_before n js))
      → ((js : List TraceItem) → own_items (i ∷ js) ≡ i ∷ own_items js)
      → (own : List TraceItem) → AreBefore n own → i ∷ own_items is ≡ own ++ x ∷ rest
      → ((less : List TraceItem) → AreBefore n less → own_items is ≡ less ++ x ∷ rest → IsSplit n is less x)
      → IsSplit n (i ∷ is) own x
  private_head i is step owns [] b q more =
      let same : i ≡ x = cc q in
      let none : items_before n (i ∷ is) ≡ [] = ap (λ j. items_before n (j ∷ is)) same ∙ stops is in
      record {
        after = is;
        whole = ap (λ j. j ∷ is) same ∙ sym (ap (λ js. js ++ x ∷ is) none);
        own_before = ap own_items none;
      }
  private_head i is step owns (a ∷ own) b q more =
      let same : i ≡ a = cc q in
      let tail : own_items is ≡ own ++ x ∷ rest = cc q in
      let r = more own b.1 tail in
      let less : place i < n = subst (λ j. place j < n) (sym same) b.0 in
      let other : nat_eq (place i) n ≡ false = grind (arith, less) in
      let one : items_before n (i ∷ is) ≡ i ∷ items_before n is = step is ∙ ap (λ t. cond t [] (i ∷ items_before n is)) other in
      record {
        after = r.after;
        whole = ap (λ js. i ∷ js) r.whole ∙ sym (ap (λ js. js ++ x ∷ r.after) one);
        own_before = ap own_items one ∙ owns (items_before n is) ∙ ap (λ js. i ∷ js) r.own_before ∙ ap (λ j. j ∷ own) same;
      }

  no_own : (own : List TraceItem) → [] ≡ own ++ x ∷ rest → ⊥
  no_own [] q = cc q
  no_own (a ∷ own) q = cc q

  pub split : (is own : List TraceItem) → AreBefore n own → own_items is ≡ own ++ x ∷ rest → IsSplit n is own x
  split [] own b q = absurd (no_own own q)
  split (I.Look w p ∷ is) own b q =
      let r = split is own b q in
      record { after = r.after; whole = ap (λ js. I.Look w p ∷ js) r.whole; own_before = r.own_before }
  split (I.Def site p ∷ is) own b q = private_head (I.Def site p) is (λ js. refl) (λ js. refl) own b q (λ less c e. split is less c e)
  split (I.Spawn child p ∷ is) own b q = private_head (I.Spawn child p) is (λ js. refl) (λ js. refl) own b q (λ less c e. split is less c e)
  split (I.Fetch task outcome p ∷ is) own b q =
      let r = split is own b q in
      record { after = r.after; whole = ap (λ js. I.Fetch task outcome p ∷ js) r.whole; own_before = r.own_before }
  split (I.WorldFull p ∷ is) own b q =
      let r = split is own b q in
      record { after = r.after; whole = ap (λ js. I.WorldFull p ∷ js) r.whole; own_before = r.own_before }
  split (I.TaskFull p ∷ is) own b q =
      let r = split is own b q in
      record { after = r.after; whole = ap (λ js. I.TaskFull p ∷ js) r.whole; own_before = r.own_before }
  split (I.Del at p ∷ is) own b q = private_head (I.Del at p) is (λ js. refl) (λ js. refl) own b q (λ less c e. split is less c e)
  split (I.Absent at p ∷ is) own b q =
      let r = split is own b q in
      record { after = r.after; whole = ap (λ js. I.Absent at p ∷ js) r.whole; own_before = r.own_before }

pub def_stops : (site n : ℕ) (js : List TraceItem) → items_before n (I.Def site n ∷ js) ≡ []
def_stops site n js = ap (λ t. cond t [] (I.Def site n ∷ items_before n js)) (self_eq n)

pub del_stops : (place n : ℕ) (js : List TraceItem) → items_before n (I.Del place n ∷ js) ≡ []
del_stops place n js = ap (λ t. cond t [] (I.Del place n ∷ items_before n js)) (self_eq n)

pub spawn_stops : (child n : ℕ) (js : List TraceItem) → items_before n (I.Spawn child n ∷ js) ≡ []
spawn_stops child n js = ap (λ t. cond t [] (I.Spawn child n ∷ items_before n js)) (self_eq n)

-- the steps before a place are those of the items before it
steps_cond : (b : Bool) (i : TraceItem) (is : List TraceItem) (ss : List Step) → ss ≡ steps_of is → cond b [] (step_of i ∷ ss) ≡ steps_of (cond b [] (i ∷ is))
steps_cond true i is ss q = refl
steps_cond false i is ss q = ap (λ xs. step_of i ∷ xs) q

pub steps_before_are : (n : ℕ) (is : List TraceItem) → steps_before n (steps_of is) ≡ steps_of (items_before n is)
steps_before_are n [] = refl
steps_before_are n (I.Look w p ∷ is) = ap (λ ss. S.Look w p ∷ ss) (steps_before_are n is)
steps_before_are n (I.Def site p ∷ is) = steps_cond (nat_eq p n) (I.Def site p) (items_before n is) (steps_before n (steps_of is)) (steps_before_are n is)
steps_before_are n (I.Spawn child p ∷ is) = steps_cond (nat_eq p n) (I.Spawn child p) (items_before n is) (steps_before n (steps_of is)) (steps_before_are n is)
steps_before_are n (I.Fetch task outcome p ∷ is) = ap (λ ss. S.Fetch task p ∷ ss) (steps_before_are n is)
steps_before_are n (I.WorldFull p ∷ is) = ap (λ ss. S.WorldFull p ∷ ss) (steps_before_are n is)
steps_before_are n (I.TaskFull p ∷ is) = ap (λ ss. S.TaskFull p ∷ ss) (steps_before_are n is)
steps_before_are n (I.Del at p ∷ is) = steps_cond (nat_eq p n) (I.Del at p) (items_before n is) (steps_before n (steps_of is)) (steps_before_are n is)
steps_before_are n (I.Absent at p ∷ is) = ap (λ ss. S.Absent at p ∷ ss) (steps_before_are n is)

-- ---- what a task made so far

before_cond : (b : Bool) (n : ℕ) (i : TraceItem) (is : List TraceItem) → place i < n → AreBefore n is → AreBefore n (cond b (i ∷ is) is)
before_cond true n i is l h = (l, h)
before_cond false n i is l h = h

pub own_places : (t n p : ℕ) (es : List Event) → p + length es ≤ n → AreBefore n (own_events t p es)
own_places t n p [] l = tt
own_places t n p (Ev.Def task site ∷ es) l = before_cond (nat_eq task t) n (I.Def site p) (own_events t (p + 1) es) (omega (arith, l)) (own_places t n (p + 1) es (omega (arith, l)))
own_places t n p (Ev.Del task at ∷ es) l = before_cond (nat_eq task t) n (I.Del at p) (own_events t (p + 1) es) (omega (arith, l)) (own_places t n (p + 1) es (omega (arith, l)))
own_places t n p (Ev.Spawn task child start ∷ es) l =
    before_cond (nat_eq task t) n (I.Spawn child p) (own_events t (p + 1) es) (omega (arith, l)) (own_places t n (p + 1) es (omega (arith, l)))
own_places t n p (Ev.Begin fuel ∷ es) l = own_places t n (p + 1) es (omega (arith, l))
own_places t n p (Ev.Key key ∷ es) l = own_places t n (p + 1) es (omega (arith, l))
own_places t n p (Ev.Fill key site first ∷ es) l = own_places t n (p + 1) es (omega (arith, l))
own_places t n p (Ev.Done task ended ∷ es) l = own_places t n (p + 1) es (omega (arith, l))

-- the spawns of a trace are those of its definitions, deletions and spawns
pub spawns_own : (is : List TraceItem) → spawn_count (own_items is) ≡ spawn_count is
spawns_own [] = refl
spawns_own (I.Look w p ∷ is) = spawns_own is
spawns_own (I.Def site p ∷ is) = spawns_own is
spawns_own (I.Spawn child p ∷ is) = ap (λ n. 1 + n) (spawns_own is)
spawns_own (I.Fetch task outcome p ∷ is) = spawns_own is
spawns_own (I.WorldFull p ∷ is) = spawns_own is
spawns_own (I.TaskFull p ∷ is) = spawns_own is
spawns_own (I.Del at p ∷ is) = spawns_own is
spawns_own (I.Absent at p ∷ is) = spawns_own is

pub starts_counted : (t p : ℕ) (es : List Event) → spawn_count (own_events t p es) ≡ length (own_starts t es)
starts_counted t p [] = refl
starts_counted t p (Ev.Def task site ∷ es) = go (nat_eq task t) (starts_counted t (p + 1) es)
  where
    go : (b : Bool) → spawn_count (own_events t (p + 1) es) ≡ length (own_starts t es) → spawn_count (cond b (I.Def site p ∷ own_events t (p + 1) es) (own_events t (p + 1) es)) ≡ length (own_starts t es)
    go true h = h
    go false h = h
starts_counted t p (Ev.Del task at ∷ es) = go (nat_eq task t) (starts_counted t (p + 1) es)
  where
    go : (b : Bool) → spawn_count (own_events t (p + 1) es) ≡ length (own_starts t es) → spawn_count (cond b (I.Del at p ∷ own_events t (p + 1) es) (own_events t (p + 1) es)) ≡ length (own_starts t es)
    go true h = h
    go false h = h
starts_counted t p (Ev.Spawn task child start ∷ es) = go (nat_eq task t) (starts_counted t (p + 1) es)
  where
    go : (b : Bool) → spawn_count (own_events t (p + 1) es) ≡ length (own_starts t es)
        → spawn_count (cond b (I.Spawn child p ∷ own_events t (p + 1) es) (own_events t (p + 1) es)) ≡ length (cond b (start ∷ own_starts t es) (own_starts t es))
    go true h = omega (arith, h)
    go false h = h
starts_counted t p (Ev.Begin fuel ∷ es) = starts_counted t (p + 1) es
starts_counted t p (Ev.Key key ∷ es) = starts_counted t (p + 1) es
starts_counted t p (Ev.Fill key site first ∷ es) = starts_counted t (p + 1) es
starts_counted t p (Ev.Done task ended ∷ es) = starts_counted t (p + 1) es
