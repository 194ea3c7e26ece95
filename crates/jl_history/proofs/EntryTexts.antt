-- The entries of a legal history may stand in a text.
use Rattle.std.proofs.Common.{◌≡◌, subst, refl, ℕ, zero, suc, ◌+◌, ◌<◌, ◌≤◌, inl, inr, arith, Bool, true, false, cond, nat_eq, List, [], ◌∷◌, ◌++◌, map, length, length-append, take, slice_get, Option, None, Some}
use Rattle.std.proofs.lemmas.Option.{slice_get_within}
use Rattle.jl_model.specs.declared.limits.TheConstants.{MOST_FUEL}
use Rattle.jl_model.specs.declared.ty.Key.{Key}
use Rattle.jl_model.specs.declared.ty.Ty.TheVariants.{Tuple}
use Rattle.jl_program.specs.declared.tree.Program.{Program}
use Rattle.jl_program.specs.Prelude.{prelude_numbers}
use Rattle.jl_program.specs.Text.{function_name, type_text, value_text, fault_text}
use Rattle.jl_program.specs.Valid.{IsValid}
use Rattle.jl_calculus.specs.declared.history.Change.{Change}
use Rattle.jl_calculus.specs.declared.history.Change.TheVariants as Ch
use Rattle.jl_calculus.specs.declared.history.Event.{Event}
use Rattle.jl_calculus.specs.declared.history.Event.TheVariants as Ev
use Rattle.jl_calculus.specs.declared.history.Outcome.{Outcome}
use Rattle.jl_calculus.specs.declared.history.Outcome.TheVariants as O
use Rattle.jl_calculus.specs.declared.history.Record.{Record}
use Rattle.jl_calculus.specs.declared.history.TraceItem.{TraceItem}
use Rattle.jl_calculus.specs.declared.history.TraceItem.TheVariants.{Look, Def, Del, Spawn, Fetch, WorldFull, TaskFull, Absent}
use Rattle.jl_calculus.specs.Legal.{MayCome, start_of, AreTrueOf, HasTrueTrace, HasRun, OnDone, EachAfter, IsLegal}
use Rattle.jl_calculus.specs.Past.{tasks_of, done_of, own_starts, EndedSo, IsTrueOf}
use Rattle.jl_calculus.specs.Ranges.{keys_of, MayBegin, SelectsSite}
use Rattle.jl_calculus.specs.World.{changed, changes, site_in, site_of, world_of}
use Rattle.jl_calculus.proofs.GrowthLemmas.{first_at_most, touches_known}
use Rattle.jl_report.specs.HistoryText.{step_of, steps_of, ending_of, entry_of, keys_with, entries_from, entries_of, entry_lines, all_lines, has_places, history_text}
use Rattle.jl_report.proofs.EntryLemmas.{entries_length}
use Rattle.jl_report.proofs.PlaceLemmas.{place_known, has_place}
use Rattle.jl_history.specs.declared.fields.TheConstants.{MOST_NUMBER}
use Rattle.jl_history.specs.declared.history.TheConstants.{MOST_HISTORY_BYTES}
use Rattle.jl_history.specs.Form.{IsText, IsStep, AreSteps, IsEnding, IsEntry, AreLater, AreFirst, AreEntries}
use Rattle.jl_history.specs.Numbered.{IsNumbered}
use Rattle.jl_history.proofs.LineTexts.{IsLine, IsFilled}
use Rattle.jl_history.proofs.NameTexts.{function_word}
use Rattle.jl_history.proofs.ValueTexts.{IsTold, type_line, tuple_type_some, value_line, value_some, fault_line, fault_some}
use Rattle.jl_history.proofs.RunTexts.{run_told}
use Rattle.jl_history.proofs.TextSizes.{items_few, entries_few, lines_few}

-- ---- texts that are not empty

text_of_line : (t : List ℕ) → IsFilled t → IsLine t → IsText t
text_of_line t s h = record { some = s.some; one_line = h.one_line; utf8 = h.utf8 }

-- ---- how many there are of what

tasks_few : (es : List Event) → tasks_of es ≤ suc (length es)
tasks_few [] = omega arith
tasks_few (Ev.Spawn task child start ∷ es) = omega (arith, tasks_few es)
tasks_few (Ev.Begin fuel ∷ es) = omega (arith, tasks_few es)
tasks_few (Ev.Key key ∷ es) = omega (arith, tasks_few es)
tasks_few (Ev.Fill key site begins ∷ es) = omega (arith, tasks_few es)
tasks_few (Ev.Def task site ∷ es) = omega (arith, tasks_few es)
tasks_few (Ev.Del task place ∷ es) = omega (arith, tasks_few es)
tasks_few (Ev.Done task ended ∷ es) = omega (arith, tasks_few es)

keys_few : (es : List Event) → length (keys_of es) ≤ length es
keys_few [] = omega arith
keys_few (Ev.Key key ∷ es) = omega (arith, keys_few es)
keys_few (Ev.Begin fuel ∷ es) = omega (arith, keys_few es)
keys_few (Ev.Fill key site begins ∷ es) = omega (arith, keys_few es)
keys_few (Ev.Def task site ∷ es) = omega (arith, keys_few es)
keys_few (Ev.Del task place ∷ es) = omega (arith, keys_few es)
keys_few (Ev.Spawn task child start ∷ es) = omega (arith, keys_few es)
keys_few (Ev.Done task ended ∷ es) = omega (arith, keys_few es)

changed_few : (es : List Event) → length (changed es) ≤ length es
changed_few [] = omega arith
changed_few (Ev.Def task site ∷ es) = omega (arith, changed_few es)
changed_few (Ev.Del task place ∷ es) = omega (arith, changed_few es)
changed_few (Ev.Begin fuel ∷ es) = omega (arith, changed_few es)
changed_few (Ev.Key key ∷ es) = omega (arith, changed_few es)
changed_few (Ev.Fill key site begins ∷ es) = omega (arith, changed_few es)
changed_few (Ev.Spawn task child start ∷ es) = omega (arith, changed_few es)
changed_few (Ev.Done task ended ∷ es) = omega (arith, changed_few es)

world_few : (es : List Event) → world_of es ≤ 14 + length es
world_few es = omega (arith, changed_few es)

-- ---- the numbers of events that came before, whose deletions are at places of the program

abbrev IsSmall : Program → Event → Type 0
IsSmall P (Ev.Begin fuel) = Unit {0}
IsSmall P (Ev.Key key) = Unit {0}
IsSmall P (Ev.Fill key site begins) = Unit {0}
IsSmall P (Ev.Def task site) = site ≤ MOST_NUMBER
IsSmall P (Ev.Del task place) = place < length P.deletes
IsSmall P (Ev.Spawn task child start) = child ≤ MOST_NUMBER
IsSmall P (Ev.Done task ended) = task ≤ MOST_NUMBER

abbrev AreSmall : Program → List Event → Type 0
AreSmall P [] = Unit {0}
AreSmall P (e ∷ es) = IsSmall P e × AreSmall P es

small_push : (P : Program) (es : List Event) (e : Event) → AreSmall P es → IsSmall P e → AreSmall P (es ++ e ∷ [])
small_push P [] e h k = (k, tt)
small_push P (x ∷ es) e h k = (h.0, small_push P es e h.1 k)

small_take : (P : Program) (p : ℕ) (es : List Event) → AreSmall P es → AreSmall P (take p es)
small_take P zero es h = tt
small_take P (suc p) [] h = tt
small_take P (suc p) (e ∷ es) h = (h.0, small_take P p es h.1)

small_at : (P : Program) (es : List Event) (p : ℕ) (e : Event) → AreSmall P es → slice_get es p ≡ Some e → IsSmall P e
small_at P [] p e h g = cc
small_at P (x ∷ es) zero e h g = let is : x ≡ e = cc in subst (IsSmall P) is h.0
small_at P (x ∷ es) (suc p) e h g = small_at P es p e h.1 g

small_done : (P : Program) (t : ℕ) (es : List Event) (r : Record) → AreSmall P es → done_of t es ≡ Some r → t ≤ MOST_NUMBER
small_done P t [] r h g = cc
small_done P t (Ev.Done task ended ∷ es) r h g = by (nat_eq task t) refl (λ k. small_done P t es r h.1 k) g
  where
    by : (b : Bool) → nat_eq task t ≡ b → (done_of t es ≡ Some r → t ≤ MOST_NUMBER) → cond b (Some ended) (done_of t es) ≡ Some r → t ≤ MOST_NUMBER
    by true e later k = let is : task ≡ t = grind (arith, e) in subst (λ n. n ≤ MOST_NUMBER) is h.0
    by false e later k = later k
small_done P t (Ev.Begin fuel ∷ es) r h g = small_done P t es r h.1 g
small_done P t (Ev.Key key ∷ es) r h g = small_done P t es r h.1 g
small_done P t (Ev.Fill key site begins ∷ es) r h g = small_done P t es r h.1 g
small_done P t (Ev.Def task site ∷ es) r h g = small_done P t es r h.1 g
small_done P t (Ev.Del task place ∷ es) r h g = small_done P t es r h.1 g
small_done P t (Ev.Spawn task child start ∷ es) r h g = small_done P t es r h.1 g

-- the sites that changes define
abbrev AreSites : List Change → Type 0
AreSites [] = Unit {0}
AreSites (Ch.Def site ∷ cs) = (site ≤ MOST_NUMBER) × AreSites cs
AreSites (Ch.Del place ∷ cs) = AreSites cs

sites_append : (xs ys : List Change) → AreSites xs → AreSites ys → AreSites (xs ++ ys)
sites_append [] ys h k = k
sites_append (Ch.Def site ∷ xs) ys h k = (h.0, sites_append xs ys h.1 k)
sites_append (Ch.Del place ∷ xs) ys h k = sites_append xs ys h k

site_at : (cs : List Change) (k : ℕ) → AreSites cs → site_in (slice_get cs k) ≤ MOST_NUMBER
site_at [] k h = omega arith
site_at (Ch.Def site ∷ cs) zero h = h.0
site_at (Ch.Def site ∷ cs) (suc k) h = site_at cs k h.1
site_at (Ch.Del place ∷ cs) zero h = omega arith
site_at (Ch.Del place ∷ cs) (suc k) h = site_at cs k h

defined_sites : (P : Program) (es : List Event) → AreSmall P es → AreSites (changed es)
defined_sites P [] h = tt
defined_sites P (Ev.Def task site ∷ es) h = (h.0, defined_sites P es h.1)
defined_sites P (Ev.Del task place ∷ es) h = defined_sites P es h.1
defined_sites P (Ev.Begin fuel ∷ es) h = defined_sites P es h.1
defined_sites P (Ev.Key key ∷ es) h = defined_sites P es h.1
defined_sites P (Ev.Fill key site begins ∷ es) h = defined_sites P es h.1
defined_sites P (Ev.Spawn task child start ∷ es) h = defined_sites P es h.1
defined_sites P (Ev.Done task ended ∷ es) h = defined_sites P es h.1

prelude_sites_few : AreSites (map Ch.Def prelude_numbers)
prelude_sites_few = (
  omega arith,
  (
    omega arith,
    (
      omega arith,
      (omega arith, (omega arith, (omega arith, (omega arith, (omega arith, (omega arith, (omega arith, (omega arith, (omega arith, (omega arith, (omega arith, tt))))))))))),
    ),
  ),
)

site_few : (P : Program) (es : List Event) (d : ℕ) → AreSmall P es → site_of es d ≤ MOST_NUMBER
site_few P es zero h = omega arith
site_few P es (suc d) h = site_at (changes es) d (sites_append (map Ch.Def prelude_numbers) (changed es) prelude_sites_few (defined_sites P es h))

-- ---- traces

ended_some : (o : Option Record) (outcome : Outcome) → EndedSo o outcome → (r : Record) × (o ≡ Some r)
ended_some None outcome h = absurd h
ended_some (Some r) outcome h = (r, refl)

-- events that are few, with small numbers
pub record AreFew (P : Program) (es : List Event) : Type 0 where
  pub few : length es ≤ MOST_HISTORY_BYTES
  pub small : AreSmall P es

item_fits : (P : Program) → IsNumbered P → (es : List Event) (t : ℕ) (i : TraceItem) → AreFew P es → IsTrueOf P es t i → IsStep (has_places P) (step_of i)
item_fits P n es t (Look w p) f h =
    let at : world_of (take p es) ≡ w = h.1 in
    let low : world_of (take p es) ≤ world_of es = first_at_most es p in
    (omega (arith, at, low, world_few es, f.few), omega (arith, h.0, f.few))
item_fits P n es t (Def site p) f h = (small_at P es p (Ev.Def t site) f.small h, omega (arith, slice_get_within es p (Ev.Def t site) h, f.few))
item_fits P n es t (Spawn child p) f h = (small_at P es p (Ev.Spawn t child h.0) f.small h.1, omega (arith, slice_get_within es p (Ev.Spawn t child h.0) h.1, f.few))
item_fits P n es t (Fetch task outcome p) f h =
    let r = ended_some (done_of task (take p es)) outcome h.1 in
    (small_done P task (take p es) r.0 (small_take P p es f.small) r.1, omega (arith, h.0, f.few))
item_fits P n es t (WorldFull p) f h = omega (arith, h.0, f.few)
item_fits P n es t (TaskFull p) f h = omega (arith, h.0, f.few)
item_fits P n es t (Del place p) f h =
    let known : place < length P.deletes = small_at P es p (Ev.Del t place) f.small h in
    (has_place P place known, omega (arith, known, n.deletes), omega (arith, slice_get_within es p (Ev.Del t place) h, f.few))
item_fits P n es t (Absent place p) f h = (has_place P place h.1.known, omega (arith, h.1.known, n.deletes), omega (arith, h.0, f.few))

items_fit : (P : Program) → IsNumbered P → (es : List Event) (t : ℕ) (is : List TraceItem) → AreFew P es → AreTrueOf P es t is → AreSteps (has_places P) (steps_of is)
items_fit P n es t [] f h = tt
items_fit P n es t (i ∷ is) f h = (item_fits P n es t i f h.0, items_fit P n es t is f h.1)

-- ---- entries

module _ (P : Program) (v : IsValid P) (n : IsNumbered P) where
  ending_fits : (o : Outcome) → IsTold o → IsEnding (ending_of P o)
  ending_fits (O.Value x) h = text_of_line (value_text P x) (value_some P v x) (value_line P v x)
  ending_fits (O.Error e) h = text_of_line (fault_text P e) (fault_some P v e) (fault_line P v e h)

  -- after a begin with this fuel
  module _ (fuel : ℕ) (allowed : fuel ≤ MOST_FUEL) where
    abbrev after : List Event → List Event
    after before = Ev.Begin fuel ∷ before

    running_few : (es : List Event) (task : ℕ) → length es ≤ MOST_HISTORY_BYTES → task < tasks_of es → task ≤ MOST_NUMBER
    running_few es task f l = omega (arith, tasks_few es, f, l)

    begins_few : (es : List Event) (key : Key) (begins : ℕ) → length es ≤ MOST_HISTORY_BYTES → MayBegin P es key begins → begins ≤ MOST_NUMBER
    begins_few es key begins f (inl e) = omega (arith, e)
    begins_few es key begins f (inr t) = omega (arith, touches_known P es begins key t.1, world_few es, f)

    site_chosen : (es : List Event) (key : Key) (begins site : ℕ) → AreSmall P es → SelectsSite P es key begins site → site ≤ MOST_NUMBER
    site_chosen es key begins site h (d, selects, is) = subst (λ m. m ≤ MOST_NUMBER) is (site_few P es d h)

    key_fits : (before : List Event) (k : ℕ) (key : Key) → k ≤ MOST_NUMBER → MayCome P (after before) (Ev.Key key) → IsEntry (has_places P) (entry_of P k (Ev.Key key))
    key_fits before k key l m =
        let w = function_word P v key.function m.proper.function in
        record {
          small = l;
          name = text_of_line (function_name P key.function) (record { some = w.some }) w.line;
          one_word = w.one_word;
          types = text_of_line (type_text P (Tuple key.types)) (tuple_type_some P v key.types) (type_line P v (Tuple key.types));
        }

    done_fits : (before : List Event) (k task : ℕ) (ended : Record) → AreFew P (after before) → MayCome P (after before) (Ev.Done task ended) → HasTrueTrace P (after before) task ended → HasRun P None (after before) task ended
        → length (entry_lines (entry_of P k (Ev.Done task ended))) ≤ MOST_HISTORY_BYTES → IsEntry (has_places P) (entry_of P k (Ev.Done task ended))
    done_fits before k task ended f m t r l =
        let told = run_told P v (after before) None fuel (start_of task (after before)) ended.trace ended.outcome ended.output ended.calls (own_starts task (after before)) (r fuel refl) in
        record {
          task_small = running_few (after before) task f.few m.started;
          calls_small = omega (arith, told.few, allowed);
          items = omega (arith, items_few task ended.calls (steps_of ended.trace) ended.output (ending_of P ended.outcome), l);
          steps = items_fit P n (after before) task ended.trace f t.true_items;
          utf8 = told.utf8;
          ends = ending_fits ended.outcome told.named;
        }

    entry_fits : (before : List Event) (k : ℕ) (e : Event) → k ≤ MOST_NUMBER → AreFew P (after before) → MayCome P (after before) e → OnDone (HasTrueTrace P (after before)) e → OnDone (HasRun P None (after before)) e
        → length (entry_lines (entry_of P k e)) ≤ MOST_HISTORY_BYTES → IsEntry (has_places P) (entry_of P k e)
    entry_fits before k (Ev.Begin other) s f m t r l = absurd (let h : Ev.Begin fuel ∷ before ≡ [] = m.nothing_before in cc)
    entry_fits before k (Ev.Key key) s f m t r l = key_fits before k key s m
    entry_fits before k (Ev.Fill number site begins) s f m t r l = (
      omega (arith, slice_get_within (keys_of (after before)) number m.key m.named, keys_few (after before), f.few),
      site_chosen (after before) m.key begins site f.small m.right.choice,
      begins_few (after before) m.key begins f.few m.right.begun,
    )
    entry_fits before k (Ev.Def task site) s f m t r l = (running_few (after before) task f.few m.running.started, omega (arith, m.may.1, n.sites))
    entry_fits before k (Ev.Del task place) s f m t r l =
        let known : place < length P.deletes = place_known P (after before) place m.may in
        (has_place P place known, running_few (after before) task f.few m.running.started, omega (arith, known, n.deletes))
    entry_fits before k (Ev.Spawn task child start) s f m t r l = (
      running_few (after before) task f.few m.running.started,
      omega (arith, m.next, tasks_few (after before), f.few),
      omega (arith, m.of_program, n.spawns),
    )
    entry_fits before k (Ev.Done task ended) s f m t r l = done_fits before k task ended f m t r l

    small_event : (before : List Event) (e : Event) → length (after before) ≤ MOST_HISTORY_BYTES → MayCome P (after before) e → IsSmall P e
    small_event before (Ev.Begin other) f m = tt
    small_event before (Ev.Key key) f m = tt
    small_event before (Ev.Fill number site begins) f m = tt
    small_event before (Ev.Def task site) f m = omega (arith, m.may.1, n.sites)
    small_event before (Ev.Del task place) f m = place_known P (after before) place m.may
    small_event before (Ev.Spawn task child start) f m = omega (arith, m.next, tasks_few (after before), f)
    small_event before (Ev.Done task ended) f m = running_few (after before) task f m.started

    keys_grow : (k : ℕ) (e : Event) → keys_with k e ≤ k + 1
    keys_grow k (Ev.Begin other) = omega arith
    keys_grow k (Ev.Key key) = omega arith
    keys_grow k (Ev.Fill number site begins) = omega arith
    keys_grow k (Ev.Def task site) = omega arith
    keys_grow k (Ev.Del task place) = omega arith
    keys_grow k (Ev.Spawn task child start) = omega arith
    keys_grow k (Ev.Done task ended) = omega arith

    later_fit : (before es : List Event) (k : ℕ) → k ≤ length (after before) → AreSmall P (after before) → length (after before) + length es ≤ MOST_HISTORY_BYTES → length (all_lines (entries_from P k es)) ≤ MOST_HISTORY_BYTES
        → EachAfter (MayCome P) (after before) es → EachAfter (λ past. OnDone (HasTrueTrace P past)) (after before) es → EachAfter (λ past. OnDone (HasRun P None past)) (after before) es → AreLater (has_places P) (entries_from P k es)
    later_fit before [] k s small f l m t r = tt
    later_fit before (e ∷ es) k s small f l m t r =
        let parts = length-append (entry_lines (entry_of P k e)) (all_lines (entries_from P (keys_with k e) es)) in
        let grown = length-append before (e ∷ []) in
        let few : AreFew P (after before) = record { few = omega (arith, f); small = small } in (
          entry_fits before k e (omega (arith, s, f)) few m.0 t.0 r.0 (omega (arith, parts, l)),
          later_fit (before ++ e ∷ []) es (keys_with k e) (omega (arith, keys_grow k e, s, grown)) (small_push P (after before) e small (small_event before e few.few m.0)) (omega (arith, f, grown)) (omega (arith, parts, l)) m.1 t.1 r.1,
        )

-- what follows a begin, and the begin
entries_fit : (P : Program) → IsValid P → IsNumbered P → (es : List Event) → IsLegal P es → length (all_lines (entries_of P es)) ≤ MOST_HISTORY_BYTES → length es ≤ MOST_HISTORY_BYTES → AreFirst (has_places P) (entries_of P es)
entries_fit P v n [] g l f = let bad : false ≡ true = g.so_far.stand.begun in cc
entries_fit P v n (Ev.Begin fuel ∷ es) g l f =
    let come = g.so_far.stand.come in
    let parts = length-append (entry_lines (entry_of P 0 (Ev.Begin fuel))) (all_lines (entries_from P 0 es)) in (
      come.0.allowed,
      later_fit P v n fuel come.0.allowed [] es 0 (omega arith) (tt, tt) (omega (arith, f)) (omega (arith, parts, l)) come.1 g.so_far.traced.traces.1 g.so_far.runs.1,
    )
entries_fit P v n (Ev.Key key ∷ es) g l f = let bad : false ≡ true = g.so_far.stand.begun in cc
entries_fit P v n (Ev.Fill key site begins ∷ es) g l f = let bad : false ≡ true = g.so_far.stand.begun in cc
entries_fit P v n (Ev.Def task site ∷ es) g l f = let bad : false ≡ true = g.so_far.stand.begun in cc
entries_fit P v n (Ev.Del task place ∷ es) g l f = let bad : false ≡ true = g.so_far.stand.begun in cc
entries_fit P v n (Ev.Spawn task child start ∷ es) g l f = let bad : false ≡ true = g.so_far.stand.begun in cc
entries_fit P v n (Ev.Done task ended ∷ es) g l f = let bad : false ≡ true = g.so_far.stand.begun in cc

pub legal_entries : (P : Program) → IsValid P → IsNumbered P → (es : List Event) → IsLegal P es → length (history_text P es) ≤ MOST_HISTORY_BYTES → AreEntries (has_places P) (entries_of P es)
legal_entries P v n es g l =
    let lines = lines_few (has_places P) (entries_of P es) in
    let many = entries_few (entries_of P es) in
    let same = entries_length P es in
    let first : AreFirst (has_places P) (entries_of P es) = entries_fit P v n es g (omega (arith, lines, l)) (omega (arith, lines, many, same, l)) in
    (first, omega (arith, lines, many, l))
