-- The trace of a task in two histories with the same entries.
use Rattle.std.proofs.Common.{◌≡◌, ◌∙◌, ap, sym, subst, refl, ℕ, ◌+◌, arith, List, [], ◌∷◌, length, take, slice_get, Option, Some, None, IsSome}
use Rattle.jl_program.specs.declared.tree.Program.{Program}
use Rattle.jl_program.specs.declared.tree.Start.{Start}
use Rattle.jl_calculus.specs.declared.history.Event.{Event}
use Rattle.jl_calculus.specs.declared.history.Event.TheVariants as Ev
use Rattle.jl_calculus.specs.declared.history.Outcome.{Outcome}
use Rattle.jl_calculus.specs.declared.history.Record.{Record}
use Rattle.jl_calculus.specs.declared.history.TraceItem.{TraceItem}
use Rattle.jl_calculus.specs.declared.history.TraceItem.TheVariants as I
use Rattle.jl_calculus.specs.Legal.{AreTrueOf, first_place, HasTrueTrace, HasOwnEvents}
use Rattle.jl_calculus.specs.Past.{done_of, EndedSo, IsTrueOf, IsInOrder, own_items}
use Rattle.jl_report.specs.declared.entry.Entry.{Entry}
use Rattle.jl_report.specs.HistoryText.{step_of, steps_of}
use Rattle.jl_causes.specs.Sketch.{untold, item_of, items_of, record_of, AllTell}
use Rattle.jl_causes.specs.Laws.{IsFetchTold, AreFetchesTold}
use Rattle.jl_causes.proofs.SketchLemmas.{tell_take, outcome_untold}
use Rattle.jl_causes.proofs.AlikeLemmas.{IsAlike, AreAlike, Same, alike_at, alike_back, alike_take, same, same_back, world_to, absent_to}

-- an item as its entry tells it
abbrev pub sketched : TraceItem → TraceItem
sketched i = item_of (step_of i)

abbrev pub all_sketched : List TraceItem → List TraceItem
all_sketched is = items_of (steps_of is)

-- ---- order and own items

pub order_to : (low high : ℕ) (is : List TraceItem) → IsInOrder low (all_sketched is) high → IsInOrder low is high
order_to low high [] h = h
order_to low high (I.Look w p ∷ is) h = (h.0, order_to p high is h.1)
order_to low high (I.Def site p ∷ is) h = (h.0, order_to (p + 1) high is h.1)
order_to low high (I.Spawn child p ∷ is) h = (h.0, order_to (p + 1) high is h.1)
order_to low high (I.Fetch task outcome p ∷ is) h = (h.0, order_to p high is h.1)
order_to low high (I.WorldFull p ∷ is) h = (h.0, order_to p high is h.1)
order_to low high (I.TaskFull p ∷ is) h = (h.0, order_to p high is h.1)
order_to low high (I.Del place p ∷ is) h = (h.0, order_to (p + 1) high is h.1)
order_to low high (I.Absent place p ∷ is) h = (h.0, order_to p high is h.1)

pub order_back : (low high : ℕ) (is : List TraceItem) → IsInOrder low is high → IsInOrder low (all_sketched is) high
order_back low high [] h = h
order_back low high (I.Look w p ∷ is) h = (h.0, order_back p high is h.1)
order_back low high (I.Def site p ∷ is) h = (h.0, order_back (p + 1) high is h.1)
order_back low high (I.Spawn child p ∷ is) h = (h.0, order_back (p + 1) high is h.1)
order_back low high (I.Fetch task outcome p ∷ is) h = (h.0, order_back p high is h.1)
order_back low high (I.WorldFull p ∷ is) h = (h.0, order_back p high is h.1)
order_back low high (I.TaskFull p ∷ is) h = (h.0, order_back p high is h.1)
order_back low high (I.Del place p ∷ is) h = (h.0, order_back (p + 1) high is h.1)
order_back low high (I.Absent place p ∷ is) h = (h.0, order_back p high is h.1)

pub own_same : (is : List TraceItem) → own_items (all_sketched is) ≡ own_items is
own_same [] = refl
own_same (I.Look w p ∷ is) = own_same is
own_same (I.Def site p ∷ is) = ap (λ xs. I.Def site p ∷ xs) (own_same is)
own_same (I.Spawn child p ∷ is) = ap (λ xs. I.Spawn child p ∷ xs) (own_same is)
own_same (I.Fetch task outcome p ∷ is) = own_same is
own_same (I.WorldFull p ∷ is) = own_same is
own_same (I.TaskFull p ∷ is) = own_same is
own_same (I.Del place p ∷ is) = ap (λ xs. I.Del place p ∷ xs) (own_same is)
own_same (I.Absent place p ∷ is) = own_same is

-- ---- truth

pub ended_is : (o : Option Record) (outcome : Outcome) → IsSome o → ((ended : Record) → o ≡ Some ended → ended.outcome ≡ outcome) → EndedSo o outcome
ended_is None outcome h k = absurd (cc h)
ended_is (Some ended) outcome h k = k ended refl

pub is_ended : (o : Option Record) (outcome : Outcome) → EndedSo o outcome → IsSome o
is_ended None outcome h = absurd h
is_ended (Some ended) outcome h = refl

spawn_to : (es ds : List Event) (t p child : ℕ) (start : Start) (d : Event) → slice_get ds p ≡ Some d → IsAlike (Ev.Spawn t child start) d → (other : Start) × (slice_get ds p ≡ Some (Ev.Spawn t child other))
spawn_to es ds t p child start d at (other, is, place) = (other, at ∙ ap (λ x. Some x) is)

def_back : (es : List Event) (t p site : ℕ) (e : Event) → slice_get es p ≡ Some e → IsAlike e (Ev.Def t site) → slice_get es p ≡ Some (Ev.Def t site)
def_back es t p site (Ev.Begin fuel) at k = absurd (cc k)
def_back es t p site (Ev.Key key) at k = absurd (cc k)
def_back es t p site (Ev.Fill key x first) at k = absurd (cc k)
def_back es t p site (Ev.Def by x) at k = at ∙ ap (λ z. Some z) (sym k)
def_back es t p site (Ev.Del by place) at k = absurd (cc k)
def_back es t p site (Ev.Spawn by child start) at (other, is, place) = absurd (cc is)
def_back es t p site (Ev.Done by ended) at (other, is, steps) = absurd (cc is)

del_back : (es : List Event) (t p place : ℕ) (e : Event) → slice_get es p ≡ Some e → IsAlike e (Ev.Del t place) → slice_get es p ≡ Some (Ev.Del t place)
del_back es t p place (Ev.Begin fuel) at k = absurd (cc k)
del_back es t p place (Ev.Key key) at k = absurd (cc k)
del_back es t p place (Ev.Fill key x first) at k = absurd (cc k)
del_back es t p place (Ev.Def by x) at k = absurd (cc k)
del_back es t p place (Ev.Del by x) at k = at ∙ ap (λ z. Some z) (sym k)
del_back es t p place (Ev.Spawn by child start) at (other, is, spawn) = absurd (cc is)
del_back es t p place (Ev.Done by ended) at (other, is, steps) = absurd (cc is)

spawn_back : (es : List Event) (t p child : ℕ) (start : Start) (e : Event) → slice_get es p ≡ Some e → IsAlike e (Ev.Spawn t child start) → (other : Start) × (slice_get es p ≡ Some (Ev.Spawn t child other))
spawn_back es t p child start (Ev.Begin fuel) at k = absurd (cc k)
spawn_back es t p child start (Ev.Key key) at k = absurd (cc k)
spawn_back es t p child start (Ev.Fill key x first) at k = absurd (cc k)
spawn_back es t p child start (Ev.Def by x) at k = absurd (cc k)
spawn_back es t p child start (Ev.Del by place) at k = absurd (cc k)
spawn_back es t p child start (Ev.Spawn by c s) at (other, is, place) = (s, at ∙ cc is)
spawn_back es t p child start (Ev.Done by ended) at (other, is, steps) = absurd (cc is)

module _ (P : Program) (es ds : List Event) (h : AreAlike es ds) where
  taken : (p : ℕ) → Same (take p es) (take p ds)
  taken p = same (take p es) (take p ds) (alike_take p es ds h)

  long : length ds ≡ length es
  long = (same es ds h).many

  -- from what the entries tell to what the history tells
  true_to : (t : ℕ) (i : TraceItem) → IsFetchTold ds i → IsTrueOf P es t (sketched i) → IsTrueOf P ds t i
  true_to t (I.Look w p) told k = (omega (arith, long, k.0), world_to P (take p es) (take p ds) (taken p) ∙ k.1)
  true_to t (I.Def site p) told k =
      let (d, at, is) = alike_at es ds p (Ev.Def t site) h k in
      at ∙ ap (λ x. Some x) is
  true_to t (I.Spawn child p) told k =
      let (start, at_es) = k in
      let (d, at, is) = alike_at es ds p (Ev.Spawn t child start) h at_es in
      spawn_to es ds t p child start d at is
  true_to t (I.Fetch task outcome p) told k =
      (omega (arith, long, k.0), ended_is (done_of task (take p ds)) outcome ((taken p).ends task ∙ is_ended (done_of task (take p es)) untold k.1) told)
  true_to t (I.WorldFull p) told k = (omega (arith, long, k.0), world_to P (take p es) (take p ds) (taken p) ∙ k.1)
  true_to t (I.TaskFull p) told k = (omega (arith, long, k.0), (taken p).tasks ∙ k.1)
  true_to t (I.Del place p) told k =
      let (d, at, is) = alike_at es ds p (Ev.Del t place) h k in
      at ∙ ap (λ x. Some x) is
  true_to t (I.Absent place p) told k = (omega (arith, long, k.0), absent_to P (take p es) (take p ds) (taken p) place k.1)

  all_true_to : (t : ℕ) (is : List TraceItem) → AreFetchesTold ds is → AreTrueOf P es t (all_sketched is) → AreTrueOf P ds t is
  all_true_to t [] told k = tt
  all_true_to t (i ∷ is) told k = (true_to t i told.0 k.0, all_true_to t is told.1 k.1)

  pub trace_to : (t : ℕ) (r ended : Record) → steps_of ended.trace ≡ steps_of r.trace → r.trace ≡ all_sketched r.trace → AreFetchesTold ds ended.trace → HasTrueTrace P es t r → HasTrueTrace P ds t ended
  trace_to t r ended steps whole told k =
      let is : r.trace ≡ all_sketched ended.trace = whole ∙ ap items_of (sym steps) in
      record {
        true_items = all_true_to t ended.trace told (subst (AreTrueOf P es t) is k.true_items);
        in_order = subst (λ (n : ℕ). IsInOrder n ended.trace (length ds)) (sym ((same es ds h).begins t 0))
            (subst (IsInOrder (first_place t 0 es) ended.trace) (sym long) (order_to (first_place t 0 es) (length es) ended.trace (subst (λ js. IsInOrder (first_place t 0 es) js (length es)) is k.in_order)));
      }

  pub own_to : (t : ℕ) (r ended : Record) → steps_of ended.trace ≡ steps_of r.trace → HasOwnEvents es t r → HasOwnEvents ds t ended
  own_to t r ended steps k =
      (same es ds h).own t 0 ∙ k ∙ sym (own_same r.trace) ∙ ap (λ ss. own_items (items_of ss)) (sym steps) ∙ own_same ended.trace

  -- and back
  module _ (xs : List Entry) (told : AllTell P xs es) where
    true_back : (t : ℕ) (i : TraceItem) → IsTrueOf P ds t i → IsTrueOf P es t (sketched i)
    true_back t (I.Look w p) k = (omega (arith, long, k.0), sym (world_to P (take p es) (take p ds) (taken p)) ∙ k.1)
    true_back t (I.Def site p) k =
        let (e, at, is) = alike_back es ds p (Ev.Def t site) h k in
        def_back es t p site e at is
    true_back t (I.Spawn child p) k =
        let (start, at_ds) = k in
        let (e, at, is) = alike_back es ds p (Ev.Spawn t child start) h at_ds in
        spawn_back es t p child start e at is
    true_back t (I.Fetch task outcome p) k = (
      omega (arith, long, k.0),
      ended_is (done_of task (take p es)) untold (sym ((taken p).ends task) ∙ is_ended (done_of task (take p ds)) outcome k.1)
          (λ ended e. outcome_untold P (take p xs) (take p es) task ended (tell_take P p xs es told) e),
    )
    true_back t (I.WorldFull p) k = (omega (arith, long, k.0), sym (world_to P (take p es) (take p ds) (taken p)) ∙ k.1)
    true_back t (I.TaskFull p) k = (omega (arith, long, k.0), sym (taken p).tasks ∙ k.1)
    true_back t (I.Del place p) k =
        let (e, at, is) = alike_back es ds p (Ev.Del t place) h k in
        del_back es t p place e at is
    true_back t (I.Absent place p) k = (omega (arith, long, k.0), absent_to P (take p ds) (take p es) (same_back (take p es) (take p ds) (taken p)) place k.1)

    all_true_back : (t : ℕ) (is : List TraceItem) → AreTrueOf P ds t is → AreTrueOf P es t (all_sketched is)
    all_true_back t [] k = tt
    all_true_back t (i ∷ is) k = (true_back t i k.0, all_true_back t is k.1)

    pub trace_back : (t calls : ℕ) (output : List ℕ) (ended : Record) → HasTrueTrace P ds t ended → HasTrueTrace P es t (record_of calls (steps_of ended.trace) output)
    trace_back t calls output ended k = record {
      true_items = all_true_back t ended.trace k.true_items;
      in_order = subst (λ (n : ℕ). IsInOrder n (all_sketched ended.trace) (length es)) ((same es ds h).begins t 0)
          (subst (IsInOrder (first_place t 0 ds) (all_sketched ended.trace)) long (order_back (first_place t 0 ds) (length ds) ended.trace k.in_order));
    }

    pub own_back : (t calls : ℕ) (output : List ℕ) (ended : Record) → HasOwnEvents ds t ended → HasOwnEvents es t (record_of calls (steps_of ended.trace) output)
    own_back t calls output ended k = sym ((same es ds h).own t 0) ∙ k ∙ sym (own_same ended.trace)
