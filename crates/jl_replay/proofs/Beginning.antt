-- Tasks that have done nothing yet.
use Rattle.std.proofs.Common.{◌≡◌, ◌∙◌, ap, sym, subst, refl, ℕ, ◌+◌, ◌-◌, ◌≤◌, inl, inr, arith, Bool, true, false, cond, nat_eq, List, [], ◌∷◌, ◌++◌, length, slice_get, length-append, append_assoc, Option, Some, None}
use Rattle.jl_program.specs.declared.tree.Program.{Program}
use Rattle.jl_program.specs.declared.tree.Start.{Start}
use Rattle.jl_program.specs.Valid.{IsValid}
use Rattle.jl_calculus.specs.declared.history.Event.{Event}
use Rattle.jl_calculus.specs.declared.history.Event.TheVariants as Ev
use Rattle.jl_calculus.specs.declared.history.TraceItem.TheVariants as I
use Rattle.jl_calculus.specs.Legal.{EachAfter, MayCome, MayStand, fuel_of as fuel_in, start_of, first_place}
use Rattle.jl_calculus.specs.Past.{IsInOrder, own_events, own_starts, tasks_of}
use Rattle.jl_task.specs.Knows.{Knows}
use Rattle.jl_machine.specs.declared.task.Machine.{Machine}
use Rattle.jl_machine.specs.Steps.{MachineFits, IsLost, IsNewRoot, IsNewTask, fuel_of}
use Rattle.jl_machine.proofs.Whole.{root_law, task_law}
use Rattle.jl_lead.specs.Carried.{AreOthers}
use Rattle.jl_lead.specs.Known.{IsStartAmong, IsSpawnOf, IsNoSpawn}
use Rattle.jl_lead.specs.Leads.{led_knows}
use Rattle.jl_lead.proofs.EventFacts.{self_eq, own_later, starts_append, tasks_append}
use Rattle.jl_report.specs.declared.entry.Entry.{Entry}
use Rattle.jl_report.specs.HistoryText.{steps_of}
use Rattle.jl_causes.specs.Sketch.{items_of}
use Rattle.jl_replay.specs.declared.running.Running.{Running}
use Rattle.jl_replay.specs.Told.{trace_told, end_told}
use Rattle.jl_replay.specs.Moves.{HasBegun, IsNewFrom}
use Rattle.jl_replay.specs.Following.{IsOnItsWay, IsToBegin}
use Rattle.jl_replay.proofs.Carry.{IsNewOn, IsOf, not_same}
use Rattle.jl_replay.proofs.Cuts.{get_last}
use Rattle.jl_replay.proofs.Lists.{each_front, each_in, tasks_some}

-- ---- the root

-- a machine that has something to do is not lost
root_going : (P : Program) (fuel : ℕ) (m : Machine) → IsNewRoot P fuel m → IsLost m → ⊥
root_going P fuel m new lost = cc (new.work, lost)

task_going : (P : Program) (start : Start) (fuel : ℕ) (m : Machine) → IsNewTask P start fuel m → IsLost m → ⊥
task_going P start fuel m new lost = cc (new.new.work, lost)

pub root_way : (P : Program) (all : List Entry) (fuel : ℕ) (m : Machine) → IsValid P → IsNewRoot P fuel m → IsInOrder 1 (items_of (trace_told 0 all)) (end_told 0 0 all)
    → IsOnItsWay P all (Ev.Begin fuel ∷ []) 0 (record { machine = m; told = 0; seen = 1; looks = 0 })
root_way P all fuel m valid new ordered =
    record {
      fitting = record {
        fits = λ items told alone.
            let k : Knows = led_knows P (Ev.Begin fuel ∷ []) 0 items told 1 0 alone in
            subst (λ (f : ℕ). MachineFits P f k m) (sym new.fuel)
            (root_law k P fuel m valid refl refl (record { own = refl; starts = refl; looks = refl; world = omega arith; begun = omega arith }) new);
        going = root_going P fuel m new;
      };
      fuel = ap Some (sym new.fuel);
      placed = record { started = omega arith; seen_some = omega arith };
      few = omega arith;
      followed = ap steps_of new.trace;
      ordered = ordered;
    }

-- ---- a task that is not there yet

-- no event is one of a task that is not there
-- an event, and others after it
more_others : (task : ℕ) (e : Event) (es : List Event) → (IsOf task e → ⊥) → AreOthers task es → AreOthers task (e ∷ es)
more_others task (Ev.Begin fuel) es o h = record { own = λ p. h.own (p + 1); starts = h.starts; start = h.start; first = λ p. h.first (p + 1) }
more_others task (Ev.Key key) es o h = record { own = λ p. h.own (p + 1); starts = h.starts; start = h.start; first = λ p. h.first (p + 1) }
more_others task (Ev.Fill key site first) es o h = record { own = λ p. h.own (p + 1); starts = h.starts; start = h.start; first = λ p. h.first (p + 1) }
more_others task (Ev.Done by ended) es o h = record { own = λ p. h.own (p + 1); starts = h.starts; start = h.start; first = λ p. h.first (p + 1) }
more_others task (Ev.Def by site) es o h =
    let q = not_same by task o in
    record {
      own = λ p. ap (λ b. cond b (I.Def site p ∷ own_events task (p + 1) es) (own_events task (p + 1) es)) q ∙ h.own (p + 1);
      starts = h.starts;
      start = h.start;
      first = λ p. h.first (p + 1);
    }
more_others task (Ev.Del by place) es o h =
    let q = not_same by task o in
    record {
      own = λ p. ap (λ b. cond b (I.Del place p ∷ own_events task (p + 1) es) (own_events task (p + 1) es)) q ∙ h.own (p + 1);
      starts = h.starts;
      start = h.start;
      first = λ p. h.first (p + 1);
    }
more_others task (Ev.Spawn by child start) es o h =
    let q = not_same by task (λ e. o (inl e)) in
    let c = not_same child task (λ e. o (inr e)) in
    record {
      own = λ p. ap (λ b. cond b (I.Spawn child p ∷ own_events task (p + 1) es) (own_events task (p + 1) es)) q ∙ h.own (p + 1);
      starts = ap (λ b. cond b (start ∷ own_starts task es) (own_starts task es)) q ∙ h.starts;
      start = ap (λ b. cond b (Some start) (start_of task es)) c ∙ h.start;
      first = λ p. ap (λ b. cond b (p + 1) (first_place task (p + 1) es)) c ∙ h.first (p + 1);
    }

-- an event is of a task that is there before it, or starts with it
of_none : (P : Program) (past : List Event) (e : Event) (task : ℕ) → MayCome P past e → tasks_of past ≤ task → tasks_of (past ++ e ∷ []) ≤ task → IsOf task e → ⊥
of_none P past (Ev.Begin fuel) task m l k o = o
of_none P past (Ev.Key key) task m l k o = o
of_none P past (Ev.Fill key site first) task m l k o = o
of_none P past (Ev.Done by ended) task m l k o = o
of_none P past (Ev.Def by site) task m l k o = omega (arith, m.running.started, l, o)
of_none P past (Ev.Del by place) task m l k o = omega (arith, m.running.started, l, o)
of_none P past (Ev.Spawn by child start) task m l k (inl o) = omega (arith, m.running.started, l, o)
of_none P past (Ev.Spawn by child start) task m l k (inr o) = omega (arith, m.next, k, o, tasks_append past (Ev.Spawn by child start ∷ []))

-- no event is of a task that is not there
unborn : (P : Program) (past es : List Event) → EachAfter (MayCome P) past es → (task : ℕ) → tasks_of (past ++ es) ≤ task → AreOthers task es
unborn P past [] h task l = record { own = λ p. refl; starts = refl; start = refl; first = λ p. refl }
unborn P past (e ∷ es) h task l =
    let group = append_assoc past (e ∷ []) es in
    let whole : tasks_of ((past ++ e ∷ []) ++ es) ≤ task = subst (λ xs. tasks_of xs ≤ task) (sym group) l in
    more_others task e es
    (of_none P past e task h.0 (omega (arith, l, tasks_append past (e ∷ es), tasks_some (e ∷ es))) (omega (arith, whole, tasks_append (past ++ e ∷ []) es, tasks_some es)))
    (unborn P (past ++ e ∷ []) es h.1 task whole)

-- ---- a task that was spawned last

start_later : (task : ℕ) (es more : List Event) → start_of task es ≡ None → start_of task (es ++ more) ≡ start_of task more
start_later task [] more q = refl
start_later task (Ev.Begin fuel ∷ es) more q = start_later task es more q
start_later task (Ev.Key key ∷ es) more q = start_later task es more q
start_later task (Ev.Fill key site first ∷ es) more q = start_later task es more q
start_later task (Ev.Def by site ∷ es) more q = start_later task es more q
start_later task (Ev.Del by place ∷ es) more q = start_later task es more q
start_later task (Ev.Done by ended ∷ es) more q = start_later task es more q
start_later task (Ev.Spawn by child start ∷ es) more q = go (nat_eq child task) q (λ k. start_later task es more k)
  where
    go : (b : Bool) → cond b (Some start) (start_of task es) ≡ None → (start_of task es ≡ None → start_of task (es ++ more) ≡ start_of task more) → cond b (Some start) (start_of task (es ++ more)) ≡ start_of task more
    go true k f = absurd (cc k)
    go false k f = f k

first_small : (task p : ℕ) (es : List Event) → 1 ≤ p + length es → first_place task p es ≤ p + length es
first_small task p [] l = l
first_small task p (Ev.Begin fuel ∷ es) l = omega (arith, first_small task (p + 1) es (omega arith))
first_small task p (Ev.Key key ∷ es) l = omega (arith, first_small task (p + 1) es (omega arith))
first_small task p (Ev.Fill key site first ∷ es) l = omega (arith, first_small task (p + 1) es (omega arith))
first_small task p (Ev.Def by site ∷ es) l = omega (arith, first_small task (p + 1) es (omega arith))
first_small task p (Ev.Del by place ∷ es) l = omega (arith, first_small task (p + 1) es (omega arith))
first_small task p (Ev.Done by ended ∷ es) l = omega (arith, first_small task (p + 1) es (omega arith))
first_small task p (Ev.Spawn by child start ∷ es) l = go (nat_eq child task) (first_small task (p + 1) es (omega arith))
  where
    go : (b : Bool) → first_place task (p + 1) es ≤ p + 1 + length es → cond b (p + 1) (first_place task (p + 1) es) ≤ p + length (Ev.Spawn by child start ∷ es)
    go true k = omega arith
    go false k = omega (arith, k)

module _ (P : Program) (before : List Event) (by task : ℕ) (start : Start) (is : task ≡ tasks_of before) (stand : MayStand P (before ++ Ev.Spawn by task start ∷ [])) where
  abbrev es : List Event
  es = before ++ Ev.Spawn by task start ∷ []

  old : AreOthers task before
  old = unborn P [] before (each_front (MayCome P) [] before (Ev.Spawn by task start ∷ []) stand.come) task (omega (arith, is))

  not_own : nat_eq by task ≡ false
  not_own =
      let m : MayCome P before (Ev.Spawn by task start) = each_in (MayCome P) before [] (Ev.Spawn by task start) stand.come in
      not_same by task (λ e. omega (arith, m.running.started, is, e))

  spawned_start : start_of task es ≡ Some start
  spawned_start = start_later task before (Ev.Spawn by task start ∷ []) old.start ∙ ap (λ b. cond b (Some start) None) (self_eq task)

  spawned_own : own_events task 0 es ≡ []
  spawned_own =
      own_later task before (Ev.Spawn by task start ∷ []) ∙ ap (λ xs. xs ++ own_events task (length before) (Ev.Spawn by task start ∷ [])) (old.own 0)
      ∙ ap (λ b. cond b (I.Spawn task (length before) ∷ []) []) not_own

  spawned_starts : own_starts task es ≡ []
  spawned_starts =
      starts_append task before (Ev.Spawn by task start ∷ []) ∙ ap (λ xs. xs ++ own_starts task (Ev.Spawn by task start ∷ [])) old.starts
      ∙ ap (λ b. cond b (start ∷ []) []) not_own

  pub spawned_new : (fuel : ℕ) (r : Running) → IsValid P → IsStartAmong P es start → IsNewFrom P start fuel (length es) r → IsNewOn P es task fuel r
  spawned_new fuel r valid among new =
      record {
        fitting = record {
          fits = λ items told alone.
              let k : Knows = led_knows P es task items told (length es) 0 alone in
              subst (λ (s : ℕ). MachineFits P (fuel_of r.machine) (led_knows P es task items told s r.looks alone) r.machine) (sym new.seen_is)
              (subst (λ (l : ℕ). MachineFits P (fuel_of r.machine) (led_knows P es task items told (length es) l alone) r.machine) (sym new.looks)
              (subst (λ (f : ℕ). MachineFits P f k r.machine) (sym new.machine.new.fuel)
              (task_law k P start fuel r.machine valid among.valid refl spawned_start among.world
              (record { own = spawned_own; starts = spawned_starts; looks = refl; world = omega arith; begun = omega (arith, first_small task 0 es (omega (arith, length-append before (Ev.Spawn by task start ∷ [])))) }) new.machine)));
          going = task_going P start fuel r.machine new.machine;
        };
        fuel_is = new.machine.new.fuel;
        seen = new.seen_is;
        told = new.told;
        trace_is = new.machine.new.trace;
      }

-- the start of the last event
pub at_last : {X : Type 0} (xs : List X) (x : X) → slice_get (xs ++ x ∷ []) (length (xs ++ x ∷ []) - 1) ≡ Some x
at_last xs x = let e : length (xs ++ x ∷ []) - 1 ≡ length xs = omega (arith, length-append xs (x ∷ [])) in ap (slice_get (xs ++ x ∷ [])) e ∙ get_last xs x

-- ---- as the code has it

pub new_from : (P : Program) (start : Start) (fuel seen : ℕ) (m : Machine) (r : Running) → IsNewTask P start fuel m → r ≡ record { machine = m; told = 0; seen = seen; looks = 0 } → IsNewFrom P start fuel seen r
new_from P start fuel seen m r new q = subst (IsNewFrom P start fuel seen) (sym q) (record { machine = new; told = refl; seen_is = refl; looks = refl })

-- there is a start at the place of a spawn, and no other one
pub spawn_there : (o : Option Event) (start : Start) → IsSpawnOf start o → IsNoSpawn o → ⊥
spawn_there None start s n = s
spawn_there (Some (Ev.Begin fuel)) start s n = s
spawn_there (Some (Ev.Key key)) start s n = s
spawn_there (Some (Ev.Fill key site first)) start s n = s
spawn_there (Some (Ev.Def by site)) start s n = s
spawn_there (Some (Ev.Del by place)) start s n = s
spawn_there (Some (Ev.Spawn by child from)) start s n = n
spawn_there (Some (Ev.Done by ended)) start s n = s

same_start : (o : Option Event) (a b : Start) → IsSpawnOf a o → IsSpawnOf b o → a ≡ b
same_start None a b p q = absurd p
same_start (Some (Ev.Begin fuel)) a b p q = absurd p
same_start (Some (Ev.Key key)) a b p q = absurd p
same_start (Some (Ev.Fill key site first)) a b p q = absurd p
same_start (Some (Ev.Def by site)) a b p q = absurd p
same_start (Some (Ev.Del by place)) a b p q = absurd p
same_start (Some (Ev.Spawn by child from)) a b p q = sym p ∙ q
same_start (Some (Ev.Done by ended)) a b p q = absurd p

some_same : {X : Type 0} (o : Option X) (x y : X) → o ≡ Some x → o ≡ Some y → x ≡ y
some_same o x y p q = (let z : Some x ≡ Some y = sym p ∙ q in cc)

-- a task that begins now is on its way
pub begun_way : (P : Program) (all : List Entry) (es : List Event) (task seen : ℕ) → IsToBegin P all es task seen → (fuel : ℕ) → fuel_in es ≡ Some fuel → (r : Running) → HasBegun P es seen fuel r → IsOnItsWay P all es task r
begun_way P all es task seen h fuel q r b =
    let same : b.start ≡ h.start = same_start (slice_get es (seen - 1)) b.start h.start b.spawned h.spawned in
    let fuels : fuel ≡ h.fuel = some_same (fuel_in es) fuel h.fuel q h.fuel_is in
    h.way r (subst (λ f. IsNewFrom P h.start f seen r) fuels (subst (λ s. IsNewFrom P s fuel seen r) same b.new))
