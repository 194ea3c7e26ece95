-- A task on its way, by the first round: what the entries tell that it does next.
use Rattle.std.proofs.Common.{◌≡◌, ◌∙◌, ap, sym, subst, refl, ℕ, zero, suc, ◌+◌, ◌<◌, ◌≤◌, arith, Bool, true, false, cond, nat_eq, List, [], ◌∷◌, ◌++◌, append_assoc, append-nil, length, take, drop, take-append-drop, take-take, length-take-le, slice_get, Some}
use Rattle.std.specs.Option.{is_some}
use Rattle.std.proofs.lemmas.Option.{same_Some, slice_get_within}
use Rattle.jl_program.specs.declared.tree.Program.{Program}
use Rattle.jl_program.specs.declared.tree.Start.{Start}
use Rattle.jl_model.specs.declared.limits.TheConstants.{MOST_WORLDS}
use Rattle.jl_calculus.specs.World.{world_of}
use Rattle.jl_world.proofs.Bounds.{few_worlds}
use Rattle.jl_calculus.specs.declared.history.Event.{Event}
use Rattle.jl_calculus.specs.declared.history.Event.TheVariants as Ev
use Rattle.jl_calculus.specs.declared.history.Record.{Record}
use Rattle.jl_calculus.specs.declared.history.TraceItem.{TraceItem}
use Rattle.jl_calculus.specs.declared.history.TraceItem.TheVariants as I
use Rattle.jl_calculus.specs.Legal.{AreTrueOf, IsRunning, MayCome, first_place, HasTrueTrace}
use Rattle.jl_calculus.specs.Past.{tasks_of, IsInOrder, place, past, own_items, own_events}
use Rattle.jl_machine.specs.Steps.{fuel_of as fuel_in, trace_of, IsAt}
use Rattle.jl_task.specs.Fits.{AllLearnt}
use Rattle.jl_lead.specs.Leads.{led_knows}
use Rattle.jl_lead.specs.Stretch.{IsStretch}
use Rattle.jl_lead.proofs.EventFacts.{goes_self, tasks_append, own_later, self_eq}
use Rattle.jl_lead.proofs.Leading.{machine_at}
use Rattle.jl_report.specs.declared.entry.Step.{Step}
use Rattle.jl_report.specs.declared.entry.Step.TheVariants as S
use Rattle.jl_report.specs.declared.entry.Ending.{Ending}
use Rattle.jl_report.specs.declared.entry.Entry.{Entry}
use Rattle.jl_report.specs.declared.entry.Entry.TheVariants as E
use Rattle.jl_causes.specs.declared.cause.Cause.TheVariants as C
use Rattle.jl_causes.specs.Sketch.{start_at, item_of, items_of, record_of, Tells}
use Rattle.jl_causes.specs.Causes.{is_end_of, StartWell, AreClean}
use Rattle.jl_causes.proofs.SketchLemmas.{tell_length, tell_take, event_at}
use Rattle.jl_causes.proofs.AlikeLemmas.{AreAlike, same}
use Rattle.jl_causes.proofs.TraceLemmas.{own_same}
use Rattle.jl_causes.proofs.StandLemmas.{comes_at, finished}
use Rattle.jl_replay.specs.declared.running.Running.{Running}
use Rattle.jl_replay.specs.Told.{trace_told, end_told, steps_before, stretch, items_told, is_own}
use Rattle.jl_replay.specs.Moves.{IsFitting, MayGoOn}
use Rattle.jl_replay.specs.Following.{IsOnItsWay, AreReplayed, AreJudged}
use Rattle.jl_replay.proofs.FirstRound.{Front, front, stands}
use Rattle.jl_replay.proofs.Items.{items_true}
use Rattle.jl_replay.proofs.Lists.{tasks_some}
use Rattle.jl_replay.proofs.Next.{IsNextStep, IsLastStep}
use Rattle.jl_replay.proofs.Stretches.{step_item, own_parts, next_own, none_own, order_front, order_rest, steps_cut, true_drop, true_stretch, stretch_true}
use Rattle.jl_replay.proofs.FirstEnd.{ends_same, IsFirstEnd, first_end, end_past, not_end, get_first, got_first, cut_between, tasks_first, ends_after}

-- ---- the items of a machine's trace

module _ (P : Program) (es : List Event) (task : ℕ) where
  true_learnt : (seen looks : ℕ) (is : List TraceItem) → AllLearnt (led_knows P es task [] 0 seen looks false) is → AreTrueOf P es task is
  true_learnt seen looks [] h = tt
  true_learnt seen looks (i ∷ is) h = (h.0 es (goes_self es), true_learnt seen looks is h.1)

  module _ (r : Running) (h : IsFitting P es task r) where
    standing : IsAt P (fuel_in r.machine) (led_knows P es task [] 0 r.seen r.looks false) r.machine.work r.machine.task
    standing = machine_at P (fuel_in r.machine) (led_knows P es task [] 0 r.seen r.looks false) r.machine h.going (h.fits [] 0 false)

    pub machine_true : AreTrueOf P es task (trace_of r.machine)
    machine_true = true_learnt r.seen r.looks (trace_of r.machine) standing.fits.learnt

    pub machine_own : own_items (trace_of r.machine) ≡ own_events task 0 es
    machine_own = standing.fits.own

-- ---- where a task ends that runs at the next entry

module _ (P : Program) (all : List Entry) (well : StartWell all) (ds : List Event) (c : AreClean P all all ds) where
  ends_so : (task n : ℕ) → IsRunning (take n ds) task → IsFirstEnd task all
  ends_so task n h =
      let few : task < tasks_of ds = omega (arith, h.started, tasks_first n ds) in
      first_end task all (ends_same P all ds task c.told ∙ finished P all well ds c task few)

  ends_past : (task n : ℕ) → IsRunning (take n ds) task → (e : IsFirstEnd task all) → n ≤ e.at
  ends_past task n h e =
      end_past task n e.at e.calls (trace_told task all) e.output e.ending all
      (ends_same P (take n all) (take n ds) task (tell_take P n all ds c.told) ∙ ap is_some h.going) e.there

  true_trace : (task : ℕ) (e : IsFirstEnd task all) → HasTrueTrace P (take e.at ds) task (record_of e.calls (trace_told task all) e.output)
  true_trace task e = c.clean e.at (E.Done task e.calls (trace_told task all) e.output e.ending) e.there C.ItemFalse

  own_told : (task : ℕ) (e : IsFirstEnd task all) → own_items (items_of (trace_told task all)) ≡ own_events task 0 (take e.at ds)
  own_told task e = sym (c.clean e.at (E.Done task e.calls (trace_told task all) e.output e.ending) e.there C.EventMissing)

  -- the own steps of the whole trace: those so far, and those from here on
  own_here : (es : List Event) → AreAlike (take (length es) ds) es → (task : ℕ) (e : IsFirstEnd task all) → length es ≤ e.at
      → own_items (items_of (trace_told task all)) ≡ own_events task 0 es ++ own_events task (length es) (drop (length es) (take e.at ds))
  own_here es alike task e l =
      let n : ℕ = length es in
      let cut : List Event = take e.at ds in
      let s = same (take n ds) es alike in
      let q : take n cut ≡ take n ds = take-take n e.at ds l in
      let m : length (take n cut) ≡ n = ap length q ∙ sym s.many in
      let own : own_events task 0 (take n cut) ≡ own_events task 0 es = ap (own_events task 0) q ∙ sym (s.own task 0) in
      own_told task e ∙ ap (own_events task 0) (sym (take-append-drop n cut)) ∙ own_later task (take n cut) (drop n cut) ∙ (λ i. own i ++ own_events task (m i) (drop n cut))

-- ---- where a trace begins

-- no event of these starts the task
abbrev NoSpawn : ℕ → List Event → Type 0
NoSpawn t es = (m by : ℕ) (start : Start) → slice_get es m ≡ Some (Ev.Spawn by t start) → ⊥

first_skip : (t p : ℕ) (e : Event) (es : List Event) → ((by : ℕ) (start : Start) → e ≡ Ev.Spawn by t start → ⊥) → first_place t p (e ∷ es) ≡ first_place t (p + 1) es
first_skip t p (Ev.Begin fuel) es h = refl
first_skip t p (Ev.Key key) es h = refl
first_skip t p (Ev.Fill key site first) es h = refl
first_skip t p (Ev.Def by site) es h = refl
first_skip t p (Ev.Del by place) es h = refl
first_skip t p (Ev.Done by ended) es h = refl
first_skip t p (Ev.Spawn by child start) es h = go (nat_eq child t) refl
  where
    go : (b : Bool) → nat_eq child t ≡ b → first_place t p (Ev.Spawn by child start ∷ es) ≡ first_place t (p + 1) es
    go true q = let is : child ≡ t = grind (arith, q) in absurd (h by start (ap (λ k. Ev.Spawn by k start) is))
    go false q = ap (λ b. cond b (p + 1) (first_place t (p + 1) es)) q

first_none : (t p : ℕ) (es : List Event) → NoSpawn t es → first_place t p es ≡ 1
first_none t p [] h = refl
first_none t p (e ∷ es) h = first_skip t p e es (λ by start q. h 0 by start (ap (λ x. Some x) q)) ∙ first_none t (p + 1) es (λ m by start g. h (suc m) by start g)

first_spawned : (t p n by : ℕ) (start : Start) (es : List Event) → slice_get es n ≡ Some (Ev.Spawn by t start) → NoSpawn t (take n es) → first_place t p es ≡ p + n + 1
first_spawned t p n by start [] g h = absurd (omega (arith, slice_get_within [] n (Ev.Spawn by t start) g))
first_spawned t p zero by start (e ∷ es) g h =
    let is : e ≡ Ev.Spawn by t start = same_Some _ _ g in
    let q : p + 1 ≡ p + 0 + 1 = omega arith in
    ap (λ x. first_place t p (x ∷ es)) is ∙ ap (λ b. cond b (p + 1) (first_place t (p + 1) es)) (self_eq t) ∙ q
first_spawned t p (suc n) by start (e ∷ es) g h =
    let q : p + 1 + n + 1 ≡ p + suc n + 1 = omega arith in
    first_skip t p e es (λ by start q. h 0 by start (ap (λ x. Some x) q)) ∙ first_spawned t (p + 1) n by start es g (λ m by start g. h (suc m) by start g) ∙ q

-- a spawn among the first events leaves more tasks than there were before it
tasks_more : (m n by child : ℕ) (start : Start) (es : List Event) → m < n → slice_get es m ≡ Some (Ev.Spawn by child start) → tasks_of (take m es) < tasks_of (take n es)
tasks_more m n by child start es l g =
    let (rest, cut) = cut_between m n es (Ev.Spawn by child start) l g in
    let front : take m (take n es) ≡ take m es = take-take m n es (omega (arith, l)) in
    let whole : tasks_of (take m es ++ Ev.Spawn by child start ∷ rest) ≡ tasks_of (take n es) =
    (λ i. tasks_of (sym front i ++ sym cut i)) ∙ ap tasks_of (take-append-drop m (take n es))
    in
    omega (arith, whole, tasks_append (take m es) (Ev.Spawn by child start ∷ rest), tasks_some rest)

module _ (P : Program) (all : List Entry) (well : StartWell all) (ds : List Event) (c : AreClean P all all ds) where
  spawn_comes : (m by child : ℕ) (start : Start) → slice_get ds m ≡ Some (Ev.Spawn by child start) → child ≡ tasks_of (take m ds)
  spawn_comes m by child start at =
      let h : MayCome P (take m ds) (Ev.Spawn by child start) = comes_at P all well all ds [] (append-nil all) c m (Ev.Spawn by child start) at in
      h.next

  -- no event starts the root
  root_unspawned : (n : ℕ) → NoSpawn 0 (take n ds)
  root_unspawned n m by start g =
      let at = got_first n m ds (Ev.Spawn by 0 start) g in
      absurd (omega (arith, spawn_comes m by 0 start at.1, tasks_some (take m ds)))

  -- and none before its spawn a child
  child_unspawned : (n : ℕ) → NoSpawn (tasks_of (take n ds)) (take n ds)
  child_unspawned n m by start g =
      let t : ℕ = tasks_of (take n ds) in
      let at = got_first n m ds (Ev.Spawn by t start) g in
      absurd (omega (arith, spawn_comes m by t start at.1, tasks_more m n by t start ds at.0 at.1))

  ordered_from : (task low : ℕ) (e : IsFirstEnd task all) → first_place task 0 (take e.at ds) ≡ low → IsInOrder low (items_of (trace_told task all)) (end_told task 0 all)
  ordered_from task low e is =
      let T : List Step = trace_told task all in
      let few : e.at < length ds = omega (arith, slice_get_within all e.at (E.Done task e.calls T e.output e.ending) e.there, tell_length P all ds c.told) in
      let high : length (take e.at ds) ≡ end_told task 0 all = omega (arith, length-take-le e.at ds (omega (arith, few)), e.counted 0) in
      subst (λ k. IsInOrder low (items_of T) k) high (subst (λ k. IsInOrder k (items_of T) (length (take e.at ds))) is (true_trace P all well ds c task e).in_order)

-- ---- the next step

cancel : (xs ys zs : List TraceItem) → xs ++ ys ≡ xs ++ zs → ys ≡ zs
cancel [] ys zs e = e
cancel (x ∷ xs) ys zs e = cancel xs ys zs (ap (drop 1) e)

module _ (P : Program) (all : List Entry) (es : List Event) (task : ℕ) (r : Running) (way : IsOnItsWay P all es task r) where
  front_own : own_items (items_of (take r.told (trace_told task all))) ≡ own_events task 0 es
  front_own = ap (λ ss. own_items (items_of ss)) (sym way.followed) ∙ own_same (trace_of r.machine) ∙ machine_own P es task r way.fitting

  rest_own : (is : List TraceItem) → own_items (items_of (trace_told task all)) ≡ own_events task 0 es ++ is → own_items (items_of (drop r.told (trace_told task all))) ≡ is
  rest_own is h =
      let T : List Step = trace_told task all in
      cancel (own_events task 0 es) (own_items (items_of (drop r.told T))) is
      (ap (λ xs. xs ++ own_items (items_of (drop r.told T))) (sym front_own)
      ∙ sym (own_parts (take r.told T) (drop r.told T))
      ∙ ap (λ ss. own_items (items_of ss)) (take-append-drop r.told T)
      ∙ h)

  pub goes_on : IsStretch P es r.seen (items_told es (stretch (drop r.told (trace_told task all)))) → MayGoOn P es task (trace_told task all) r
  goes_on h = record {
    fitting = way.fitting;
    placed = way.placed;
    followed = items_true P es task (trace_of r.machine) (machine_true P es task r way.fitting) ∙ ap (items_told es) way.followed;
    stretch_is = h;
  }

  module _ (room : world_of es ≤ MOST_WORLDS) (ds : List Event) (alike : AreAlike (take (length es) ds) es) (n : ℕ) (far : length es ≤ n) (ended : Record) (trace_is : ended.trace ≡ items_of (trace_told task all)) (h : HasTrueTrace P (take n ds) task ended) where
    true_rest : AreTrueOf P (take n ds) task (items_of (stretch (drop r.told (trace_told task all))))
    true_rest =
        let T : List Step = trace_told task all in
        true_stretch P (take n ds) task (drop r.told T) (true_drop P (take n ds) task r.told T (subst (AreTrueOf P (take n ds) task) trace_is h.true_items))

    next_step : (s : Step) (is : List TraceItem) → is_own s ≡ true → place (item_of s) ≡ length es → past (item_of s) ≡ length es + 1
        → own_items (items_of (trace_told task all)) ≡ own_events task 0 es ++ item_of s ∷ is → IsNextStep P all es task r s
    next_step s is own at after own_is =
        let T : List Step = trace_told task all in
        let ss : List Step = drop r.told T in
        let high : ℕ = end_told task 0 all in
        let low : ℕ = first_place task 0 (take n ds) in
        let (more, found) = next_own ss (item_of s) is (rest_own (item_of s ∷ is) own_is) in
        let split : ss ≡ stretch ss ++ s ∷ more = found ∙ ap (λ z. stretch ss ++ z ∷ more) (step_item s) in
        let whole : T ≡ (take r.told T ++ stretch ss) ++ s ∷ more =
        sym (take-append-drop r.told T) ∙ ap (λ zs. take r.told T ++ zs) split ∙ sym (append_assoc (take r.told T) (stretch ss) (s ∷ more))
        in
        let rest_order : IsInOrder r.seen (items_of (stretch ss ++ s ∷ more)) high = subst (λ zs. IsInOrder r.seen (items_of zs) high) split way.ordered in
        let all_order : IsInOrder low (items_of ((take r.told T ++ stretch ss) ++ s ∷ more)) (length (take n ds)) =
        subst (λ zs. IsInOrder low (items_of zs) (length (take n ds))) whole (subst (λ is. IsInOrder low is (length (take n ds))) trace_is h.in_order)
        in
        record {
          going = goes_on
              (stretch_true P es ds room alike n far task r.seen ss (subst (IsInOrder r.seen (items_of (stretch ss))) at (order_front r.seen high (stretch ss) s more rest_order)) true_rest);
          more = more;
          rest = split;
          before = ap (steps_before (length es)) whole
              ∙ steps_cut (length es) low (take r.told T ++ stretch ss) s more own at
              (subst (IsInOrder low (items_of (take r.told T ++ stretch ss))) at (order_front low (length (take n ds)) (take r.told T ++ stretch ss) s more all_order));
          after = subst (λ k. IsInOrder k (items_of more) high) after (order_rest r.seen high (stretch ss) s more rest_order);
        }

    last_step : own_items (items_of (trace_told task all)) ≡ own_events task 0 es → end_told task 0 all ≡ length es → (trace : List Step) → trace_told task all ≡ trace → IsLastStep P all es task r trace
    last_step own_is end trace told =
        let T : List Step = trace_told task all in
        let ss : List Step = drop r.told T in
        let none : stretch ss ≡ ss = none_own ss (rest_own [] (own_is ∙ sym (append-nil (own_events task 0 es)))) in
        let order : IsInOrder r.seen (items_of (stretch ss)) (length es) =
        subst (λ k. IsInOrder r.seen (items_of (stretch ss)) k) end (subst (λ zs. IsInOrder r.seen (items_of zs) (end_told task 0 all)) (sym none) way.ordered)
        in
        record {
          going = goes_on (stretch_true P es ds room alike n far task r.seen ss order true_rest);
          told = told;
          whole = sym (take-append-drop r.told T) ∙ ap (λ zs. take r.told T ++ zs) (sym none);
        }

-- ---- what the next entry tells

module _ (P : Program) (all : List Entry) (j : AreJudged P all) where
  -- the entries so far make no more worlds than a run may have
  few_here : (es : List Event) → AreReplayed P all es → world_of es ≤ MOST_WORLDS
  few_here [] h = omega arith
  few_here (e ∷ es) h = few_worlds P (e ∷ es) (stands P all j (e ∷ es) h (omega arith)).0

  -- a definition, a deletion or a spawn that the next entry tells is the next own step
  step_next : (es : List Event) (h : AreReplayed P all es) (f : Front P all es) (task : ℕ) (x : Entry) → slice_get all (length es) ≡ Some x → is_end_of task x ≡ false → IsRunning (take (length es) f.ds) task
      → (s : Step) → is_own s ≡ true → place (item_of s) ≡ length es → past (item_of s) ≡ length es + 1
      → ((d : Event) (rest : List Event) → Tells P x d → own_events task (length es) (d ∷ rest) ≡ item_of s ∷ own_events task (length es + 1) rest)
      → (r : Running) → IsOnItsWay P all es task r → IsNextStep P all es task r s
  step_next es h f task x at other running s own here after made r way =
      let n : ℕ = length es in
      let e = ends_so P all j.well f.ds f.clean task n running in
      let low = ends_past P all j.well f.ds f.clean task n running e in
      let apart : e.at ≡ n → ⊥ =
      λ q. not_end task n e.calls (trace_told task all) e.output e.ending x all other at (subst (λ k. slice_get all k ≡ Some (E.Done task e.calls (trace_told task all) e.output e.ending)) q e.there)
      in
      let (d, there, tells) = event_at P all f.ds n x f.clean.told at in
      let (rest, cut) = cut_between n e.at f.ds d (omega (arith, low, apart)) there in
      let first : own_events task n (drop n (take e.at f.ds)) ≡ item_of s ∷ own_events task (n + 1) rest = ap (own_events task n) cut ∙ made d rest tells in
      next_step P all es task r way (few_here es h) f.ds f.alike e.at low (record_of e.calls (trace_told task all) e.output) refl (true_trace P all j.well f.ds f.clean task e) s (own_events task (n + 1) rest) own here after
      (own_here P all j.well f.ds f.clean es f.alike task e low ∙ ap (λ is. own_events task 0 es ++ is) first)

  pub definition_next : (es : List Event) → AreReplayed P all es → (task site : ℕ) → slice_get all (length es) ≡ Some (E.Def task site) → (r : Running) → IsOnItsWay P all es task r → IsNextStep P all es task r (S.Def site (length es))
  definition_next es h task site at r way =
      let f = front P all j es h in
      let n : ℕ = length es in
      step_next es h f task (E.Def task site) at refl (f.clean.clean n (E.Def task site) at C.NotRunning) (S.Def site n) refl refl refl
      (λ d rest tells. ap (λ x. own_events task n (x ∷ rest)) tells ∙ ap (λ b. cond b (I.Def site n ∷ own_events task (n + 1) rest) (own_events task (n + 1) rest)) (self_eq task)) r way

  pub deletion_next : (es : List Event) → AreReplayed P all es → (task place : ℕ) → slice_get all (length es) ≡ Some (E.Del task place) → (r : Running) → IsOnItsWay P all es task r → IsNextStep P all es task r (S.Del place (length es))
  deletion_next es h task place at r way =
      let f = front P all j es h in
      let n : ℕ = length es in
      step_next es h f task (E.Del task place) at refl (f.clean.clean n (E.Del task place) at C.NotRunning) (S.Del place n) refl refl refl
      (λ d rest tells. ap (λ x. own_events task n (x ∷ rest)) tells ∙ ap (λ b. cond b (I.Del place n ∷ own_events task (n + 1) rest) (own_events task (n + 1) rest)) (self_eq task)) r way

  pub spawn_next : (es : List Event) → AreReplayed P all es → (task child at_place : ℕ) → slice_get all (length es) ≡ Some (E.Spawn task child at_place) → (r : Running) → IsOnItsWay P all es task r
      → IsNextStep P all es task r (S.Spawn child (length es))
  spawn_next es h task child at_place at r way =
      let f = front P all j es h in
      let n : ℕ = length es in
      step_next es h f task (E.Spawn task child at_place) at refl (f.clean.clean n (E.Spawn task child at_place) at C.NotRunning) (S.Spawn child n) refl refl refl
      (λ d rest tells. ap (λ x. own_events task n (x ∷ rest)) tells ∙ ap (λ b. cond b (I.Spawn child n ∷ own_events task (n + 1) rest) (own_events task (n + 1) rest)) (self_eq task)) r way

  pub end_next : (es : List Event) → AreReplayed P all es → (task calls : ℕ) (trace : List Step) (output : List ℕ) (ending : Ending) → slice_get all (length es) ≡ Some (E.Done task calls trace output ending) → (r : Running)
      → IsOnItsWay P all es task r → IsLastStep P all es task r trace
  end_next es h task calls trace output ending at r way =
      let f = front P all j es h in
      let n : ℕ = length es in
      let running : IsRunning (take n f.ds) task = f.clean.clean n (E.Done task calls trace output ending) at C.NotRunning in
      let e = ends_so P all j.well f.ds f.clean task n running in
      let low = ends_past P all j.well f.ds f.clean task n running e in
      let here : e.at ≡ n = omega (arith, low, end_past task e.at n calls trace output ending all e.before at) in
      let there : slice_get all n ≡ Some (E.Done task e.calls (trace_told task all) e.output e.ending) = subst (λ k. slice_get all k ≡ Some (E.Done task e.calls (trace_told task all) e.output e.ending)) here e.there in
      let told : trace_told task all ≡ trace = cc (at, there) in
      let s = same (take n f.ds) es f.alike in
      let end : end_told task 0 all ≡ n = omega (arith, e.counted 0, here) in
      last_step P all es task r way (few_here es h) f.ds f.alike e.at low (record_of e.calls (trace_told task all) e.output) refl (true_trace P all j.well f.ds f.clean task e)
      (own_told P all j.well f.ds f.clean task e ∙ ap (λ k. own_events task 0 (take k f.ds)) here ∙ sym (s.own task 0)) end trace told

  pub root_ordered : IsInOrder 1 (items_of (trace_told 0 all)) (end_told 0 0 all)
  root_ordered =
      let ds : List Event = j.clean.0 in
      let c : AreClean P all all ds = j.clean.1 in
      let e = first_end 0 all (ends_same P all ds 0 c.told ∙ finished P all j.well ds c 0 (tasks_some ds)) in
      ordered_from P all j.well ds c 0 1 e (first_none 0 0 (take e.at ds) (root_unspawned P all j.well ds c e.at))

  pub child_ordered : (es : List Event) → AreReplayed P all es → (task child at_place : ℕ) → slice_get all (length es) ≡ Some (E.Spawn task child at_place)
      → IsInOrder (length es + 1) (items_of (trace_told child all)) (end_told child 0 all)
  child_ordered es h task child at_place at =
      let ds : List Event = j.clean.0 in
      let c : AreClean P all all ds = j.clean.1 in
      let n : ℕ = length es in
      let next : child ≡ tasks_of (take n ds) = c.clean n (E.Spawn task child at_place) at C.ChildOrder in
      let e = first_end child all (c.clean n (E.Spawn task child at_place) at C.Unfinished) in
      let running : IsRunning (take e.at ds) child = c.clean e.at (E.Done child e.calls (trace_told child all) e.output e.ending) e.there C.NotRunning in
      let (d, there, tells) = event_at P all ds n (E.Spawn task child at_place) c.told at in
      let made : slice_get ds n ≡ Some (Ev.Spawn task child (start_at at_place)) = there ∙ ap (λ x. Some x) tells in
      let later : n < e.at = ends_after ds n e.at (omega (arith, next, running.started)) in
      let none : NoSpawn child (take n (take e.at ds)) =
      subst (λ k. NoSpawn k (take n (take e.at ds))) (sym next) (subst (NoSpawn (tasks_of (take n ds))) (sym (take-take n e.at ds (omega (arith, later)))) (child_unspawned P all j.well ds c n))
      in
      let low : 0 + n + 1 ≡ n + 1 = omega arith in
      ordered_from P all j.well ds c child (n + 1) e (first_spawned child 0 n task (start_at at_place) (take e.at ds) (get_first e.at n ds later ∙ made) none ∙ low)
