-- Each enabled step keeps what holds of a state, so it holds of each state that is reached.
use Rattle.std.proofs.Common.{◌≡◌, ◌∙◌, ap, sym, subst, refl, ℕ, zero, suc, ◌<◌, ◌≤◌, ◌⊎◌, inl, inr, arith, max, Bool, true, false, cond, List, [], ◌∷◌, ◌++◌, length, take, drop, take-append-drop, slice_get, Option, None, Some}
use Rattle.std.specs.List.{Contains}
use Rattle.std.proofs.lemmas.List.Elements.{Contains-append_cases}
use Rattle.jl_model.specs.declared.ty.Key.{Key}
use Rattle.jl_program.specs.declared.tree.Program.{Program}
use Rattle.jl_program.specs.Valid.{IsValid}
use Rattle.jl_calculus.specs.declared.history.Change.{Change}
use Rattle.jl_calculus.specs.declared.history.Change.TheVariants as Ch
use Rattle.jl_calculus.specs.declared.history.Event.{Event}
use Rattle.jl_calculus.specs.declared.history.Event.TheVariants as Ev
use Rattle.jl_calculus.specs.declared.history.Record.{Record}
use Rattle.jl_calculus.specs.declared.step.Step.{Step}
use Rattle.jl_calculus.specs.declared.step.Step.TheVariants as St
use Rattle.jl_calculus.specs.Core.{in_outcome, in_start, at_row, found, Search, TaskState, Opened, Core, first_core, cut_for, HasSeen, Knows, CanName, CanSearch, CanFill, CanOpen, CanCut, CanEnd, CanFetch, IsEnabled, change_task, with_seen, with_search, with_known, with_event, with_opened, with_cut, after_row, is_reached, go_to, new_search, HasRead, HasFilled, Leaves, Reaches, stays, goes}
use Rattle.jl_calculus.specs.Kept.{Places}
use Rattle.jl_calculus.specs.Legal.{IsChange}
use Rattle.jl_calculus.specs.Past.{tasks_of, done_of}
use Rattle.jl_calculus.specs.Ranges.{CacheRow, keys_of, rows_of, Covers, HasNoEnd}
use Rattle.jl_calculus.specs.Words.{after_last, is_worldly, is_fill_of, world_length, fill_length, one_past, link_of, IsToCut, IsRowWords}
use Rattle.jl_calculus.specs.World.{change_event}
use Rattle.jl_calculus.proofs.GrowthLemmas.{first_at_most}
use Rattle.jl_core.specs.Reached.{IsReached}
use Rattle.jl_core.proofs.BeforeLemmas.{before_trans}
use Rattle.jl_core.proofs.EventLemmas.{tasks_append}
use Rattle.jl_core.proofs.SearchLemmas.{goes_well, begins_well, hit}
use Rattle.jl_core.proofs.Sound.{IsBefore, StandsWell, IsSoundSearch, MaySearch, IsSoundTask, IsSoundOpen, MayBeOpen, IsSound}
use Rattle.jl_core.proofs.GrowLemmas.{named_on, task_changed, event_added, child_added}

-- ---- lists

past_all : {X : Type 0} (test : X → Bool) (xs : List X) → after_last test xs ≤ length xs
past_all test [] = omega arith
past_all test (x ∷ xs) = by (after_last test xs) (test x) (past_all test xs)
  where
    by : (n : ℕ) (b : Bool) → n ≤ length xs → one_past n b ≤ suc (length xs)
    by zero false l = omega arith
    by zero true l = omega arith
    by (suc n) b l = omega (arith, l)

there : {X : Type 0} (xs : List X) (k : ℕ) → k < length xs → (x : X) × (slice_get xs k ≡ Some x)
there [] k l = absurd (omega (arith, l))
there (x ∷ xs) zero l = (x, refl)
there (x ∷ xs) (suc k) l = there xs k (omega (arith, l))

same_task : (o : Option TaskState) (a b : TaskState) → o ≡ Some a → o ≡ Some b → a ≡ b
same_task o a b h k = cc

same_opened : (o : Option Opened) (a b : Opened) → o ≡ Some a → o ≡ Some b → a ≡ b
same_opened o a b h k = cc

same_key : (o : Option Key) (a b : Key) → o ≡ Some a → o ≡ Some b → a ≡ b
same_key o a b h k = cc

same_row : (o : Option CacheRow) (a b : CacheRow) → o ≡ Some a → o ≡ Some b → a ≡ b
same_row o a b h k = cc

nothing : (r : ℕ) → Contains {X = ℕ} [] r → ⊥
nothing r (k, l, e) = absurd (omega (arith, l))

-- ---- the steps

module _ (P : Program) (valid : IsValid P) (room : Places) (s : Core) (h : IsSound P s) where
  abbrev es : List Event
  es = s.events

  -- a task that has seen more
  seen_more : (task n : ℕ) → n ≤ length es → (t : TaskState) → IsSoundTask P es task t → IsSoundTask P es task (with_seen n t)
  seen_more task n l t q = record { seen = by t.seen q.seen; search = q.search; known = q.known }
    where
      by : (m : ℕ) → m ≤ length es → max m n ≤ length es
      by m k = omega (arith, k, l)

  looks : (task : ℕ) → IsSound P (change_task s task (with_seen (world_length es)))
  looks task = task_changed P s h task (with_seen (world_length es)) (λ t e q. seen_more task (world_length es) (past_all is_worldly es) t q)

  -- a key that a task has seen
  key_seen : (n number : ℕ) → number < length (keys_of (take n es)) → (key : Key) × (slice_get (keys_of es) number ≡ Some key)
  key_seen n number l =
      let (key, e) = there (keys_of (take n es)) number l in
      (key, subst (λ xs. slice_get (keys_of xs) number ≡ Some key) (take-append-drop n es) (named_on P (take n es) (drop n es) number key e))

  search_new : (task number w : ℕ) → HasSeen P room s task number w → IsSoundSearch P es (new_search s number w)
  search_new task number w k =
      let (key, e) = key_seen k.state.seen number k.key in
      record { key = key; named = e; low = k.low; high = omega (arith, k.high, first_at_most es k.state.seen); at = begins_well P es number key w (link_of number (rows_of es)) refl }

  searches : (task number w : ℕ) → CanSearch P room s task number w
      → IsSound P (change_task s task (λ t. with_search (new_search s number w) (with_seen (fill_length number es) t)))
  searches task number w k =
      task_changed P s h task (λ t. with_search (new_search s number w) (with_seen (fill_length number es) t))
      (λ t e q.
      (let more = seen_more task (fill_length number es) (past_all (is_fill_of number) es) t q in
      record { seen = more.seen; search = search_new task number w k.seen; known = more.known }))

  -- a row that was cut has no end
  cut_open : (o : Option Opened) → MayBeOpen P es o → (r : ℕ) (row : CacheRow) (key : Key) → Contains (cut_for o) r → slice_get (rows_of es) r ≡ Some row → slice_get (keys_of es) row.key ≡ Some key
      → HasNoEnd P es key row.first
  cut_open None k r row key c at named = absurd (nothing r c)
  cut_open (Some o) k r row key c at named =
      let ends = k.cut r c in
      let one : ends.row ≡ row = same_row (slice_get (rows_of es) r) ends.row row ends.stands at in
      let two : ends.key ≡ key = same_key (slice_get (keys_of es) row.key) ends.key key (subst (λ (x : CacheRow). slice_get (keys_of es) x.key ≡ Some ends.key) one ends.named) named in
      subst (λ (x : CacheRow). HasNoEnd P es key x.first) one (subst (λ (x : Key). HasNoEnd P es x ends.row.first) two ends.no_end)

  -- a search that was sound and has read its row
  read_on : (search : Search) (r site first last next : ℕ) → search.stand ≡ at_row r → IsRowWords P es (cut_for s.opened) r site first last next → IsSoundSearch P es search
      → IsSoundSearch P es (after_row search site first last next)
  read_on search r site first last next stood words k = record {
    key = k.key;
    named = k.named;
    low = k.low;
    high = k.high;
    at = by (is_reached first last search.world) refl;
  }
    where
      stands : StandsWell P es search.key k.key search.world (at_row r)
      stands = subst (StandsWell P es search.key k.key search.world) stood k.at

      by : (b : Bool) → is_reached first last search.world ≡ b → StandsWell P es search.key k.key search.world (cond b (found site) (go_to next))
      by true e = hit P es valid h.events.proper h.events.rows (cut_for s.opened) (cut_open s.opened h.opened) search.key k.key search.world r site first last next k.named stands words e
      by false e =
          let (row, at, of) = stands in
          let one : row ≡ words.row = same_row (slice_get (rows_of es) r) row words.row at words.stands in
          let numbers : words.row.key ≡ search.key = sym (ap (λ (x : CacheRow). x.key) one) ∙ of in
          goes_well P es search.key k.key search.world r next (ap (λ n. link_of n (take r (rows_of es))) (sym numbers) ∙ sym words.next_word)

  reads : (task : ℕ) (u : Core) → HasRead P s u task → IsSound P u
  reads task u k =
      subst (IsSound P) (sym k.is)
      (task_changed P s h task (with_search (after_row k.search k.site k.first k.last k.next))
      (λ t e q.
      (let one : t ≡ k.t = same_task (slice_get s.tasks task) t k.t e k.at in
      let was : IsSoundSearch P es k.search = subst (MaySearch P es) (ap (λ (x : TaskState). x.search) one ∙ k.searched) q.search in
      record { seen = q.seen; search = read_on k.search k.r k.site k.first k.last k.next k.stood k.words was; known = q.known })))

  -- ---- events

  alone : (e : Event) → tasks_of (e ∷ []) ≡ 1 → tasks_of (es ++ e ∷ []) ≡ tasks_of es
  alone e n = omega (arith, tasks_append es (e ∷ []), n)

  names : room.keys ≤ 8192 → (task : ℕ) (key : Key) → CanName P room s task key → IsSound P (with_event s task (Ev.Key key))
  names few task key k =
      event_added P s h task (Ev.Key key) (record { proper = k.proper; new = k.new; room = omega (arith, k.place, few) }) tt tt tt (alone (Ev.Key key) refl)

  -- a fill that covers what was not covered is new
  not_filled : (task number w first : ℕ) (key : Key) (k : CanFill P room s task number w) → slice_get (keys_of es) number ≡ Some key → Covers P es key first w
      → (row : CacheRow) → Contains (rows_of es) row → row.key ≡ number → row.first ≡ first → ⊥
  not_filled task number w first key k named covers row c of begins =
      let one : key ≡ k.key = same_key (slice_get (keys_of es) number) key k.key named k.named in
      k.uncovered (row, record { stands = c; of_key = of; covers = subst (λ (x : Key). Covers P es x row.first w) one (subst (λ (n : ℕ). Covers P es key n w) (sym begins) covers) })

  fills : room.rows ≤ 16384 → (task number w : ℕ) (u : Core) → CanFill P room s task number w → HasFilled P s u task number w → IsSound P u
  fills few task number w u k l =
      subst (IsSound P) (sym l.is)
      (event_added P s h task (Ev.Fill number l.site l.first)
      (record { key = l.key; named = l.named; right = l.right; new = not_filled task number w l.first l.key k l.named l.covers; room = omega (arith, k.place, few) })
      tt tt tt (alone (Ev.Fill number l.site l.first) refl))

  -- what is open
  open_sound : (o : Opened) → s.opened ≡ Some o → IsSoundOpen P es o
  open_sound o e = subst (MayBeOpen P es) e h.opened

  with_open : (o : Opened) → IsSoundOpen P es o → IsSound P (with_opened s (Some o))
  with_open o k = record { events = h.events; count = h.count; tasks = h.tasks; opened = k }

  opens : (task : ℕ) (change : Change) → CanOpen P room s task change → IsSound P (with_opened s (Some (record { task = task; change = change; cut = [] })))
  opens task change k =
      with_open (record { task = task; change = change; cut = [] })
      (record { running = k.free.running; may = k.may; place = k.place; cut = λ r c. absurd (nothing r c) })

  cuts : (r : ℕ) (o : Opened) → s.opened ≡ Some o → CanCut P room s r → IsSound P (with_opened s (Some (with_cut o r)))
  cuts r o e (p, q, left) =
      let k = open_sound o e in
      let one : p ≡ o = same_opened s.opened p o q e in
      let ends : IsToCut P es o.change r = subst (λ (x : Opened). IsToCut P es x.change r) one left.ends in
      with_open (with_cut o r) (record { running = k.running; may = k.may; place = k.place; cut = λ n c. by k ends n (Contains-append_cases o.cut (r ∷ []) n c) })
    where
      by : IsSoundOpen P es o → IsToCut P es o.change r → (n : ℕ) → Contains o.cut n ⊎ Contains (r ∷ []) n → IsToCut P es o.change n
      by k ends n (inl c) = k.cut n c
      by k ends n (inr (zero, l, q)) = subst (IsToCut P es o.change) q ends
      by k ends n (inr (suc i, l, q)) = absurd (omega (arith, l))

  changes : (task : ℕ) (change : Change) → IsChange P es task change → IsSound P (with_event s task (change_event task change))
  changes task (Ch.Def site) k = event_added P s h task (Ev.Def task site) k tt tt tt (alone (Ev.Def task site) refl)
  changes task (Ch.Del place) k = event_added P s h task (Ev.Del task place) k tt tt tt (alone (Ev.Del task place) refl)

  publishes : (o : Opened) → s.opened ≡ Some o → IsSound P (with_event s o.task (change_event o.task o.change))
  publishes o e = (let k = open_sound o e in changes o.task o.change (record { running = k.running; may = k.may; room = k.place }))

  -- what a task knows comes before it
  known_before : (task : ℕ) (others : List ℕ) → Knows P room s task others → (other : ℕ) → Contains others other → IsBefore P es other task
  known_before task others k other c = (h.tasks task k.state k.at).known other (k.each other c)

  ends : (task : ℕ) (ended : Record) → CanEnd P room s task ended → IsSound P (with_event s task (Ev.Done task ended))
  ends task ended k =
      event_added P s h task (Ev.Done task ended) k.free.running k.traced k.own (known_before task (in_outcome ended.outcome) k.known) (alone (Ev.Done task ended) refl)

  fetches : (task of : ℕ) (r : Record) → done_of of es ≡ Some r → CanFetch P room s task of
      → IsSound P (change_task s task (λ t. with_known (in_outcome r.outcome) (with_seen (length es) t)))
  fetches task of r e k =
      task_changed P s h task (λ t. with_known (in_outcome r.outcome) (with_seen (length es) t))
      (λ t i q.
      (let more = seen_more task (length es) (omega arith) t q in
      record { seen = more.seen; search = q.search; known = λ other c. by t q other (Contains-append_cases t.known (in_outcome r.outcome) other c) }))
    where
      by : (t : TaskState) → IsSoundTask P es task t → (other : ℕ) → Contains t.known other ⊎ Contains (in_outcome r.outcome) other → IsBefore P es other task
      by t q other (inl c) = q.known other c
      by t q other (inr c) =
          before_trans other of task _ ((h.events.ends of r e).known other c) (known_before task (of ∷ []) k.known of (0, omega arith, refl))

-- a step keeps what holds of a state
pub step_sound : (P : Program) → IsValid P → (room : Places) → room.keys ≤ 8192 → room.rows ≤ 16384 → (s u : Core) (step : Step) → IsEnabled P room s step → Leaves P s u step → IsSound P s → IsSound P u
step_sound P valid room keys rows s u (St.Look task) k l h = subst (IsSound P) (sym l) (looks P valid room s h task)
step_sound P valid room keys rows s u (St.Key task key) k l h = subst (IsSound P) (sym l) (names P valid room s h keys task key k)
step_sound P valid room keys rows s u (St.Head task number w) k l h = subst (IsSound P) (sym l) (searches P valid room s h task number w k)
step_sound P valid room keys rows s u (St.Row task) k l h = reads P valid room s h task u l
step_sound P valid room keys rows s u (St.Fill task number w) k l h = fills P valid room s h rows task number w u k l
step_sound P valid room keys rows s u (St.Open task change) k l h = subst (IsSound P) (sym l) (opens P valid room s h task change k)
step_sound P valid room keys rows s u (St.Cut r) k (o, e, l) h = subst (IsSound P) (sym l) (cuts P valid room s h r o e k)
step_sound P valid room keys rows s u St.Publish k (o, e, l) h = subst (IsSound P) (sym l) (publishes P valid room s h o e)
step_sound P valid room keys rows s u (St.Spawn task start) k l h =
    subst (IsSound P) (sym l)
    (child_added P s h task start (record { running = k.free.running; of_program = k.of_program; next = refl; room = k.place }) (known_before P valid room s h task (in_start start) k.known))
step_sound P valid room keys rows s u (St.Done task ended) k l h = subst (IsSound P) (sym l) (ends P valid room s h task ended k)
step_sound P valid room keys rows s u (St.Fetch task of) k (r, e, l) h = subst (IsSound P) (sym l) (fetches P valid room s h task of r e k)

-- ---- all states that are reached

first_sound : (P : Program) (fuel : ℕ) → fuel ≤ 1000000000 → IsSound P (first_core fuel)
first_sound P fuel few = record {
  events = record {
    stand = record { begun = refl; come = (record { nothing_before = refl; allowed = few }, tt) };
    traced = record { traces = (tt, tt); own = (tt, tt) };
    rows = λ row c. (let (k, l, e) = c in absurd (omega (arith, l)));
    bounds = λ task. tt;
    ends = λ task ended e. cc;
    few_worlds = omega arith;
    few_tasks = omega arith;
    few_rows = omega arith;
    proper = λ key c. (let (k, l, e) = c in absurd (omega (arith, l)));
  };
  count = refl;
  tasks = λ task t e. by task t e;
  opened = tt;
}
  where
    root : TaskState
    root = record { seen = 1; known = []; search = None }

    by : (task : ℕ) (t : TaskState) → slice_get (record { seen = 1; known = []; search = None } ∷ []) task ≡ Some t → IsSoundTask P (Ev.Begin fuel ∷ []) task t
    by zero t e =
        let one : root ≡ t = cc in
        subst (IsSoundTask P (Ev.Begin fuel ∷ []) 0) one (record { seen = omega arith; search = tt; known = λ other c. absurd (nothing other c) })
    by (suc n) t e = cc

way_sound : (P : Program) → IsValid P → (room : Places) → room.keys ≤ 8192 → room.rows ≤ 16384 → (s u : Core) → Reaches P room s u → IsSound P s → IsSound P u
way_sound P valid room keys rows s u (stays t) h = h
way_sound P valid room keys rows s u (goes a t b step way k l) h = step_sound P valid room keys rows t u step k l (way_sound P valid room keys rows s t way h)

pub reached_sound : (P : Program) (room : Places) (s : Core) → IsReached P room s → IsSound P s
reached_sound P room s h = way_sound P h.valid room h.few_keys h.few_rows (first_core h.fuel) s h.way (first_sound P h.fuel h.allowed)
