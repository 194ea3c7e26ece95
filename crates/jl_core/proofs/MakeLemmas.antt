-- What the steps that read, cut, publish, spawn and fetch make.
use Rattle.std.proofs.Common.{◌≡◌, ◌∙◌, ap, sym, subst, refl, ℕ, suc, ◌+◌, ◌<◌, ◌≤◌, inl, inr, arith, List, [], ◌∷◌, ◌++◌, map, length, slice_get, slice_set, Option, None, Some}
use Rattle.std.specs.List.{Contains}
use Rattle.jl_program.specs.declared.tree.Program.{Program}
use Rattle.jl_program.specs.declared.tree.Start.{Start}
use Rattle.jl_calculus.specs.declared.history.Event.TheVariants as Ev
use Rattle.jl_calculus.specs.declared.history.Record.{Record}
use Rattle.jl_calculus.specs.declared.step.Step.TheVariants as St
use Rattle.jl_calculus.specs.Core as C
use Rattle.jl_calculus.specs.Kept.{Places}
use Rattle.jl_calculus.specs.Legal.{IsRunning}
use Rattle.jl_calculus.specs.Past.{tasks_of, done_of}
use Rattle.jl_calculus.specs.Ranges.{CacheRow, rows_of, MayBegin}
use Rattle.jl_calculus.specs.Words.{IsToCut}
use Rattle.jl_calculus.specs.World.{world_of, change_event}
use Rattle.jl_calculus.proofs.GrowthLemmas.{touches_known}
use Rattle.jl_core.specs.declared.state.Opening.{Opening}
use Rattle.jl_core.specs.declared.task.Task.{Task}
use Rattle.jl_core.specs.declared.words.Words.{Words}
use Rattle.jl_core.specs.Kept.{opened_of, AreWords, Keeps}
use Rattle.jl_core.specs.Reached.{last_search}
use Rattle.jl_core.specs.View.{row_of, task_of, row_at}
use Rattle.jl_core.proofs.EventLemmas.{contains_at, within}
use Rattle.jl_core.proofs.KeepLemmas.{core_same, next, tasks_core, at_both}
use Rattle.jl_core.proofs.Sound.{IsSound, IsSoundOpen, IsSoundSearch, MaySearch, MayBeOpen, StandsWell}
use Rattle.jl_core.proofs.StepLemmas.{reached_sound}
use Rattle.jl_core.proofs.WordLemmas.{words_cut, words_made}

length_rows : (ws : List Words) → length (map row_of ws) ≡ length ws
length_rows [] = refl
length_rows (w ∷ ws) = ap suc (length_rows ws)

length_tasks : (ts : List Task) → length (map task_of ts) ≡ length ts
length_tasks [] = refl
length_tasks (t ∷ ts) = ap suc (length_tasks ts)

same_search : (a b : C.Search) → Some a ≡ Some b → a ≡ b
same_search a b e = cc

same_number : (a b : ℕ) → Some a ≡ Some b → a ≡ b
same_number a b e = cc

same_opened : (a b : C.Opened) → Some a ≡ Some b → a ≡ b
same_opened a b e = cc

row_is : (stand : C.Stand) (row : ℕ) → Some row ≡ row_at stand → stand ≡ C.at_row row
row_is (C.at_row r) row e = ap (λ (n : ℕ). C.at_row n) (sym (same_number row r e))
row_is (C.found site) row e = cc
row_is C.missed row e = cc

module _ (P : Program) (room : Places) (s : C.Core) (ws : List Words) (h : Keeps P room s ws) where
  sound : IsSound P s
  sound = reached_sound P room s h.reached

  pub few_worlds : world_of s.events ≤ 65535
  few_worlds = sound.events.few_worlds

  pub few_tasks : tasks_of s.events ≤ 4096
  few_tasks = sound.events.few_tasks

  pub row_there : (r : ℕ) (row : CacheRow) → slice_get (rows_of s.events) r ≡ Some row → r < length ws
  row_there r row e = omega (arith, within (rows_of s.events) r row e, length_rows ws, ap length h.words_told.rows)

  -- ---- reading a row

  searched_by : (task : ℕ) (t : C.TaskState) (search last : C.Search) → slice_get s.tasks task ≡ Some t → t.search ≡ Some search → Some last ≡ last_search s task → last ≡ search
  searched_by task t search last at q e = same_search last search (e ∙ ap by at ∙ q)
    where
      by : Option C.TaskState → Option C.Search
      by None = None
      by (Some x) = x.search

  read_bound' : (task : ℕ) (t : C.TaskState) (search last : C.Search) (row : ℕ) → slice_get s.tasks task ≡ Some t → t.search ≡ Some search → last ≡ search → last.stand ≡ C.at_row row → row < length ws
  read_bound' task t search last row at q one stood =
      let k : IsSoundSearch P s.events search = subst (MaySearch P s.events) q (sound.tasks task t at).search in
      let stand : search.stand ≡ C.at_row row = ap (λ (x : C.Search). x.stand) (sym one) ∙ stood in
      let (found, there, of) = subst (StandsWell P s.events search.key k.key search.world) stand k.at in
      row_there row found there

  pub read_bound : (task : ℕ) (last : C.Search) (row : ℕ) → C.CanRead P room s task → Some last ≡ last_search s task → Some row ≡ row_at last.stand → row < length ws
  read_bound task last row (t, search, r, k) e q =
      read_bound' task t search last row k.at k.searching (searched_by task t search last k.at k.searching e) (row_is last.stand row q)

  pub read_task : (task : ℕ) (ts : List Task) → C.CanRead P room s task → s.tasks ≡ map task_of ts → task < length ts
  read_task task ts (t, search, r, k) e = omega (arith, within s.tasks task t k.at, ap length e, length_tasks ts)

  pub has_read : (task : ℕ) (last : C.Search) (row : ℕ) (w : Words) (ts : List C.TaskState) → C.CanRead P room s task → Some last ≡ last_search s task → Some row ≡ row_at last.stand → slice_get ws row ≡ Some w
      → ts ≡ C.at_task (C.with_search (C.after_row last w.site w.first w.last w.next)) task s.tasks → C.HasRead P s (record { events = s.events; tasks = ts; opened = s.opened }) task
  has_read task last row w ts (t, search, r, k) e q at n = record {
    t = t;
    search = last;
    r = row;
    at = k.at;
    searched = k.searching ∙ ap (λ (x : C.Search). Some x) (sym (searched_by task t search last k.at k.searching e));
    stood = row_is last.stand row q;
    site = w.site;
    first = w.first;
    last = w.last;
    next = w.next;
    words = h.words_told.each row w at;
    is = tasks_core s (C.with_search (C.after_row last w.site w.first w.last w.next)) task ts n;
  }

  -- ---- cutting a row

  pub cut_bound : (r : ℕ) → C.CanCut P room s r → r < length ws
  cut_bound r (o, e, left) = row_there r left.ends.row left.ends.stands

  pub has_cut : (r : ℕ) (t : C.Core) → C.CanCut P room s r → t.events ≡ s.events → t.tasks ≡ s.tasks → ((o : C.Opened) → s.opened ≡ Some o → t.opened ≡ Some (C.with_cut o r)) → C.Leaves P s t (St.Cut r)
  has_cut r t (o, e, left) p q f = (o, e, core_same t (C.with_opened s (Some (C.with_cut o r))) p q (f o e))

  pub cut_next : (r : ℕ) (t : C.Core) (w v : Words) → C.CanCut P room s r → t.events ≡ s.events → t.tasks ≡ s.tasks → ((o : C.Opened) → s.opened ≡ Some o → t.opened ≡ Some (C.with_cut o r))
      → slice_get ws r ≡ Some w → v.key ≡ w.key → v.site ≡ w.site → v.first ≡ w.first → v.next ≡ w.next → v.last ≡ world_of s.events → Keeps P room t (slice_set ws r v)
  cut_next r t w v k p q f at e0 e1 e2 e3 e4 = by k
    where
      by : C.CanCut P room s r → Keeps P room t (slice_set ws r v)
      by (o, e, left) =
          next P room s ws h (St.Cut r) t (slice_set ws r v) k (has_cut r t k p q f)
          (subst (λ es. AreWords P es (C.cut_for t.opened) (slice_set ws r v)) (sym p)
          (subst (λ (x : Option C.Opened). AreWords P s.events (C.cut_for x) (slice_set ws r v)) (sym (f o e))
          (words_cut P s.events o.cut ws (subst (λ (x : Option C.Opened). AreWords P s.events (C.cut_for x) ws) e h.words_told) r w v at e0 e1 e2 e3 e4)))

  -- ---- publishing

  open_sound : (o : C.Opened) → s.opened ≡ Some o → IsSoundOpen P s.events o
  open_sound o e = subst (MayBeOpen P s.events) e sound.opened

  pub open_running : (o : C.Opened) → s.opened ≡ Some o → IsRunning s.events o.task
  open_running o e = (open_sound o e).running

  begins : (row : CacheRow) (r : ℕ) → slice_get (rows_of s.events) r ≡ Some row → row.first ≤ world_of s.events
  begins row r e = (let k = sound.events.rows row (contains_at (rows_of s.events) r row e) in by k.key k.right.begun)
    where
      by : (key : _) → MayBegin P s.events key row.first → row.first ≤ world_of s.events
      by key (inl q) = omega (arith, q)
      by key (inr (low, t)) = touches_known P s.events row.first key t

  pub has_published : (o : C.Opened) (t : C.Core) → s.opened ≡ Some o → t.events ≡ s.events ++ change_event o.task o.change ∷ [] → t.tasks ≡ C.at_task (C.with_seen (length s.events + 1)) o.task s.tasks → t.opened ≡ None → C.Leaves P s t St.Publish
  has_published o t e p q n = (o, e, core_same t (C.with_event s o.task (change_event o.task o.change)) p q n)

  pub publish_next : (o : C.Opened) (t : C.Core) → C.CanPublish P room s → s.opened ≡ Some o → t.events ≡ s.events ++ change_event o.task o.change ∷ [] → t.tasks ≡ C.at_task (C.with_seen (length s.events + 1)) o.task s.tasks → t.opened ≡ None
      → Keeps P room t ws
  publish_next o t (x, y, none) e p q n =
      next P room s ws h St.Publish t ws (x, y, none) (has_published o t e p q n)
      (subst (λ es. AreWords P es (C.cut_for t.opened) ws) (sym p)
      (subst (λ (z : Option C.Opened). AreWords P (s.events ++ change_event o.task o.change ∷ []) (C.cut_for z) ws) (sym n)
      (words_made P s.events o.task o.change o.cut ws (subst (λ (z : Option C.Opened). AreWords P s.events (C.cut_for z) ws) e h.words_told) (open_sound o e).cut all begins)))
    where
      all : (r : ℕ) → IsToCut P s.events o.change r → (Contains o.cut r → ⊥) → ⊥
      all r ends m = subst (λ (z : C.Opened). C.IsLeft P room s z r → ⊥) (same_opened x o (sym y ∙ e)) (none r) (record { ends = ends; not_cut = m })

  -- ---- fetching

  pub has_fetched : (task of : ℕ) (ended : Record) (others : List ℕ) (n : ℕ) (ts mid : List C.TaskState) → done_of of s.events ≡ Some ended → others ≡ C.in_outcome ended.outcome → n ≡ length s.events
      → mid ≡ C.at_task (C.with_known others) task s.tasks → ts ≡ C.at_task (C.with_seen n) task mid → C.Leaves P s (record { events = s.events; tasks = ts; opened = s.opened }) (St.Fetch task of)
  has_fetched task of ended others n ts mid e o m p q = (
    ended,
    e,
    tasks_core s (λ t. C.with_known (C.in_outcome ended.outcome) (C.with_seen (length s.events) t)) task ts
        (q
        ∙ ap (C.at_task (C.with_seen n) task) p
        ∙ at_both (C.with_known others) (C.with_seen n) task s.tasks
        ∙ ap (λ (xs : List ℕ). C.at_task (λ t. C.with_known xs (C.with_seen n t)) task s.tasks) o
        ∙ ap (λ (k : ℕ). C.at_task (λ t. C.with_known (C.in_outcome ended.outcome) (C.with_seen k t)) task s.tasks) m),
  )

  -- ---- spawning

  pub has_spawned : (task : ℕ) (start : Start) (child seen : ℕ) (known : List ℕ) (t : C.Core) (mid near : List C.TaskState) → child ≡ tasks_of s.events → seen ≡ length s.events + 1 → known ≡ C.in_start start → s.opened ≡ None
      → t.events ≡ s.events ++ Ev.Spawn task child start ∷ [] → mid ≡ C.at_task (C.with_known (child ∷ [])) task s.tasks → near ≡ C.at_task (C.with_seen seen) task mid
      → t.tasks ≡ near ++ record { seen = seen; known = known; search = None } ∷ [] → t.opened ≡ s.opened → C.Leaves P s t (St.Spawn task start)
  has_spawned task start child seen known t mid near c l k closed e m n q o =
      core_same t _
      (e ∙ ap (λ (x : ℕ). s.events ++ Ev.Spawn task x start ∷ []) c)
      (q
      ∙ ap (λ (ts : List C.TaskState). ts ++ record { seen = seen; known = known; search = None } ∷ [])
      (n
      ∙ ap (C.at_task (C.with_seen seen) task) m
      ∙ at_both (C.with_known (child ∷ [])) (C.with_seen seen) task s.tasks
      ∙ ap (λ (x : ℕ). C.at_task (λ t. C.with_known (x ∷ []) (C.with_seen seen t)) task s.tasks) c
      ∙ ap (λ (x : ℕ). C.at_task (λ t. C.with_known (tasks_of s.events ∷ []) (C.with_seen x t)) task s.tasks) l
      ∙ sym (at_both (C.with_seen (length s.events + 1)) (C.with_known (tasks_of s.events ∷ [])) task s.tasks))
      ∙ ap (λ (x : C.TaskState). C.at_task (C.with_known (tasks_of s.events ∷ [])) task (C.at_task (C.with_seen (length s.events + 1)) task s.tasks) ++ x ∷ []) (λ i. record { seen = l i; known = k i; search = None }))
      (o ∙ closed)

-- what is open with one more row that was cut
pub opened_cut : (o : Option Opening) (cut new : List ℕ) (r : ℕ) → new ≡ cut ++ r ∷ [] → (x : C.Opened) → opened_of o cut ≡ Some x → opened_of o new ≡ Some (C.with_cut x r)
opened_cut None cut new r e x q = cc
opened_cut (Some y) cut new r e x q =
    subst (λ (z : C.Opened). opened_of (Some y) new ≡ Some (C.with_cut z r)) (same_opened (record { task = y.task; change = y.change; cut = cut }) x q)
    (λ i. Some (record { task = y.task; change = y.change; cut = e i }))
