-- A step keeps a state that is reached, and the words of its rows.
use Rattle.std.proofs.Common.{◌≡◌, ◌∙◌, ap, sym, subst, refl, ℕ, zero, suc, ◌+◌, ◌<◌, ◌≤◌, arith, List, [], ◌∷◌, ◌++◌, map, length, Option, None, Result, Ok, Err, OnOk, OnErr}
use Rattle.jl_program.specs.declared.tree.Program.{Program}
use Rattle.jl_calculus.specs.declared.history.Event.{Event}
use Rattle.jl_calculus.specs.declared.step.Step.{Step}
use Rattle.jl_calculus.specs.Core as C
use Rattle.jl_calculus.specs.Kept.{Places}
use Rattle.jl_calculus.specs.Legal.{IsRunning}
use Rattle.jl_calculus.specs.Past.{tasks_of}
use Rattle.jl_calculus.specs.Ranges.{CacheRow, rows_of}
use Rattle.jl_calculus.specs.Words.{fill_length, link_of}
use Rattle.jl_calculus.specs.World.{changed}
use Rattle.jl_core.specs.declared.task.Task.{Task}
use Rattle.jl_core.specs.declared.words.Words.{Words}
use Rattle.jl_core.specs.Kept.{AreWords, Keeps}
use Rattle.jl_core.specs.State.{State, Makes}
use Rattle.jl_core.specs.View.{row_of, task_of}
use Rattle.jl_core.proofs.StepLemmas.{reached_sound}
use Rattle.jl_core.proofs.WordLemmas.{words_same}

-- ---- states

pub core_same : (s t : C.Core) → s.events ≡ t.events → s.tasks ≡ t.tasks → s.opened ≡ t.opened → s ≡ t
core_same s t p q r = λ i. record { events = p i; tasks = q i; opened = r i }

length_map : (ts : List Task) → length (map task_of ts) ≡ length ts
length_map [] = refl
length_map (t ∷ ts) = ap suc (length_map ts)

length_rows : (ws : List Words) → length (map row_of ws) ≡ length ws
length_rows [] = refl
length_rows (w ∷ ws) = ap suc (length_rows ws)

-- a call that succeeds or does not
pub either : {X E : Type 0} (r : Result X E) {A B K : Type 0} → OnOk r A → OnErr r B → (A → K) → (B → K) → K
either (Ok x) a b f g = f a
either (Err e) a b f g = g b

module _ (P : Program) (room : Places) (s : C.Core) (ws : List Words) (h : Keeps P room s ws) where
  pub count_of : (ts : List Task) → s.tasks ≡ map task_of ts → length ts ≡ tasks_of s.events
  count_of ts e = sym (length_map ts) ∙ ap length (sym e) ∙ (reached_sound P room s h.reached).count

  -- a running task is there
  pub there : (ts : List Task) (task : ℕ) → s.tasks ≡ map task_of ts → IsRunning s.events task → task < length ts
  there ts task e k = omega (arith, count_of ts e, k.started)

  pub few_words : length ws ≤ 16384
  few_words = omega (arith, length_rows ws, ap length h.words_told.rows, (reached_sound P room s h.reached).events.few_rows)

  pub as_core : (t : C.Core) → t ≡ s → Keeps P room t ws
  as_core t e = subst (λ (c : C.Core). Keeps P room c ws) (sym e) h

  pub next : (step : Step) (t : C.Core) (vs : List Words) → C.IsEnabled P room s step → C.Leaves P s t step → AreWords P t.events (C.cut_for t.opened) vs → Keeps P room t vs
  next step t vs k l w = record {
    reached = record {
      valid = h.reached.valid;
      fuel = h.reached.fuel;
      allowed = h.reached.allowed;
      few_keys = h.reached.few_keys;
      few_rows = h.reached.few_rows;
      way = C.goes (C.first_core h.reached.fuel) s t step h.reached.way k l;
    };
    words_told = w;
  }

  -- the tasks alone change
  pub next_tasks : (step : Step) (t : C.Core) → C.IsEnabled P room s step → C.Leaves P s t step → t.events ≡ s.events → t.opened ≡ s.opened → Keeps P room t ws
  next_tasks step t k l e o =
      next step t ws k l
      (subst (λ es. AreWords P es (C.cut_for t.opened) ws) (sym e) (subst (λ (x : Option C.Opened). AreWords P s.events (C.cut_for x) ws) (sym o) h.words_told))

  -- an event that makes neither a world nor a row, while no change is open
  pub next_event : (step : Step) (e : Event) (t : C.Core) → s.opened ≡ None → changed (e ∷ []) ≡ [] → rows_of (e ∷ []) ≡ [] → C.IsEnabled P room s step → C.Leaves P s t step
      → t.events ≡ s.events ++ e ∷ [] → t.opened ≡ None → Keeps P room t ws
  next_event step e t closed d n k l q o =
      next step t ws k l
      (subst (λ es. AreWords P es (C.cut_for t.opened) ws) (sym q)
      (subst (λ (x : Option C.Opened). AreWords P (s.events ++ e ∷ []) (C.cut_for x) ws) (sym o)
      (words_same P s.events e [] ws d n (subst (λ (x : Option C.Opened). AreWords P s.events (C.cut_for x) ws) closed h.words_told))))

-- the state of a task is changed
pub tasks_core : (s : C.Core) (f : C.TaskState → C.TaskState) (task : ℕ) (ts : List C.TaskState) → ts ≡ C.at_task f task s.tasks → record { events = s.events; tasks = ts; opened = s.opened } ≡ C.change_task s task f
tasks_core s f task ts e = core_same (record { events = s.events; tasks = ts; opened = s.opened }) (C.change_task s task f) refl e refl

-- one change after another
pub at_both : (f g : C.TaskState → C.TaskState) (task : ℕ) (ts : List C.TaskState) → C.at_task g task (C.at_task f task ts) ≡ C.at_task (λ t. g (f t)) task ts
at_both f g task [] = refl
at_both f g zero (t ∷ ts) = refl
at_both f g (suc task) (t ∷ ts) = ap (λ (us : List C.TaskState). t ∷ us) (at_both f g task ts)

-- one more event, or none without memory
pub event_kept : (P : Program) (room : Places) (s : C.Core) (ws : List Words) → Keeps P room s ws → (step : Step) (task : ℕ) (e : Event) → s.opened ≡ None → changed (e ∷ []) ≡ [] → rows_of (e ∷ []) ≡ []
    → C.IsEnabled P room s step → C.Leaves P s (C.with_event s task e) step → (t : C.Core) → t.opened ≡ s.opened → {X E : Type 0} (r : Result X E)
    → OnOk r (t.events ≡ s.events ++ e ∷ []) → OnOk r (t.tasks ≡ C.at_task (C.with_seen (length s.events + 1)) task s.tasks) → OnErr r (t.events ≡ s.events) → OnErr r (t.tasks ≡ s.tasks) → Keeps P room t ws
event_kept P room s ws h step task e closed d n k l t o (Ok x) p q u v =
    let same : t ≡ C.with_event s task e = core_same t (C.with_event s task e) p q (o ∙ closed) in
    next_event P room s ws h step e t closed d n k (subst (λ (c : C.Core). C.Leaves P s c step) (sym same) l) p (o ∙ closed)
event_kept P room s ws h step task e closed d n k l t o (Err x) p q u v = as_core P room s ws h t (core_same t s u v o)

-- what a step makes of a state that is seen so
pub made_from : (s seen t : State) (step : Step) → s ≡ seen → t.program ≡ s.program → t.room ≡ s.room → C.Leaves s.program s.core t.core step → Makes seen step t
made_from s seen t step e p r l = subst (λ (x : State). Makes x step t) e (record { same_program = p; same_room = r; leaves = l })

-- a search that begins
pub searched : (s : C.Core) (task key w : ℕ) (ts mid : List C.TaskState) (n link : ℕ) (stand : C.Stand) (rows : List CacheRow) → mid ≡ C.at_task (C.with_seen n) task s.tasks
    → ts ≡ C.at_task (C.with_search (record { key = key; world = w; stand = stand })) task mid → n ≡ fill_length key s.events → stand ≡ C.go_to link → link ≡ link_of key rows → rows ≡ rows_of s.events
    → ts ≡ C.at_task (λ t. C.with_search (C.new_search s key w) (C.with_seen (fill_length key s.events) t)) task s.tasks
searched s task key w ts mid n link stand rows m e c g l r =
    e
    ∙ ap (C.at_task (C.with_search (record { key = key; world = w; stand = stand })) task) m
    ∙ at_both (C.with_seen n) (C.with_search (record { key = key; world = w; stand = stand })) task s.tasks
    ∙ ap (λ (k : ℕ). C.at_task (λ t. C.with_search (record { key = key; world = w; stand = stand }) (C.with_seen k t)) task s.tasks) c
    ∙ ap (λ (x : C.Stand). C.at_task (λ t. C.with_search (record { key = key; world = w; stand = x }) (C.with_seen (fill_length key s.events) t)) task s.tasks)
    (g ∙ ap C.go_to (l ∙ ap (link_of key) r))
