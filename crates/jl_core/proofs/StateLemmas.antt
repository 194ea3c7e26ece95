-- The start, and what a task's last search has found.
use Rattle.std.proofs.Common.{◌≡◌, ◌∙◌, ap, sym, subst, refl, ℕ, zero, suc, ◌≤◌, ◌<◌, arith, List, [], ◌∷◌, ◌++◌, map, length, get_or, slice_get, Option, None, Some, IfSome}
use Rattle.jl_program.specs.declared.tree.Program.{Program}
use Rattle.jl_program.specs.Valid.{IsValid}
use Rattle.jl_calculus.specs.declared.history.Event.{Event}
use Rattle.jl_calculus.specs.declared.history.Event.TheVariants as Ev
use Rattle.jl_calculus.specs.Core as C
use Rattle.jl_calculus.specs.Kept.{Places}
use Rattle.jl_calculus.specs.Ranges.{rows_of}
use Rattle.jl_core.specs.declared.task.Task.{Task}
use Rattle.jl_core.specs.declared.words.Words.{Words}
use Rattle.jl_core.specs.Kept.{Keeps}
use Rattle.jl_core.specs.Reached.{IsReached, site_by, search_by, found_by, IsRightHit}
use Rattle.jl_core.proofs.ReachedLemmas.{hits_right}
use Rattle.jl_core.specs.View.{row_of, task_of, last_of}

no_words : (ws : List Words) → ws ≡ [] → (r : ℕ) (w : Words) → slice_get ws r ≡ Some w → ⊥
no_words [] e r w q = cc
no_words (x ∷ ws) e r w q = cc

pub start_kept : (P : Program) → IsValid P → (room : Places) (s : C.Core) (ws : List Words) (fuel : ℕ) → fuel ≤ 1000000000 → room.keys ≤ 8192 → room.rows ≤ 16384 → s ≡ C.first_core fuel → ws ≡ [] → Keeps P room s ws
start_kept P valid room s ws fuel few keys rows e n = record {
  reached = record { valid = valid; fuel = fuel; allowed = few; few_keys = keys; few_rows = rows; way = subst (λ (c : C.Core). C.Reaches P room (C.first_core fuel) c) (sym e) (C.stays (C.first_core fuel)) };
  words_told = record {
    rows = ap (λ (xs : List Words). map row_of xs) n ∙ sym (ap (λ (c : C.Core). rows_of c.events) e);
    each = λ r w q. absurd (no_words ws n r w q);
  };
}

-- the state at the start
core_same : (a b : C.Core) → a.events ≡ b.events → a.tasks ≡ b.tasks → a.opened ≡ b.opened → a ≡ b
core_same a b p q r = λ i. record { events = p i; tasks = q i; opened = r i }

pub start_is : (fuel : ℕ) (none es : List Event) (old ts : List Task) (t : Task) (core : C.Core) → none ≡ [] → es ≡ none ++ Ev.Begin fuel ∷ [] → old ≡ [] → ts ≡ old ++ t ∷ [] → task_of t ≡ record { seen = 1; known = []; search = None }
    → core.events ≡ es → core.tasks ≡ map task_of ts → core.opened ≡ None → core ≡ C.first_core fuel
start_is fuel none es old ts t core e0 e1 t0 t1 k ce ct co =
    core_same core (C.first_core fuel)
    (ce ∙ e1 ∙ ap (λ xs. xs ++ Ev.Begin fuel ∷ []) e0)
    (ct ∙ ap (map task_of) (t1 ∙ ap (λ xs. xs ++ t ∷ []) t0) ∙ ap (λ (s : C.TaskState). s ∷ []) k)
    co

-- what a task's last search has found
found_read : (ts : List Task) (i : ℕ) (t : Task) → i < length ts → t ≡ get_or ts i t → site_by (search_by (slice_get (map task_of ts) i)) ≡ site_by (last_of t.search)
found_read [] i t l e = absurd (omega (arith, l))
found_read (x ∷ ts) zero t l e = ap (λ (y : Task). site_by (last_of y.search)) (sym e)
found_read (x ∷ ts) (suc i) t l e = found_read ts i t (omega (arith, l)) e

pub found_at : (ts xs : List Task) (i : ℕ) (t : Task) (o : Option ℕ) → xs ≡ ts → i < length xs → t ≡ get_or xs i t → o ≡ site_by (last_of t.search) → o ≡ site_by (search_by (slice_get (map task_of ts) i))
found_at ts xs i t o s l e q = q ∙ sym (found_read xs i t l e) ∙ ap (λ (ys : List Task). site_by (search_by (slice_get (map task_of ys) i))) s

found_past : (ts : List Task) (i : ℕ) → length ts ≤ i → None ≡ site_by (search_by (slice_get (map task_of ts) i))
found_past [] i l = refl
found_past (x ∷ ts) zero l = absurd (omega (arith, l))
found_past (x ∷ ts) (suc i) l = found_past ts i (omega (arith, l))

pub found_none : (ts xs : List Task) (i : ℕ) → xs ≡ ts → length xs ≤ i → None ≡ site_by (search_by (slice_get (map task_of ts) i))
found_none ts xs i s l = found_past xs i l ∙ ap (λ (ys : List Task). site_by (search_by (slice_get (map task_of ys) i))) s

pub right_if : (P : Program) (room : Places) (s : C.Core) (task : ℕ) (o : Option ℕ) → IsReached P room s → o ≡ found_by s task → IfSome o (λ site. IsRightHit P s task site)
right_if P room s task None h e = tt
right_if P room s task (Some site) h e = hits_right P room s h task site (sym e)
