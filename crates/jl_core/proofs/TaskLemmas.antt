-- One task of a list is changed in place.
use Rattle.std.proofs.Common.{◌≡◌, ◌∙◌, ap, ℕ, zero, suc, ◌<◌, arith, List, [], ◌∷◌, map, length, slice_index_or, slice_set, Result, Ok, Err, OnOk, OnErr}
use Rattle.jl_calculus.specs.Core.{TaskState, at_task}
use Rattle.jl_core.specs.declared.task.Task.{Task}
use Rattle.jl_core.specs.View.{task_of}

pub changed_at : (f : TaskState → TaskState) (ts : List Task) (i : ℕ) (t u : Task) → i < length ts → t ≡ slice_index_or ts i t → task_of u ≡ f (task_of t) → map task_of (slice_set ts i u) ≡ at_task f i (map task_of ts)
changed_at f [] i t u l e h = absurd (omega (arith, l))
changed_at f (x ∷ ts) zero t u l e h = ap (λ (s : TaskState). s ∷ map task_of ts) (h ∙ ap (λ (y : Task). f (task_of y)) e)
changed_at f (x ∷ ts) (suc i) t u l e h = ap (λ (ss : List TaskState). task_of x ∷ ss) (changed_at f ts i t u (omega (arith, l)) e h)

pub same_at : (ts : List Task) (i : ℕ) (t u : Task) → i < length ts → t ≡ slice_index_or ts i t → task_of u ≡ task_of t → map task_of (slice_set ts i u) ≡ map task_of ts
same_at [] i t u l e h = absurd (omega (arith, l))
same_at (x ∷ ts) zero t u l e h = ap (λ (s : TaskState). s ∷ map task_of ts) (h ∙ ap task_of e)
same_at (x ∷ ts) (suc i) t u l e h = ap (λ (ss : List TaskState). task_of x ∷ ss) (same_at ts i t u (omega (arith, l)) e h)

pub on_ok : {X E : Type 0} (r : Result X E) {A B : Type 0} → (A → B) → OnOk r A → OnOk r B
on_ok (Ok x) f a = f a
on_ok (Err e) f a = tt

pub on_err : {X E : Type 0} (r : Result X E) {A B : Type 0} → (A → B) → OnErr r A → OnErr r B
on_err (Ok x) f a = tt
on_err (Err e) f a = f a
