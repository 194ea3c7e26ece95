-- What the calls of a board make of what contracts see of it.
use Rattle.std.proofs.Common.{◌≡◌, ◌∙◌, ap, sym, subst, refl, ℕ, zero, suc, ◌<◌, arith, Bool, false, List, [], ◌∷◌, ◌++◌, length, map, get_or, set, slice_get, Option, None, Some, Result, Ok, Err, OnOk, OnErr}
use Rattle.std.specs.Global.{Global}
use Rattle.std.specs.declared.collections.VecDeque.{VecDeque}
use Rattle.std.specs.List.Sorted.{IsPermutation}
use Rattle.std.proofs.lemmas.List.{append_assoc, map-set}
use Rattle.std.proofs.lemmas.List.Sorted.{IsPermutation-refl, IsPermutation-append_right}
use Rattle.jl_queue.specs.declared.line.Popped.{Popped}
use Rattle.jl_queue.specs.declared.line.Popped.TheVariants as Pop
use Rattle.jl_queue.specs.Boards.{BoardOf, queued, list_in, waiting_for, jobs_of}
use Rattle.jl_queue.proofs.JobLemmas.{all_at, one_more, one_behind, wait_more, wait_none}

pub on_ok : {A E P Q : Type 0} (r : Result A E) → OnOk r P → (P → Q) → OnOk r Q
on_ok (Ok x) p f = f p
on_ok (Err e) p f = tt

pub on_err : {A E P : Type 0} (r : Result A E) → P → OnErr r P
on_err (Ok x) p = tt
on_err (Err e) p = p

set_same : {X : Type 0} (xs : List X) (n : ℕ) (x : X) → x ≡ get_or xs n x → set xs n x ≡ xs
set_same [] n x e = refl
set_same (y ∷ xs) zero x e = ap (λ z. z ∷ xs) e
set_same (y ∷ xs) (suc n) x e = ap (λ zs. y ∷ zs) (set_same xs n x e)

abbrev pub Queues : Type 0 → Type 0
Queues T = List (Option (VecDeque T Global))

other : {T : Type 0} (result : Popped T) (job : T) → result ≡ Pop.Empty → result ≡ Pop.Item job → ⊥
other result job e f = cc

taken : {T : Type 0} (result : Popped T) (first job : T) → result ≡ Pop.Item first → result ≡ Pop.Item job → first ≡ job
taken result first job e f = cc

module _ {T : Type 0} where
  abbrev pub view : List T × Bool → Queues T → BoardOf T
  view line vs = record { ready = line.0; closed = line.1; waiting = map queued vs }

  -- what waits for the task of a number
  pub read : (vs : Queues T) (n : ℕ) (v : Option (VecDeque T Global)) → n < length vs → v ≡ get_or vs n v → slice_get (map queued vs) n ≡ Some (queued v)
  read [] n v l e = absurd (omega (arith, l))
  read (u ∷ vs) zero v l e = ap (λ u. Some (queued u)) (sym e)
  read (u ∷ vs) (suc n) v l e = read vs n v (omega (arith, l)) e

  pub known : (vs : Queues T) → length (map queued vs) ≡ length vs
  known [] = refl
  known (v ∷ vs) = ap suc (known vs)

  written : (line : List T × Bool) (vs : Queues T) (n : ℕ) (w : Option (VecDeque T Global)) → view line (set vs n w) ≡ record { ready = line.0; closed = line.1; waiting = set (map queued vs) n (queued w) }
  written line vs n w i = record { ready = line.0; closed = line.1; waiting = map-set queued vs n w i }

  pub written_same : (line : List T × Bool) (vs : Queues T) (n : ℕ) (v : Option (VecDeque T Global)) → v ≡ get_or vs n v → view line (set vs n v) ≡ view line vs
  written_same line vs n v e = ap (view line) (set_same vs n v e)

  pub marked : (old : BoardOf T) (line : List T × Bool) (vs : Queues T) (n : ℕ) (w : Option (VecDeque T Global)) → old ≡ view line vs → w ≡ None
      → view line (set vs n w) ≡ record { ready = old.ready; closed = old.closed; waiting = set old.waiting n None }
  marked old line vs n w e f =
      written line vs n w
      ∙ ap (λ w. record { ready = line.0; closed = line.1; waiting = set (map queued vs) n (queued w) }) f
      ∙ ap (λ (b : BoardOf T). record { ready = b.ready; closed = b.closed; waiting = set b.waiting n None }) (sym e)

  -- a job that is ready at once
  pub push_whole : (old : BoardOf T) (before after : List T × Bool) (vs us : Queues T) (job : T) → old ≡ view before vs → us ≡ vs → after ≡ (before.0 ++ job ∷ [], before.1)
      → IsPermutation (jobs_of (view after us)) (job ∷ jobs_of old)
  push_whole old before after vs us job e f h =
      subst (λ b. IsPermutation (jobs_of (view after us)) (job ∷ jobs_of b)) (sym e)
      (subst (λ us. IsPermutation (jobs_of (view after us)) (job ∷ jobs_of (view before vs))) (sym f)
      (subst (λ a. IsPermutation (jobs_of (view a vs)) (job ∷ jobs_of (view before vs))) (sym h) (one_more before.0 (all_at (map queued vs)) job)))

  pub push_default : (old : BoardOf T) (before after : List T × Bool) (vs : Queues T) (n : ℕ) (v : Option (VecDeque T Global)) (job : T) → old ≡ view before vs → v ≡ get_or vs n v
      → after ≡ (before.0 ++ job ∷ [], before.1) → IsPermutation (jobs_of (view after (set vs n v))) (job ∷ jobs_of old)
  push_default old before after vs n v job e f h = push_whole old before after vs (set vs n v) job e (set_same vs n v f) h

  pub take_whole : (old : BoardOf T) (before after : List T × Bool) (vs : Queues T) (result : Popped T) (job : T) → old ≡ view before vs
      → ((first : T) (rest : List T) → before.0 ≡ first ∷ rest → (result ≡ Pop.Item first) × (after ≡ (rest, before.1))) → (before ≡ ([], false) → (result ≡ Pop.Empty) × (after ≡ before))
      → before.1 ≡ false → result ≡ Pop.Item job → jobs_of old ≡ job ∷ jobs_of (view after vs)
  take_whole old before after vs result job e item empty opened is = ap (λ b. jobs_of b) e ∙ by before.0 refl
    where
      by : (xs : List T) → before.0 ≡ xs → before.0 ++ all_at (map queued vs) ≡ job ∷ jobs_of (view after vs)
      by [] f = let none = (empty (λ i. (f i, opened i))).0 in absurd (other result job none is)
      by (first ∷ rest) f =
          let (given, left) = item first rest f in
          let same : first ≡ job = taken result first job given is in
          ap (λ xs. xs ++ all_at (map queued vs)) f
          ∙ ap (λ x. x ∷ (rest ++ all_at (map queued vs))) same
          ∙ ap (λ (l : List T × Bool). job ∷ (l.0 ++ all_at (map queued vs))) (sym left)

  pub none_waits : (old : BoardOf T) (line : List T × Bool) (vs : Queues T) (n : ℕ) (v : Option (VecDeque T Global)) (jobs : List T) → old ≡ view line vs → n < length vs → v ≡ get_or vs n v → v ≡ None
      → waiting_for old n ≡ Some jobs → ⊥
  none_waits old line vs n v jobs e l at is h =
      let seen = ap (λ (b : BoardOf T). waiting_for b n) e ∙ ap list_in (read vs n v l at) ∙ ap queued is in
      nothing seen h
    where
      nothing : waiting_for old n ≡ None → waiting_for old n ≡ Some jobs → ⊥
      nothing a b = cc

  module _ (old : BoardOf T) (line : List T × Bool) (vs : Queues T) (n : ℕ) (v : Option (VecDeque T Global)) (q : VecDeque T Global)
      (seen : old ≡ view line vs) (within : n < length vs) (at : v ≡ get_or vs n v) (is : v ≡ Some q) where
    waiting_is : old.waiting ≡ map queued vs
    waiting_is = ap (λ (b : BoardOf T). b.waiting) seen

    there : slice_get old.waiting n ≡ Some (Some q.items)
    there = ap (λ ws. slice_get ws n) waiting_is ∙ read vs n v within at ∙ ap (λ v. Some (queued v)) is

    found : waiting_for old n ≡ Some q.items
    found = ap list_in there

    pub not_ended : waiting_for old n ≡ None → ⊥
    not_ended e = let h = found in cc

    module _ (w : VecDeque T Global) where
      -- its list changes
      changed : view line (set vs n (Some w)) ≡ record { ready = old.ready; closed = old.closed; waiting = set old.waiting n (Some w.items) }
      changed =
          written line vs n (Some w)
          ∙ ap (λ (b : BoardOf T). record { ready = b.ready; closed = b.closed; waiting = set b.waiting n (Some w.items) }) (sym seen)

      pub changed_same : w.items ≡ q.items → view line (set vs n (Some w)) ≡ old
      changed_same e =
          written line vs n (Some w)
          ∙ ap (λ xs. record { ready = line.0; closed = line.1; waiting = set (map queued vs) n (Some xs) }) e
          ∙ sym (ap (λ v. record { ready = line.0; closed = line.1; waiting = set (map queued vs) n (queued v) }) is)
          ∙ sym (written line vs n v)
          ∙ written_same line vs n v at
          ∙ sym seen

      pub back_same : (after : List T × Bool) → after ≡ line → w.items ≡ q.items → view after (set vs n (Some w)) ≡ old
      back_same after a e = ap (λ l. view l (set vs n (Some w))) a ∙ changed_same e

      pub back_whole : (after : List T × Bool) → after ≡ line → w.items ≡ q.items → IsPermutation (jobs_of (view after (set vs n (Some w)))) (jobs_of old)
      back_whole after a e = subst (λ b. IsPermutation (jobs_of b) (jobs_of old)) (sym (back_same after a e)) (IsPermutation-refl (jobs_of old))

      module _ (job : T) (more : w.items ≡ q.items ++ job ∷ []) where
        pub waits : (jobs : List T) → waiting_for old n ≡ Some jobs → view line (set vs n (Some w)) ≡ record { ready = old.ready; closed = old.closed; waiting = set old.waiting n (Some (jobs ++ job ∷ [])) }
        waits jobs e =
            let h = found in
            let same : q.items ≡ jobs = cc in
            changed ∙ ap (λ xs. record { ready = old.ready; closed = old.closed; waiting = set old.waiting n (Some xs) }) (more ∙ ap (λ xs. xs ++ job ∷ []) same)

        pub waits_whole : IsPermutation (jobs_of (view line (set vs n (Some w)))) (job ∷ jobs_of old)
        waits_whole =
            subst (λ b. IsPermutation (jobs_of b) (job ∷ jobs_of old)) (sym (waits q.items found))
            (one_behind old.ready (all_at (set old.waiting n (Some (q.items ++ job ∷ [])))) (all_at old.waiting) job (wait_more old.waiting n q.items job there))

      module _ (after : List T × Bool) (none : w.items ≡ []) (freed : after ≡ (line.0 ++ q.items, line.1)) (new : BoardOf T)
          (ended : new ≡ record { ready = after.0; closed = after.1; waiting = set (map queued (set vs n (Some w))) n None }) where
        twice : {X : Type 0} (xs : List X) (k : ℕ) (x y : X) → set (set xs k x) k y ≡ set xs k y
        twice [] k x y = refl
        twice (z ∷ xs) zero x y = refl
        twice (z ∷ xs) (suc k) x y = ap (λ ys. z ∷ ys) (twice xs k x y)

        cleared : set (map queued (set vs n (Some w))) n None ≡ set old.waiting n None
        cleared =
            ap (λ ws. set ws n None) (map-set queued vs n (Some w)) ∙ twice (map queued vs) n (Some w.items) None ∙ ap (λ ws. set ws n None) (sym waiting_is)

        new_is : new ≡ record { ready = old.ready ++ q.items; closed = old.closed; waiting = set old.waiting n None }
        new_is =
            ended
            ∙ ap (λ (l : List T × Bool). record { ready = l.0; closed = l.1; waiting = set (map queued (set vs n (Some w))) n None }) freed
            ∙ ap (λ ws. record { ready = line.0 ++ q.items; closed = line.1; waiting = ws }) cleared
            ∙ ap (λ (b : BoardOf T). record { ready = b.ready ++ q.items; closed = b.closed; waiting = set old.waiting n None }) (sym seen)

        pub freed_are : (jobs : List T) → waiting_for old n ≡ Some jobs → new ≡ record { ready = old.ready ++ jobs; closed = old.closed; waiting = set old.waiting n None }
        freed_are jobs e =
            let h = found in
            let same : q.items ≡ jobs = cc in
            new_is ∙ ap (λ xs. record { ready = old.ready ++ xs; closed = old.closed; waiting = set old.waiting n None }) same

        pub freed_whole : IsPermutation (jobs_of new) (jobs_of old)
        freed_whole =
            subst (λ b. IsPermutation (jobs_of b) (jobs_of old)) (sym new_is)
            (subst (λ xs. IsPermutation xs (jobs_of old)) (sym (append_assoc old.ready q.items (all_at (set old.waiting n None))))
            (IsPermutation-append_right old.ready (q.items ++ all_at (set old.waiting n None)) (all_at old.waiting) (wait_none old.waiting n q.items there)))
