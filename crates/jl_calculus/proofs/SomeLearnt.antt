-- What a task may have learnt of a history with two keys and two rows, and what it may not.
use Rattle.std.proofs.Common.{◌≡◌, refl, ap, sym, subst, ℕ, zero, suc, ◌<◌, ◌≤◌, inl, inr, Bool, true, false, true≢false, take, arith, Option, Some, None}
use Rattle.std.specs.List.{Contains}
use Rattle.jl_model.specs.declared.ty.Key.{Key}
use Rattle.jl_program.specs.Scope.{types_of}
use Rattle.jl_program.specs.declared.choice.Choice.TheVariants as C
use Rattle.jl_program.proofs.FirstChoices.{only_choice}
use Rattle.jl_calculus.specs.declared.history.TraceItem.TheVariants.{Look, Spawn}
use Rattle.jl_calculus.specs.Kept.{Places, IsInCache}
use Rattle.jl_calculus.specs.Learnt.{Learnt, traced, named, answered, chosen, uncovered, kept, IsLearntOf, IsNamed}
use Rattle.jl_calculus.specs.Ranges.{CacheRow, rows_of, Touches, Covers, IsCovered}
use Rattle.jl_calculus.proofs.TaskHistories.{Late, key, start, no_types, no_arguments, late_9}
use Rattle.jl_calculus.proofs.TaskRuns.{method, latest_chosen}
use Rattle.jl_calculus.proofs.SelectLemmas.{selects_plain}

abbrev Knows : Learnt → Type 0
Knows i = IsLearntOf Late late_9 0 i

abbrev room : Places
room = record { keys = 8192; rows = 16384 }

abbrev row_f : CacheRow
row_f = record { key = 1; site = 14; first = 15 }

abbrev row_late : CacheRow
row_late = record { key = 0; site = 15; first = 16 }

looked : Knows (traced (Look 16 4))
looked = (omega arith, refl)

spawned : Knows (traced (Spawn 1 3))
spawned = (start 16, refl)

-- the number of a key, once its event is among those that are told of
is_named : Knows (named 0 (key 13) 6)
is_named = (omega arith, refl)

abbrev is_there : Option Key → Bool
is_there None = false
is_there (Some k) = true

not_named_yet : Knows (named 0 (key 13) 5) → ⊥
not_named_yet (l, e) = true≢false (sym (ap is_there e))

abbrev key_or : Option Key → Key
key_or None = key 0
key_or (Some k) = k

not_of_other : Knows (named 0 (key 12) 6) → ⊥
not_of_other (l, e) = absurd (omega (arith, ap (λ (k : Key). k.function) (ap key_or e)))

-- no item speaks of more events than there are
not_so_many : Knows (named 0 (key 13) 11) → ⊥
not_so_many (l, e) = absurd (omega (arith, l))

-- the choice in an old world
is_answered : Knows (answered 12 no_types 16 (C.Method 15) 10)
is_answered = (omega arith, omega arith, selects_plain Late refl (take 10 late_9) 12 no_types 16 (C.Method 15) (only_choice (types_of Late) (method (types_of Late) 15) no_types (no_arguments (types_of Late))))

-- a world that is not there has none
not_answered : Knows (answered 12 no_types 18 (C.Method 15) 10) → ⊥
not_answered (l, w, h) = absurd (omega (arith, w))

-- ---- rows

no_touch : (d : ℕ) → 15 < d → d ≤ 16 → Touches Late (take 10 late_9) d (key 12) → ⊥
no_touch d low high t = let e : d ≡ 16 = omega (arith, low, high) in absurd (omega (arith, (subst (λ (n : ℕ). Touches Late (take 10 late_9) n (key 12)) e t).0))

covers_16 : IsCovered Late (take 10 late_9) 1 (key 12) 16
covers_16 = (row_f, record { stands = (1, omega arith, refl); of_key = refl; covers = record { begun = omega arith; going = no_touch } })

is_chosen : Knows (chosen 1 16 14 10)
is_chosen = (
  omega arith,
  record {
    known = omega arith;
    key = key 12;
    named = refl;
    covered = covers_16;
    choice = (15, selects_plain Late refl (take 10 late_9) 12 no_types 16 (C.Method 15) (only_choice (types_of Late) (method (types_of Late) 15) no_types (no_arguments (types_of Late))), refl);
  },
)

-- no row of `f` covers world 17: the second definition ended the one that there is
none_covers_17 : (number : ℕ) → 1 ≡ number → IsCovered Late (take 10 late_9) number (key 12) 17 → ⊥
none_covers_17 number e (row, h) = by row h.stands h.of_key h.covers
  where
    second : Touches Late (take 10 late_9) 17 (key 12)
    second = (refl, no_arguments (types_of Late))

    by : (row : CacheRow) → Contains (rows_of (take 10 late_9)) row → row.key ≡ number → Covers Late (take 10 late_9) (key 12) row.first 17 → ⊥
    by row (zero, l, q) k c = absurd (omega (arith, e, k, ap (λ (r : CacheRow). r.key) q))
    by row (suc zero, l, q) k c = c.going 17 (omega (arith, ap (λ (r : CacheRow). r.first) q)) (omega arith) second
    by row (suc (suc n), l, q) k c = absurd (omega (arith, l))

is_uncovered : Knows (uncovered 1 17 10)
is_uncovered = (omega arith, λ k e h. none_covers_17 1 refl (subst (λ (x : Key). IsCovered Late (take 10 late_9) 1 x 17) (sym (ap key_or e)) h))

not_uncovered : Knows (uncovered 1 16 10) → ⊥
not_uncovered (l, h) = h (key 12) refl covers_16

-- ---- what is kept

is_kept : Knows (kept 12 no_types 16 room 10)
is_kept = (omega arith, (omega arith, inr (inr (1, key 12, refl, refl, refl, λ d s. covers_16))))

-- a call of `f` in world 17 is not
not_in_cache : IsInCache Late (take 10 late_9) 12 no_types 17 → ⊥
not_in_cache (number, k, e, f, ts, rows) = by number k e f (rows 17 (selects_plain Late refl (take 10 late_9) 12 no_types 17 (C.Method 17) (latest_chosen (types_of Late))))
  where
    by : (number : ℕ) (k : Key) → IsNamed (take 10 late_9) number k → k.function ≡ 12 → IsCovered Late (take 10 late_9) number k 17 → ⊥
    by zero k e f h = absurd (omega (arith, f, ap (λ (x : Key). x.function) (ap key_or e)))
    by (suc zero) k e f h = none_covers_17 1 refl (subst (λ (x : Key). IsCovered Late (take 10 late_9) 1 x 17) (sym (ap key_or e)) h)
    by (suc (suc n)) k e f h = true≢false (sym (ap is_there e))

not_kept : Knows (kept 12 no_types 17 room 10) → ⊥
not_kept (l, (w, inl full)) = absurd (omega (arith, full))
not_kept (l, (w, inr (inl full))) = absurd (omega (arith, full))
not_kept (l, (w, inr (inr h))) = not_in_cache h

-- unless there is no room: two keys fill two places
kept_without_room : Knows (kept 12 no_types 17 (record { keys = 2; rows = 16384 }) 10)
kept_without_room = (omega arith, (omega arith, inl (omega arith)))
