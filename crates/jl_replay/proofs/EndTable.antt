-- The table of the ends of the tasks.
use Rattle.std.proofs.Common.{◌≡◌, ◌∙◌, ap, sym, subst, refl, ℕ, zero, suc, ◌+◌, ◌-◌, ◌<◌, ◌≤◌, arith, Bool, true, false, cond, nat_eq, List, [], ◌∷◌, length, drop, slice_get, get_or, set, Some}
use Rattle.std.proofs.lemmas.List.{get_or-set_same, get_or-set_other}
use Rattle.jl_model.specs.declared.limits.TheConstants.{MOST_TASKS}
use Rattle.jl_report.specs.declared.entry.Entry.{Entry}
use Rattle.jl_report.specs.declared.entry.Entry.TheVariants as E
use Rattle.jl_causes.specs.Causes.{StartWell}
use Rattle.jl_replay.specs.Told.{trace_told, trace_at, with_end}
use Rattle.jl_replay.specs.Following.{AreEnds}
use Rattle.jl_replay.proofs.Cuts.{set_length}

-- the table tells the first ends among the last entries
pub record AreLastEnds (all rest : List Entry) (ends : List ℕ) : Type 0 where
  pub many : length ends ≡ MOST_TASKS
  pub at : (task : ℕ) → task < MOST_TASKS → trace_at (slice_get all (get_or ends task 0)) ≡ trace_told task rest

no_trace : (all : List Entry) → StartWell all → trace_at (slice_get all 0) ≡ []
no_trace [] w = absurd w
no_trace (E.Begin fuel ∷ xs) w = refl
no_trace (E.Key number function tuple ∷ xs) w = absurd w
no_trace (E.Fill key site first ∷ xs) w = absurd w
no_trace (E.Def by site ∷ xs) w = absurd w
no_trace (E.Del by place ∷ xs) w = absurd w
no_trace (E.Spawn by child place ∷ xs) w = absurd w
no_trace (E.Done by calls trace output ending ∷ xs) w = absurd w

pub none_yet : (all : List Entry) (ends : List ℕ) (n : ℕ) → StartWell all → drop n all ≡ [] → length ends ≡ MOST_TASKS → ((task : ℕ) → get_or ends task 0 ≡ 0) → AreLastEnds all (drop n all) ends
none_yet all ends n w nothing many zeros =
    record { many = many; at = λ task l. ap (λ k. trace_at (slice_get all k)) (zeros task) ∙ no_trace all w ∙ sym (ap (trace_told task) nothing) }

next : {X : Type 0} (xs : List X) (n : ℕ) (x : X) → slice_get xs n ≡ Some x → drop n xs ≡ x ∷ drop (n + 1) xs
next [] zero x g = absurd (cc g)
next [] (suc n) x g = absurd (cc g)
next (y ∷ xs) zero x g = let e : y ≡ x = cc g in ap (λ z. z ∷ xs) e
next (y ∷ xs) (suc n) x g =
    let e : suc (n + 1) ≡ suc n + 1 = omega arith in
    next xs n x g ∙ ap (λ k. x ∷ drop k (y ∷ xs)) e

one_more : (all rest : List Entry) (ends : List ℕ) (n : ℕ) (x : Entry) → slice_get all n ≡ Some x → AreLastEnds all rest ends → AreLastEnds all (x ∷ rest) (with_end x n ends)
one_more all rest ends n (E.Begin fuel) g h = record { many = h.many; at = h.at }
one_more all rest ends n (E.Key number function tuple) g h = record { many = h.many; at = h.at }
one_more all rest ends n (E.Fill key site first) g h = record { many = h.many; at = h.at }
one_more all rest ends n (E.Def by site) g h = record { many = h.many; at = h.at }
one_more all rest ends n (E.Del by place) g h = record { many = h.many; at = h.at }
one_more all rest ends n (E.Spawn by child place) g h = record { many = h.many; at = h.at }
one_more all rest ends n (E.Done by calls trace output ending) g h =
    record { many = set_length ends by n ∙ h.many; at = λ task l. go task l (nat_eq by task) refl }
  where
    go : (task : ℕ) → task < MOST_TASKS → (b : Bool) → nat_eq by task ≡ b → trace_at (slice_get all (get_or (set ends by n) task 0)) ≡ cond (nat_eq by task) trace (trace_told task rest)
    go task l true q =
        let same : by ≡ task = grind (arith, q) in
        let here : get_or (set ends by n) task 0 ≡ n = ap (λ t. get_or (set ends by n) t 0) (sym same) ∙ get_or-set_same ends by n 0 (omega (arith, l, same, h.many)) in
        ap (λ k. trace_at (slice_get all k)) here ∙ ap trace_at g ∙ sym (ap (λ b. cond b trace (trace_told task rest)) q)
    go task l false q =
        let there : get_or (set ends by n) task 0 ≡ get_or ends task 0 = get_or-set_other ends by task n 0 (λ e. other (sym e)) in
        ap (λ k. trace_at (slice_get all k)) there ∙ h.at task l ∙ sym (ap (λ b. cond b trace (trace_told task rest)) q)
      where
        other : by ≡ task → ⊥
        other = grind (arith, q)

pub noted : (all : List Entry) (ends : List ℕ) (n : ℕ) (x : Entry) → slice_get all n ≡ Some x → AreLastEnds all (drop (n + 1) all) ends → AreLastEnds all (drop n all) (with_end x n ends)
noted all ends n x g h = subst (λ ys. AreLastEnds all ys (with_end x n ends)) (sym (next all n x g)) (one_more all (drop (n + 1) all) ends n x g h)

pub whole_table : (all : List Entry) (ends : List ℕ) → AreLastEnds all all ends → AreEnds all ends
whole_table all ends h = record { many = h.many; at = h.at }

got : {X : Type 0} (xs : List X) (i : ℕ) (x : X) → i < length xs → x ≡ get_or xs i x → slice_get xs i ≡ Some x
got [] i x l e = absurd (omega (arith, l))
got (y ∷ xs) zero x l e = ap Some (sym e)
got (y ∷ xs) (suc i) x l e = got xs i x (omega (arith, l)) e

-- one entry before those that were passed
pub passed : (all : List Entry) (ends new : List ℕ) (n : ℕ) (x : Entry) → 0 < n → n ≤ length all → x ≡ get_or all (n - 1) x → AreLastEnds all (drop n all) ends → new ≡ with_end x (n - 1) ends → AreLastEnds all (drop (n - 1) all) new
passed all ends new n x some l at h is =
    let e : n ≡ n - 1 + 1 = omega (arith, some) in
    subst (AreLastEnds all (drop (n - 1) all)) (sym is)
    (noted all ends (n - 1) x (got all (n - 1) x (omega (arith, some, l)) at) (subst (λ k. AreLastEnds all (drop k all) ends) e h))
