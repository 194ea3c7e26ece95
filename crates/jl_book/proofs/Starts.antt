-- A task starts once, so what is known of its start stays.
use Rattle.std.proofs.Common.{◌≡◌, ◌∙◌, ap, sym, subst, refl, ℕ, zero, suc, ◌+◌, ◌<◌, ◌≤◌, inl, inr, arith, Bool, true, false, cond, nat_eq, List, [], ◌∷◌, ◌++◌, append_assoc, append-nil, length, Option, Some, None, IsSome}
use Rattle.jl_program.specs.declared.tree.Program.{Program}
use Rattle.jl_program.specs.declared.tree.Start.{Start}
use Rattle.jl_program.specs.Valid.{IsValid}
use Rattle.jl_calculus.specs.declared.history.Event.{Event}
use Rattle.jl_calculus.specs.declared.history.Event.TheVariants as Ev
use Rattle.jl_calculus.specs.Legal.{fuel_of, start_of, first_place, MayCome, MayStand}
use Rattle.jl_calculus.specs.Past.{tasks_of}
use Rattle.jl_world.specs.declared.about.About.{About}
use Rattle.jl_world.specs.declared.view.TaskView.{TaskView}
use Rattle.jl_world.specs.Rule.{IsHistory, first_events}
use Rattle.jl_world.specs.Views.{Begins, begun, looked, met, noted, number_or_zero}
use Rattle.jl_world.proofs.Growth.{agree, agreed, differ, each_grow, fuel_append, start_later, tasks_append, tasks_some, unstarted}
use Rattle.jl_book.specs.Passes.{first_of, HasStarted, IsPass}

-- a task whose start is found keeps it
pub start_stays : (t : ℕ) (es more : List Event) (s : Start) → start_of t es ≡ Some s → start_of t (es ++ more) ≡ Some s
start_stays t [] more s h = absurd cc
start_stays t (Ev.Begin fuel ∷ es) more s h = start_stays t es more s h
start_stays t (Ev.Key key ∷ es) more s h = start_stays t es more s h
start_stays t (Ev.Fill key site first ∷ es) more s h = start_stays t es more s h
start_stays t (Ev.Def by site ∷ es) more s h = start_stays t es more s h
start_stays t (Ev.Del by place ∷ es) more s h = start_stays t es more s h
start_stays t (Ev.Done by ended ∷ es) more s h = start_stays t es more s h
start_stays t (Ev.Spawn parent child start ∷ es) more s h = go (nat_eq child t) h (λ k. start_stays t es more s k)
  where
    go : (b : Bool) → cond b (Some start) (start_of t es) ≡ Some s → (start_of t es ≡ Some s → start_of t (es ++ more) ≡ Some s) → cond b (Some start) (start_of t (es ++ more)) ≡ Some s
    go true k r = k
    go false k r = r k

-- and the least place of its trace
pub place_stays : (t p : ℕ) (es more : List Event) (s : Start) → start_of t es ≡ Some s → first_place t p (es ++ more) ≡ first_place t p es
place_stays t p [] more s h = absurd cc
place_stays t p (Ev.Begin fuel ∷ es) more s h = place_stays t (p + 1) es more s h
place_stays t p (Ev.Key key ∷ es) more s h = place_stays t (p + 1) es more s h
place_stays t p (Ev.Fill key site first ∷ es) more s h = place_stays t (p + 1) es more s h
place_stays t p (Ev.Def by site ∷ es) more s h = place_stays t (p + 1) es more s h
place_stays t p (Ev.Del by place ∷ es) more s h = place_stays t (p + 1) es more s h
place_stays t p (Ev.Done by ended ∷ es) more s h = place_stays t (p + 1) es more s h
place_stays t p (Ev.Spawn parent child start ∷ es) more s h = go (nat_eq child t) h (λ k. place_stays t (p + 1) es more s k)
  where
    go : (b : Bool) → cond b (Some start) (start_of t es) ≡ Some s → (start_of t es ≡ Some s → first_place t (p + 1) (es ++ more) ≡ first_place t (p + 1) es) → cond b (p + 1) (first_place t (p + 1) (es ++ more)) ≡ cond b (p + 1) (first_place t (p + 1) es)
    go true k r = refl
    go false k r = r k

-- where a task has no start its trace may begin at 1
pub place_none : (t p : ℕ) (es : List Event) → start_of t es ≡ None → first_place t p es ≡ 1
place_none t p [] h = refl
place_none t p (Ev.Begin fuel ∷ es) h = place_none t (p + 1) es h
place_none t p (Ev.Key key ∷ es) h = place_none t (p + 1) es h
place_none t p (Ev.Fill key site first ∷ es) h = place_none t (p + 1) es h
place_none t p (Ev.Def by site ∷ es) h = place_none t (p + 1) es h
place_none t p (Ev.Del by place ∷ es) h = place_none t (p + 1) es h
place_none t p (Ev.Done by ended ∷ es) h = place_none t (p + 1) es h
place_none t p (Ev.Spawn parent child start ∷ es) h = go (nat_eq child t) h (λ k. place_none t (p + 1) es k)
  where
    go : (b : Bool) → cond b (Some start) (start_of t es) ≡ None → (start_of t es ≡ None → first_place t (p + 1) es ≡ 1) → cond b (p + 1) (first_place t (p + 1) es) ≡ 1
    go true k r = absurd cc
    go false k r = r k

-- ---- the root has no start, and every other task has one

abbrev pub HasStarts : List Event → Type 0
HasStarts es = (start_of 0 es ≡ None) × ((t : ℕ) → t < tasks_of es → (t ≡ 0 → ⊥) → IsSome (start_of t es))

is_some : (o : Option Start) (s : Start) → o ≡ Some s → IsSome o
is_some o s e = subst IsSome (sym e) refl

some_is : (o : Option Start) → IsSome o → (s : Start) × (o ≡ Some s)
some_is None h = absurd cc
some_is (Some s) h = (s, refl)

-- an event that starts no task
starts_kept : (past : List Event) (e : Event) → ((t : ℕ) → start_of t (e ∷ []) ≡ None) → tasks_of (e ∷ []) ≡ 1 → HasStarts past → HasStarts (past ++ e ∷ [])
starts_kept past e none one (root, others) = (
  start_later 0 past (e ∷ []) root ∙ none 0,
  λ t l d. let s = some_is (start_of t past) (others t (omega (arith, l, one, tasks_append past (e ∷ []))) d) in is_some (start_of t (past ++ e ∷ [])) s.0 (start_stays t past (e ∷ []) s.0 s.1),
)

module _ (P : Program) where
  starts_more : (past : List Event) (e : Event) → HasStarts past → MayCome P past e → HasStarts (past ++ e ∷ [])
  starts_more past (Ev.Begin fuel) h m = starts_kept past (Ev.Begin fuel) (λ t. refl) refl h
  starts_more past (Ev.Key key) h m = starts_kept past (Ev.Key key) (λ t. refl) refl h
  starts_more past (Ev.Fill n s f) h m = starts_kept past (Ev.Fill n s f) (λ t. refl) refl h
  starts_more past (Ev.Def t s) h m = starts_kept past (Ev.Def t s) (λ t. refl) refl h
  starts_more past (Ev.Del t place) h m = starts_kept past (Ev.Del t place) (λ t. refl) refl h
  starts_more past (Ev.Done t r) h m = starts_kept past (Ev.Done t r) (λ t. refl) refl h
  starts_more past (Ev.Spawn by child start) h m = (
    start_later 0 past (e ∷ []) h.0 ∙ ap (λ b. cond b (Some start) None) (differ child 0 (λ z. omega (arith, z, m.next, tasks_some past))),
    λ t l d. one t l d (nat_eq child t) refl,
  )
    where
      e : Event
      e = Ev.Spawn by child start

      new : (t : ℕ) → nat_eq child t ≡ true → start_of t (e ∷ []) ≡ Some start
      new t q = ap (λ b. cond b (Some start) None) q

      either : (t : ℕ) (o : Option Start) → start_of t past ≡ o → nat_eq child t ≡ true → IsSome (start_of t (past ++ e ∷ []))
      either t None is q = is_some (start_of t (past ++ e ∷ [])) start (start_later t past (e ∷ []) is ∙ new t q)
      either t (Some s) is q = is_some (start_of t (past ++ e ∷ [])) s (start_stays t past (e ∷ []) s is)

      below : (t : ℕ) → t < tasks_of (past ++ e ∷ []) → nat_eq child t ≡ false → t < tasks_of past
      below t l q = last t (λ same. absurd (cc (q, agreed child t same))) (omega (arith, l, tasks_append past (e ∷ [])))
        where
          last : (t : ℕ) → (child ≡ t → ⊥) → t ≤ tasks_of past → t < tasks_of past
          last t d le = grind (arith, m.next, d, le)

      one : (t : ℕ) → t < tasks_of (past ++ e ∷ []) → (t ≡ 0 → ⊥) → (b : Bool) → nat_eq child t ≡ b → IsSome (start_of t (past ++ e ∷ []))
      one t l d true q = either t (start_of t past) refl q
      one t l d false q = let s = some_is (start_of t past) (h.1 t (below t l q) d) in is_some (start_of t (past ++ e ∷ [])) s.0 (start_stays t past (e ∷ []) s.0 s.1)

  pub has_starts : (es : List Event) → MayStand P es → HasStarts es
  has_starts es h = each_grow P HasStarts starts_more [] es (refl, λ t l d. absurd (none t d l)) h.come
    where
      none : (t : ℕ) → (t ≡ 0 → ⊥) → t < 1 → ⊥
      none zero d l = d refl
      none (suc t) d l = omega (arith, l)

  -- the least place of a task's trace, of all events
  pub first_is : (es : List Event) (t : ℕ) → MayStand P es → first_of t es ≡ first_place t 0 es
  first_is es t h = by (nat_eq t 0) refl
    where
      by : (b : Bool) → nat_eq t 0 ≡ b → cond b 1 (first_place t 0 es) ≡ first_place t 0 es
      by true q = let z = agree t 0 q in sym (place_none t 0 es (subst (λ (k : ℕ). start_of k es ≡ None) (sym z) (has_starts es h).0))
      by false q = refl

  -- a running task has started among the events, as its view tells
  pub task_started : (es : List Event) (t : ℕ) (start : Option Start) → MayStand P es → t < tasks_of es → start ≡ start_of t es → HasStarted es t start
  task_started es t start h l is = by (nat_eq t 0) refl
    where
      root : (t : ℕ) → t ≡ 0 → start_of t es ≡ None
      root t z = subst (λ (k : ℕ). start_of k es ≡ None) (sym z) (has_starts es h).0

      by : (b : Bool) → nat_eq t 0 ≡ b → HasStarted es t start
      by true q = let z = agree t 0 q in inl (z, is ∙ root t z)
      by false q =
          let d : t ≡ 0 → ⊥ = λ z. absurd (cc (q, agreed t 0 z)) in
          let s = some_is (start_of t es) ((has_starts es h).1 t l d) in
          inr (record { child = d; from = s.0; is = is ∙ s.1; stands = s.1 })

-- ---- passes

-- what has started among events has started among more
pub started_stays : (xs ys : List Event) (t : ℕ) (start : Option Start) → Begins xs ys → HasStarted xs t start → HasStarted ys t start
started_stays xs ys t start b (inl h) = inl h
started_stays xs ys t start b (inr h) = inr (record { child = h.child; from = h.from; is = h.is; stands = ap (start_of t) b.1 ∙ start_stays t xs b.0 h.from h.stands })

-- and its trace begins where it did
pub first_stays : (xs ys : List Event) (t : ℕ) (start : Option Start) → Begins xs ys → HasStarted xs t start → first_of t ys ≡ first_of t xs
first_stays xs ys t start b (inl (z, none)) = ap (λ k. cond k 1 (first_place t 0 ys)) (agreed t 0 z) ∙ sym (ap (λ k. cond k 1 (first_place t 0 xs)) (agreed t 0 z))
first_stays xs ys t start b (inr h) = ap (λ n. cond (nat_eq t 0) 1 n) (ap (first_place t 0) b.1 ∙ place_stays t 0 xs b.0 h.from h.stands)

some_fuel : (o : Option ℕ) (n : ℕ) → o ≡ Some n → IsSome o
some_fuel o n e = subst IsSome (sym e) refl

pub fuel_stays : (xs ys : List Event) (n : ℕ) → Begins xs ys → fuel_of xs ≡ Some n → fuel_of ys ≡ Some n
fuel_stays xs ys n b h = ap fuel_of b.1 ∙ fuel_append xs b.0 (some_fuel (fuel_of xs) n h) ∙ h

module _ (about : About) (t : ℕ) (v : TaskView) (h : IsPass about t v) where
  -- a pass that has seen more
  pub pass_met : (es : List Event) → Begins v.seen es → IsPass about t (met es v)
  pass_met es b = record { valid = h.valid; task = h.task; fuel = h.fuel; begun = fuel_stays v.seen es about.fuel b h.begun; started = started_stays v.seen es t v.start b h.started }

  pub pass_looked : (es : List Event) → Begins v.seen es → IsPass about t (looked es v)
  pass_looked es b = record { valid = h.valid; task = h.task; fuel = h.fuel; begun = fuel_stays v.seen es about.fuel b h.begun; started = started_stays v.seen es t v.start b h.started }

  -- and made one event
  pub pass_noted : (p : ℕ) (e : Event) (es : List Event) → Begins v.seen es → IsPass about t (met es (noted p e v))
  pass_noted p e es b = record { valid = h.valid; task = h.task; fuel = h.fuel; begun = fuel_stays v.seen es about.fuel b h.begun; started = started_stays v.seen es t v.start b h.started }

-- the pass of the root
pub root_pass : (about : About) → IsValid about.program.value → IsPass about 0 (begun 0 None (first_events about))
root_pass about valid = record { valid = valid; task = refl; fuel = refl; begun = refl; started = inl (refl, refl) }

number_is : (o : Option ℕ) (n : ℕ) → o ≡ Some n → number_or_zero o ≡ n
number_is o n e = ap number_or_zero e

-- the pass of a task that was just spawned
pub child_pass : (about : About) → IsValid about.program.value → (es : List Event) (task child : ℕ) (start : Start) → IsHistory about es → IsHistory about (es ++ Ev.Spawn task child start ∷ []) → child ≡ tasks_of es
    → IsPass about child (begun child (Some start) (es ++ Ev.Spawn task child start ∷ []))
child_pass about valid es task child start h k is =
    let P = about.program.value in
    let e : Event = Ev.Spawn task child start in
    let u = unstarted P es h.stand child (omega (arith, is)) in
    record {
      valid = valid;
      task = refl;
      fuel = number_is (fuel_of (es ++ e ∷ [])) about.fuel k.fuel;
      begun = k.fuel;
      started = inr (record {
        child = λ z. omega (arith, z, is, tasks_some es);
        from = start;
        is = refl;
        stands = start_later child es (e ∷ []) u.start ∙ ap (λ b. cond b (Some start) None) (agreed child child refl);
      });
    }

-- the pass of a task that met the book
pub met_pass : (about : About) (es : List Event) (t : ℕ) (v v1 : TaskView) → IsPass about t v → Begins v.seen es → v1 ≡ met es v → IsPass about t v1
met_pass about es t v v1 h b is = subst (IsPass about t) (sym is) (pass_met about t v h es b)

-- the pass of a task that made an event
pub made_pass : (about : About) (es : List Event) (e : Event) (t : ℕ) (v v1 : TaskView) → IsPass about t v → Begins v.seen es → v1 ≡ met (es ++ e ∷ []) (noted (length es) e v) → IsPass about t v1
made_pass about es e t v v1 h b is =
    let begins : Begins v.seen (es ++ e ∷ []) = (b.0 ++ e ∷ [], ap (λ xs. xs ++ e ∷ []) b.1 ∙ append_assoc v.seen b.0 (e ∷ [])) in
    subst (IsPass about t) (sym is) (pass_noted about t v h (length es) e (es ++ e ∷ []) begins)

-- the pass of a task that met the book and then made an event
pub noted_pass : (about : About) (es es1 : List Event) (e : Event) (t : ℕ) (v v1 v2 : TaskView) → IsPass about t v → Begins v.seen es → es1 ≡ es → v1 ≡ met es v → v2 ≡ met (es1 ++ e ∷ []) (noted (length es1) e v1) → IsPass about t v2
noted_pass about es es1 e t v v1 v2 h b same first second =
    let begins : Begins v1.seen es1 = ([], same ∙ sym (ap (λ (v : TaskView). v.seen) first) ∙ sym (append-nil v1.seen)) in
    made_pass about es1 e t v1 v2 (met_pass about es t v v1 h b first) begins second
