-- A history has few events.
use Rattle.std.proofs.Common.{◌≡◌, ◌∙◌, ap, sym, subst, refl, ℕ, zero, suc, ◌+◌, ◌<◌, ◌≤◌, ◌⊎◌, inl, inr, arith, Bool, true, false, cond, nat_eq, List, [], ◌∷◌, ◌++◌, length, length-append, Option, Some, None}
use Rattle.jl_program.specs.declared.tree.Program.{Program}
use Rattle.jl_calculus.specs.declared.history.Event.{Event}
use Rattle.jl_calculus.specs.declared.history.Event.TheVariants as Ev
use Rattle.jl_calculus.specs.declared.history.Record.{Record}
use Rattle.jl_calculus.specs.Legal.{MayCome, MayStand}
use Rattle.jl_calculus.specs.Past.{tasks_of, done_of}
use Rattle.jl_calculus.specs.Ranges.{keys_of, rows_of}
use Rattle.jl_calculus.specs.World.{changed, world_of}
use Rattle.jl_calculus.proofs.GrowthLemmas.{changed_append, keys_append, rows_append}
use Rattle.jl_world.specs.Places.{most_events}
use Rattle.jl_world.proofs.Growth.{tasks_append, tasks_some, done_append, each_grow, differ, agree, agreed}

-- how many of the first n tasks have no Done
abbrev one_open : Option Record → ℕ
one_open None = 1
one_open (Some ended) = 0

abbrev open_below : ℕ → List Event → ℕ
open_below zero es = 0
open_below (suc n) es = one_open (done_of n es) + open_below n es

abbrev one_done : Event → ℕ
one_done (Ev.Begin fuel) = 0
one_done (Ev.Key key) = 0
one_done (Ev.Fill key site first) = 0
one_done (Ev.Def by site) = 0
one_done (Ev.Del by place) = 0
one_done (Ev.Spawn by child start) = 0
one_done (Ev.Done by ended) = 1

-- how many Dones there are
abbrev dones : List Event → ℕ
dones [] = 0
dones (e ∷ es) = one_done e + dones es

dones_append : (es more : List Event) → dones (es ++ more) ≡ dones es + dones more
dones_append [] more = omega arith
dones_append (e ∷ es) more = omega (arith, dones_append es more)

-- a task that has a Done keeps it
done_stays : (t : ℕ) (es more : List Event) (r : Record) → done_of t es ≡ Some r → done_of t (es ++ more) ≡ Some r
done_stays t [] more r h = absurd cc
done_stays t (Ev.Spawn parent child start ∷ es) more r h = done_stays t es more r h
done_stays t (Ev.Begin fuel ∷ es) more r h = done_stays t es more r h
done_stays t (Ev.Key key ∷ es) more r h = done_stays t es more r h
done_stays t (Ev.Fill key site first ∷ es) more r h = done_stays t es more r h
done_stays t (Ev.Def by site ∷ es) more r h = done_stays t es more r h
done_stays t (Ev.Del by place ∷ es) more r h = done_stays t es more r h
done_stays t (Ev.Done by ended ∷ es) more r h = go (nat_eq by t) h (λ k. done_stays t es more r k)
  where
    go : (b : Bool) → cond b (Some ended) (done_of t es) ≡ Some r → (done_of t es ≡ Some r → done_of t (es ++ more) ≡ Some r) → cond b (Some ended) (done_of t (es ++ more)) ≡ Some r
    go true k f = k
    go false k f = f k

open_falls : (t : ℕ) (es more : List Event) → one_open (done_of t (es ++ more)) ≤ one_open (done_of t es)
open_falls t es more = go (done_of t es) refl
  where
    low : (o : Option Record) → one_open o ≤ 1
    low None = omega arith
    low (Some r) = omega arith

    go : (o : Option Record) → done_of t es ≡ o → one_open (done_of t (es ++ more)) ≤ one_open o
    go None e = low (done_of t (es ++ more))
    go (Some r) e = omega (arith, ap one_open (done_stays t es more r e))

all_fall : (n : ℕ) (es more : List Event) → open_below n (es ++ more) ≤ open_below n es
all_fall zero es more = omega arith
all_fall (suc n) es more = omega (arith, open_falls n es more, all_fall n es more)

-- a Done of a running task leaves one less
one_less : (n t : ℕ) (es : List Event) (r : Record) → t < n → done_of t es ≡ None → open_below n (es ++ Ev.Done t r ∷ []) + 1 ≤ open_below n es
one_less zero t es r l h = absurd (omega (arith, l))
one_less (suc n) t es r l h = by_number (nat_eq t n) refl (λ lt. one_less n t es r lt h)
  where
    ended : one_open (done_of t (es ++ Ev.Done t r ∷ [])) ≡ 0
    ended = ap one_open (done_append t es (Ev.Done t r ∷ []) h ∙ ap (λ b. cond b (Some r) None) (agreed t t refl))

    less : (t n : ℕ) → t < suc n → (t ≡ n → ⊥) → t < n
    less t n l d = grind (arith, l, d)

    by_number : (b : Bool) → nat_eq t n ≡ b → (t < n → open_below n (es ++ Ev.Done t r ∷ []) + 1 ≤ open_below n es) → open_below (suc n) (es ++ Ev.Done t r ∷ []) + 1 ≤ open_below (suc n) es
    by_number true q f =
        let e = agree t n q in
        let gone : one_open (done_of n (es ++ Ev.Done t r ∷ [])) ≡ 0 = subst (λ (k : ℕ). one_open (done_of k (es ++ Ev.Done t r ∷ [])) ≡ 0) e ended in
        let there : one_open (done_of n es) ≡ 1 = ap one_open (subst (λ (k : ℕ). done_of k es ≡ None) e h) in
        omega (arith, gone, there, all_fall n es (Ev.Done t r ∷ []))
    by_number false q f = omega (arith, f (less t n l (λ e. absurd (cc (q, agreed t n e)))), open_falls n es (Ev.Done t r ∷ []))

open_first : (n : ℕ) → open_below n [] ≤ n
open_first zero = omega arith
open_first (suc n) = omega (arith, open_first n)

-- what is counted, in all
record IsCounted (es : List Event) : Type 0 where
  all : length es ≤ length (keys_of es) + length (rows_of es) + length (changed es) + tasks_of es + dones es
  keys : length (keys_of es) ≤ 8192
  rows : length (rows_of es) ≤ 16384
  worlds : world_of es ≤ 65535
  tasks : tasks_of es ≤ 4096
  ends : (n : ℕ) → tasks_of es ≤ n → dones es + open_below n es ≤ n

module _ (P : Program) where
  one_more : (past : List Event) (e : Event) → IsCounted past → MayCome P past e → IsCounted (past ++ e ∷ [])
  one_more past e h m = by e m
    where
      longer : (e : Event) → length (past ++ e ∷ []) ≡ length past + 1
      longer e = length-append past (e ∷ [])

      keys_more : (e : Event) → length (keys_of (past ++ e ∷ [])) ≡ length (keys_of past) + length (keys_of (e ∷ []))
      keys_more e = ap length (keys_append past (e ∷ [])) ∙ length-append (keys_of past) (keys_of (e ∷ []))

      rows_more : (e : Event) → length (rows_of (past ++ e ∷ [])) ≡ length (rows_of past) + length (rows_of (e ∷ []))
      rows_more e = ap length (rows_append past (e ∷ [])) ∙ length-append (rows_of past) (rows_of (e ∷ []))

      defined_more : (e : Event) → length (changed (past ++ e ∷ [])) ≡ length (changed past) + length (changed (e ∷ []))
      defined_more e = ap length (changed_append past (e ∷ [])) ∙ length-append (changed past) (changed (e ∷ []))

      -- an event that ends no task
      goes_on : (e : Event) → one_done e ≡ 0 → (n : ℕ) → tasks_of (past ++ e ∷ []) ≤ n → dones (past ++ e ∷ []) + open_below n (past ++ e ∷ []) ≤ n
      goes_on e z n l = omega (arith, z, h.ends n (omega (arith, l, tasks_append past (e ∷ []), tasks_some (e ∷ []))), dones_append past (e ∷ []), all_fall n past (e ∷ []))

      by : (e : Event) → MayCome P past e → IsCounted (past ++ e ∷ [])
      by (Ev.Begin fuel) m =
          let z : past ≡ [] = m.nothing_before in
          subst (λ xs. IsCounted (xs ++ Ev.Begin fuel ∷ [])) (sym z) (record {
            all = omega arith;
            keys = omega arith;
            rows = omega arith;
            worlds = omega arith;
            tasks = omega arith;
            ends = λ n l. omega (arith, all_fall n [] (Ev.Begin fuel ∷ []), open_first n);
          })
      by (Ev.Key key) m =
          let e : Event = Ev.Key key in
          record {
            all = omega (arith, h.all, longer e, keys_more e, rows_more e, defined_more e, tasks_append past (e ∷ []), dones_append past (e ∷ []));
            keys = omega (arith, keys_more e, m.room);
            rows = omega (arith, rows_more e, h.rows);
            worlds = omega (arith, defined_more e, h.worlds);
            tasks = omega (arith, tasks_append past (e ∷ []), h.tasks);
            ends = goes_on e refl;
          }
      by (Ev.Fill key site first) m =
          let e : Event = Ev.Fill key site first in
          record {
            all = omega (arith, h.all, longer e, keys_more e, rows_more e, defined_more e, tasks_append past (e ∷ []), dones_append past (e ∷ []));
            keys = omega (arith, keys_more e, h.keys);
            rows = omega (arith, rows_more e, m.room);
            worlds = omega (arith, defined_more e, h.worlds);
            tasks = omega (arith, tasks_append past (e ∷ []), h.tasks);
            ends = goes_on e refl;
          }
      by (Ev.Def task site) m =
          let e : Event = Ev.Def task site in
          record {
            all = omega (arith, h.all, longer e, keys_more e, rows_more e, defined_more e, tasks_append past (e ∷ []), dones_append past (e ∷ []));
            keys = omega (arith, keys_more e, h.keys);
            rows = omega (arith, rows_more e, h.rows);
            worlds = omega (arith, defined_more e, m.room);
            tasks = omega (arith, tasks_append past (e ∷ []), h.tasks);
            ends = goes_on e refl;
          }
      by (Ev.Del task place) m =
          let e : Event = Ev.Del task place in
          record {
            all = omega (arith, h.all, longer e, keys_more e, rows_more e, defined_more e, tasks_append past (e ∷ []), dones_append past (e ∷ []));
            keys = omega (arith, keys_more e, h.keys);
            rows = omega (arith, rows_more e, h.rows);
            worlds = omega (arith, defined_more e, m.room);
            tasks = omega (arith, tasks_append past (e ∷ []), h.tasks);
            ends = goes_on e refl;
          }
      by (Ev.Spawn task child start) m =
          let e : Event = Ev.Spawn task child start in
          record {
            all = omega (arith, h.all, longer e, keys_more e, rows_more e, defined_more e, tasks_append past (e ∷ []), dones_append past (e ∷ []));
            keys = omega (arith, keys_more e, h.keys);
            rows = omega (arith, rows_more e, h.rows);
            worlds = omega (arith, defined_more e, h.worlds);
            tasks = omega (arith, tasks_append past (e ∷ []), m.room);
            ends = goes_on e refl;
          }
      by (Ev.Done task ended) m =
          let e : Event = Ev.Done task ended in
          record {
            all = omega (arith, h.all, longer e, keys_more e, rows_more e, defined_more e, tasks_append past (e ∷ []), dones_append past (e ∷ []));
            keys = omega (arith, keys_more e, h.keys);
            rows = omega (arith, rows_more e, h.rows);
            worlds = omega (arith, defined_more e, h.worlds);
            tasks = omega (arith, tasks_append past (e ∷ []), h.tasks);
            ends = λ n l.
                let low : tasks_of past ≤ n = omega (arith, l, tasks_append past (e ∷ [])) in
                omega (arith, h.ends n low, dones_append past (e ∷ []), one_less n task past ended (omega (arith, m.started, low)) m.going);
          }

  counted : (es : List Event) → MayStand P es → IsCounted es
  counted es h = each_grow P IsCounted one_more [] es (record {
    all = omega arith;
    keys = omega arith;
    rows = omega arith;
    worlds = omega arith;
    tasks = omega arith;
    ends = λ n l. omega (arith, open_first n);
  }) h.come

  pub few_events : (es : List Event) → MayStand P es → length es ≤ most_events
  few_events es h =
      let c = counted es h in
      omega (arith, c.all, c.keys, c.rows, c.worlds, c.tasks, c.ends (tasks_of es) (omega arith))

  pub few_worlds : (es : List Event) → MayStand P es → world_of es ≤ 65535
  few_worlds es h = (counted es h).worlds
