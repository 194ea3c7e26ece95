-- Each definition, each deletion and each spawn is one task's own.
use Rattle.std.proofs.Common.{◌≡◌, ◌∙◌, ap, sym, subst, refl, ℕ, zero, suc, ◌+◌, ◌<◌, ◌≤◌, arith, Bool, true, false, cond, nat_eq, List, [], ◌∷◌, ◌++◌, length, length-append, Option, Some, None, IsSome}
use Rattle.jl_program.specs.declared.tree.Program.{Program}
use Rattle.jl_calculus.specs.declared.history.Event.{Event}
use Rattle.jl_calculus.specs.declared.history.Event.TheVariants as Ev
use Rattle.jl_calculus.specs.declared.history.Record.{Record}
use Rattle.jl_calculus.specs.declared.history.TraceItem.{TraceItem}
use Rattle.jl_calculus.specs.declared.history.TraceItem.TheVariants.{Def, Del, Spawn}
use Rattle.jl_calculus.specs.Legal.{AreFinished, MayCome, MayStand}
use Rattle.jl_calculus.specs.Past.{tasks_of, done_of, own_events}
use Rattle.jl_world.proofs.Growth.{tasks_append, tasks_some, own_append, each_grow, agree}
use Rattle.jl_world.specs.declared.about.About.{About}
use Rattle.jl_book.specs.Books.{IsBook}
use Rattle.jl_book.specs.Tasks.{one_made, made_in, share_of, if_ended, shares_below, gathered_in, unfinished_of}
use Rattle.jl_book.proofs.Counting.{none_counts}

abbrev sum_below : (ℕ → ℕ) → ℕ → ℕ
sum_below f zero = 0
sum_below f (suc n) = f n + sum_below f n

sum_add : (f g h : ℕ → ℕ) → ((t : ℕ) → f t ≡ g t + h t) → (n : ℕ) → sum_below f n ≡ sum_below g n + sum_below h n
sum_add f g h e zero = omega arith
sum_add f g h e (suc n) = omega (arith, e n, sum_add f g h e n)

sum_none : (h : ℕ → ℕ) → ((t : ℕ) → h t ≡ 0) → (n : ℕ) → sum_below h n ≡ 0
sum_none h e zero = refl
sum_none h e (suc n) = omega (arith, e n, sum_none h e n)

module _ (by : ℕ) (i : TraceItem) where
  abbrev is_by : ℕ → ℕ
  is_by t = length (cond (nat_eq by t) (i ∷ []) [])

  hit : (t : ℕ) → nat_eq by t ≡ true → is_by t ≡ 1
  hit t q = ap (λ b. length (cond b (i ∷ []) [])) q

  miss : (t : ℕ) → nat_eq by t ≡ false → is_by t ≡ 0
  miss t q = ap (λ b. length (cond b (i ∷ []) [])) q

  sum_past : (n : ℕ) → n ≤ by → sum_below is_by n ≡ 0
  sum_past zero l = refl
  sum_past (suc n) l = omega (arith, miss n (apart (nat_eq by n) refl), sum_past n (omega (arith, l)))
    where
      apart : (b : Bool) → nat_eq by n ≡ b → nat_eq by n ≡ false
      apart true q = absurd (omega (arith, agree by n q, l))
      apart false q = q

  sum_one : (n : ℕ) → by < n → sum_below is_by n ≡ 1
  sum_one zero l = absurd (omega (arith, l))
  sum_one (suc n) l = go (nat_eq by n) refl (λ m. sum_one n m)
    where
      less : (by n : ℕ) → by < suc n → nat_eq by n ≡ false → by < n
      less by n l q = grind (arith, l, q)

      go : (b : Bool) → nat_eq by n ≡ b → (by < n → sum_below is_by n ≡ 1) → sum_below is_by (suc n) ≡ 1
      go true q f = omega (arith, hit n q, sum_past n (omega (arith, agree by n q)))
      go false q f = omega (arith, miss n q, f (less by n l q))

made_push : (es : List Event) (e : Event) → made_in (es ++ e ∷ []) ≡ made_in es + one_made e
made_push [] e = omega arith
made_push (x ∷ es) e = omega (arith, made_push es e)

-- the shares of all tasks below a number are all that was made
abbrev IsAll : List Event → Type 0
IsAll es = (n : ℕ) → tasks_of es ≤ n → sum_below (share_of es) n ≡ made_in es

share_push : (es : List Event) (e : Event) (t : ℕ) → share_of (es ++ e ∷ []) t ≡ share_of es t + length (own_events t (0 + length es) (e ∷ []))
share_push es e t = ap length (own_append t 0 es (e ∷ [])) ∙ length-append (own_events t 0 es) (own_events t (0 + length es) (e ∷ []))

module _ (P : Program) (past : List Event) (h : IsAll past) where
  -- an event that makes nothing
  plain : (e : Event) → one_made e ≡ 0 → ((t p : ℕ) → own_events t p (e ∷ []) ≡ []) → IsAll (past ++ e ∷ [])
  plain e z none n l =
      let low : tasks_of past ≤ n = omega (arith, l, tasks_append past (e ∷ []), tasks_some (e ∷ [])) in
      let split = sum_add (share_of (past ++ e ∷ [])) (share_of past) (λ t. length (own_events t (0 + length past) (e ∷ []))) (share_push past e) n in
      let zero_more = sum_none (λ t. length (own_events t (0 + length past) (e ∷ []))) (λ t. ap length (none t (0 + length past))) n in
      omega (arith, split, zero_more, h n low, made_push past e, z)

  -- an event that a task makes
  made : (e : Event) (by : ℕ) (i : TraceItem) → one_made e ≡ 1 → by < tasks_of past → ((t : ℕ) → own_events t (0 + length past) (e ∷ []) ≡ cond (nat_eq by t) (i ∷ []) []) → IsAll (past ++ e ∷ [])
  made e by i z low own n l =
      let lower : tasks_of past ≤ n = omega (arith, l, tasks_append past (e ∷ []), tasks_some (e ∷ [])) in
      let split = sum_add (share_of (past ++ e ∷ [])) (share_of past) (is_by by i) (λ t. share_push past e t ∙ ap (λ (xs : List TraceItem). share_of past t + length xs) (own t)) n in
      omega (arith, split, sum_one by i n (omega (arith, low, lower)), h n lower, made_push past e, z)

  one_more : (e : Event) → MayCome P past e → IsAll (past ++ e ∷ [])
  one_more (Ev.Begin fuel) m = plain (Ev.Begin fuel) refl (λ t p. refl)
  one_more (Ev.Key key) m = plain (Ev.Key key) refl (λ t p. refl)
  one_more (Ev.Fill k s f) m = plain (Ev.Fill k s f) refl (λ t p. refl)
  one_more (Ev.Done t r) m = plain (Ev.Done t r) refl (λ u p. refl)
  one_more (Ev.Def by site) m = made (Ev.Def by site) by (Def site (0 + length past)) refl m.running.started (λ t. refl)
  one_more (Ev.Del by place) m = made (Ev.Del by place) by (Del place (0 + length past)) refl m.running.started (λ t. refl)
  one_more (Ev.Spawn by child start) m = made (Ev.Spawn by child start) by (Spawn child (0 + length past)) refl m.running.started (λ t. refl)

all_made : (P : Program) (es : List Event) → MayStand P es → IsAll es
all_made P es h = each_grow P IsAll (λ past e q m. one_more P past q e m) [] es (λ n l. sum_none (share_of []) (λ t. refl) n) h.come

ended_is : (o : Option Record) (n : ℕ) → IsSome o → if_ended o n ≡ n
ended_is None n h = absurd cc
ended_is (Some r) n h = refl

shares_all : (es : List Event) (n : ℕ) → ((t : ℕ) → t < n → IsSome (done_of t es)) → shares_below es n ≡ sum_below (share_of es) n
shares_all es zero h = refl
shares_all es (suc n) h =
    let here : if_ended (done_of n es) (share_of es n) ≡ share_of es n = ended_is (done_of n es) (share_of es n) (h n (omega arith)) in
    omega (arith, here, shares_all es n (λ t l. h t (omega (arith, l))))

pub each_once : (P : Program) (es : List Event) → MayStand P es → AreFinished es → gathered_in es ≡ made_in es
each_once P es h finished = shares_all es (tasks_of es) finished ∙ all_made P es h (tasks_of es) (omega arith)

-- a book of which no task is unfinished has gathered all that was made
pub all_gathered : (about : About) (es all : List Event) → IsBook about es → unfinished_of es ≡ 0 → all ≡ es → gathered_in all ≡ made_in all
all_gathered about es all b none is =
    subst (λ xs. gathered_in xs ≡ made_in xs) (sym is) (each_once about.program.value es b.history.stand (λ t l. none_counts (tasks_of es) t es l none))
