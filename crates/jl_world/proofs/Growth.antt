-- What one more event, or several, leave of what the events tell.
use Rattle.std.proofs.Common.{◌≡◌, ◌∙◌, ap, sym, subst, refl, ℕ, zero, suc, ◌+◌, ◌<◌, ◌≤◌, ◌⊎◌, inl, inr, arith, Bool, true, false, cond, nat_eq, List, [], ◌∷◌, ◌++◌, length, take, drop, take-append-drop, append_assoc, append-nil, length-append, Option, Some, None, IsSome}
use Rattle.jl_program.specs.declared.tree.Program.{Program}
use Rattle.jl_program.specs.declared.tree.Start.{Start}
use Rattle.jl_calculus.specs.declared.history.Event.{Event}
use Rattle.jl_calculus.specs.declared.history.Event.TheVariants as Ev
use Rattle.jl_calculus.specs.declared.history.TraceItem.{TraceItem}
use Rattle.jl_calculus.specs.declared.history.TraceItem.TheVariants.{Def, Del, Spawn}
use Rattle.jl_calculus.specs.declared.history.Record.{Record}
use Rattle.jl_calculus.specs.Learnt.{IsLearntOf}
use Rattle.jl_calculus.specs.Legal.{fuel_of, start_of, IsRunning, MayCome, EachAfter, MayStand}
use Rattle.jl_calculus.specs.Past.{tasks_of, done_of, own_events, own_starts}
use Rattle.jl_calculus.specs.Ranges.{keys_of, rows_of}
use Rattle.jl_calculus.specs.World.{changed, world_of}
use Rattle.jl_calculus.proofs.GrowthLemmas.{changed_append, keys_append, rows_append, world_more, learnt_on}
use Rattle.jl_world.specs.Views.{Begins, AreTrueStill}

-- ---- beginnings

pub begins_self : (xs : List Event) → Begins xs xs
begins_self xs = ([], sym (append-nil xs))

pub begins_trans : (xs ys zs : List Event) → Begins xs ys → Begins ys zs → Begins xs zs
begins_trans xs ys zs p q = (p.0 ++ q.0, q.1 ∙ (ap (λ w. w ++ q.0) p.1 ∙ append_assoc xs p.0 q.0))

pub begins_more : (xs ys zs : List Event) → Begins xs ys → Begins xs (ys ++ zs)
begins_more xs ys zs p = begins_trans xs ys (ys ++ zs) p (zs, refl)

pub begins_length : (xs ys : List Event) → Begins xs ys → length xs ≤ length ys
begins_length xs ys p = omega (arith, ap length p.1, length-append xs p.0)

pub begins_take : (p : ℕ) (xs : List Event) → Begins (take p xs) xs
begins_take p xs = (drop p xs, sym (take-append-drop p xs))

-- a beginning that is no longer than p begins the first p
pub begins_first : (p : ℕ) (xs ys : List Event) → Begins xs ys → length xs ≤ p → Begins xs (take p ys)
begins_first p [] ys b le = (take p ys, refl)
begins_first p (x ∷ xs) [] b le = absurd (cc (b.1))
begins_first zero (x ∷ xs) (y ∷ ys) b le = absurd (omega arith)
begins_first (suc p) (x ∷ xs) (y ∷ ys) b le = let r = begins_first p xs ys (b.0, cc (b.1)) (omega arith) in (r.0, cc (r.1, b.1))

pub still_true : (P : Program) (xs ys : List Event) → Begins xs ys → AreTrueStill P xs ys
still_true P xs ys b t i h = subst (λ zs. IsLearntOf P zs t i) (sym b.1) (learnt_on xs b.0 P t i h)

pub worlds_grow : (xs ys : List Event) → Begins xs ys → world_of xs ≤ world_of ys
worlds_grow xs ys b = subst (λ zs. world_of xs ≤ world_of zs) (sym b.1) (world_more xs b.0)

pub keys_grow : (xs ys : List Event) → Begins xs ys → length (keys_of xs) ≤ length (keys_of ys)
keys_grow xs ys b = omega (arith, ap (λ zs. length (keys_of zs)) b.1, ap length (keys_append xs b.0), length-append (keys_of xs) (keys_of b.0))

pub rows_grow : (xs ys : List Event) → Begins xs ys → length (rows_of xs) ≤ length (rows_of ys)
rows_grow xs ys b = omega (arith, ap (λ zs. length (rows_of zs)) b.1, ap length (rows_append xs b.0), length-append (rows_of xs) (rows_of b.0))

-- ---- tasks

pub fuel_append : (es more : List Event) → IsSome (fuel_of es) → fuel_of (es ++ more) ≡ fuel_of es
fuel_append [] more h = absurd cc
fuel_append (Ev.Begin fuel ∷ es) more h = refl
fuel_append (Ev.Key key ∷ es) more h = refl
fuel_append (Ev.Fill key site first ∷ es) more h = refl
fuel_append (Ev.Def by site ∷ es) more h = refl
fuel_append (Ev.Del by place ∷ es) more h = refl
fuel_append (Ev.Spawn parent child start ∷ es) more h = refl
fuel_append (Ev.Done by ended ∷ es) more h = refl

-- there is one root, which is counted on both sides
pub tasks_append : (es more : List Event) → tasks_of (es ++ more) + 1 ≡ tasks_of es + tasks_of more
tasks_append [] more = omega arith
tasks_append (Ev.Spawn parent child start ∷ es) more = omega (arith, tasks_append es more)
tasks_append (Ev.Begin fuel ∷ es) more = omega (arith, tasks_append es more)
tasks_append (Ev.Key key ∷ es) more = omega (arith, tasks_append es more)
tasks_append (Ev.Fill key site first ∷ es) more = omega (arith, tasks_append es more)
tasks_append (Ev.Def by site ∷ es) more = omega (arith, tasks_append es more)
tasks_append (Ev.Del by place ∷ es) more = omega (arith, tasks_append es more)
tasks_append (Ev.Done by ended ∷ es) more = omega (arith, tasks_append es more)

pub tasks_some : (es : List Event) → 1 ≤ tasks_of es
tasks_some [] = omega arith
tasks_some (Ev.Spawn parent child start ∷ es) = omega arith
tasks_some (Ev.Begin fuel ∷ es) = tasks_some es
tasks_some (Ev.Key key ∷ es) = tasks_some es
tasks_some (Ev.Fill key site first ∷ es) = tasks_some es
tasks_some (Ev.Def by site ∷ es) = tasks_some es
tasks_some (Ev.Del by place ∷ es) = tasks_some es
tasks_some (Ev.Done by ended ∷ es) = tasks_some es

pub done_append : (t : ℕ) (es more : List Event) → done_of t es ≡ None → done_of t (es ++ more) ≡ done_of t more
done_append t [] more h = refl
done_append t (Ev.Spawn parent child start ∷ es) more h = done_append t es more h
done_append t (Ev.Begin fuel ∷ es) more h = done_append t es more h
done_append t (Ev.Key key ∷ es) more h = done_append t es more h
done_append t (Ev.Fill key site first ∷ es) more h = done_append t es more h
done_append t (Ev.Def by site ∷ es) more h = done_append t es more h
done_append t (Ev.Del by place ∷ es) more h = done_append t es more h
done_append t (Ev.Done by ended ∷ es) more h = go (nat_eq by t) h (λ k. done_append t es more k)
  where
    go : (b : Bool) → cond b (Some ended) (done_of t es) ≡ None → (done_of t es ≡ None → done_of t (es ++ more) ≡ done_of t more) → cond b (Some ended) (done_of t (es ++ more)) ≡ done_of t more
    go true k r = absurd cc
    go false k r = r k

cond_more : {X : Type 0} (b : Bool) (x : X) (xs ys : List X) → cond b (x ∷ (xs ++ ys)) (xs ++ ys) ≡ cond b (x ∷ xs) xs ++ ys
cond_more true x xs ys = refl
cond_more false x xs ys = refl

shift : (t p n : ℕ) (more : List Event) (xs ys : List TraceItem) → ys ≡ xs ++ own_events t (p + 1 + n) more → ys ≡ xs ++ own_events t (p + suc n) more
shift t p n more xs ys e = e ∙ ap (λ m. xs ++ own_events t m more) (omega arith)

pub own_append : (t p : ℕ) (es more : List Event) → own_events t p (es ++ more) ≡ own_events t p es ++ own_events t (p + length es) more
own_append t p [] more = ap (λ n. own_events t n more) (omega arith)
own_append t p (Ev.Def by site ∷ es) more =
    ap (λ (xs : List TraceItem). cond (nat_eq by t) (Def site p ∷ xs) xs) (shift t p (length es) more (own_events t (p + 1) es) (own_events t (p + 1) (es ++ more)) (own_append t (p + 1) es more))
    ∙ cond_more (nat_eq by t) (Def site p) (own_events t (p + 1) es) (own_events t (p + suc (length es)) more)
own_append t p (Ev.Del by at_place ∷ es) more =
    ap (λ (xs : List TraceItem). cond (nat_eq by t) (Del at_place p ∷ xs) xs) (shift t p (length es) more (own_events t (p + 1) es) (own_events t (p + 1) (es ++ more)) (own_append t (p + 1) es more))
    ∙ cond_more (nat_eq by t) (Del at_place p) (own_events t (p + 1) es) (own_events t (p + suc (length es)) more)
own_append t p (Ev.Spawn by child start ∷ es) more =
    ap (λ (xs : List TraceItem). cond (nat_eq by t) (Spawn child p ∷ xs) xs) (shift t p (length es) more (own_events t (p + 1) es) (own_events t (p + 1) (es ++ more)) (own_append t (p + 1) es more))
    ∙ cond_more (nat_eq by t) (Spawn child p) (own_events t (p + 1) es) (own_events t (p + suc (length es)) more)
own_append t p (Ev.Begin fuel ∷ es) more = shift t p (length es) more (own_events t (p + 1) es) (own_events t (p + 1) (es ++ more)) (own_append t (p + 1) es more)
own_append t p (Ev.Key key ∷ es) more = shift t p (length es) more (own_events t (p + 1) es) (own_events t (p + 1) (es ++ more)) (own_append t (p + 1) es more)
own_append t p (Ev.Fill key site first ∷ es) more = shift t p (length es) more (own_events t (p + 1) es) (own_events t (p + 1) (es ++ more)) (own_append t (p + 1) es more)
own_append t p (Ev.Done by ended ∷ es) more = shift t p (length es) more (own_events t (p + 1) es) (own_events t (p + 1) (es ++ more)) (own_append t (p + 1) es more)

pub starts_append : (t : ℕ) (es more : List Event) → own_starts t (es ++ more) ≡ own_starts t es ++ own_starts t more
starts_append t [] more = refl
starts_append t (Ev.Spawn by child start ∷ es) more =
    ap (λ (xs : List Start). cond (nat_eq by t) (start ∷ xs) xs) (starts_append t es more) ∙ cond_more (nat_eq by t) start (own_starts t es) (own_starts t more)
starts_append t (Ev.Begin fuel ∷ es) more = starts_append t es more
starts_append t (Ev.Key key ∷ es) more = starts_append t es more
starts_append t (Ev.Fill key site first ∷ es) more = starts_append t es more
starts_append t (Ev.Def by site ∷ es) more = starts_append t es more
starts_append t (Ev.Del by place ∷ es) more = starts_append t es more
starts_append t (Ev.Done by ended ∷ es) more = starts_append t es more

-- where a task starts later, it did not start before
pub start_later : (t : ℕ) (es more : List Event) → start_of t es ≡ None → start_of t (es ++ more) ≡ start_of t more
start_later t [] more h = refl
start_later t (Ev.Begin fuel ∷ es) more h = start_later t es more h
start_later t (Ev.Key key ∷ es) more h = start_later t es more h
start_later t (Ev.Fill key site first ∷ es) more h = start_later t es more h
start_later t (Ev.Def by site ∷ es) more h = start_later t es more h
start_later t (Ev.Del by place ∷ es) more h = start_later t es more h
start_later t (Ev.Done by ended ∷ es) more h = start_later t es more h
start_later t (Ev.Spawn parent child start ∷ es) more h = go (nat_eq child t) h (λ k. start_later t es more k)
  where
    go : (b : Bool) → cond b (Some start) (start_of t es) ≡ None → (start_of t es ≡ None → start_of t (es ++ more) ≡ start_of t more) → cond b (Some start) (start_of t (es ++ more)) ≡ start_of t more
    go true k r = absurd cc
    go false k r = r k

pub start_before : (t : ℕ) (es more : List Event) → start_of t more ≡ None → start_of t (es ++ more) ≡ start_of t es
start_before t [] more h = h
start_before t (Ev.Begin fuel ∷ es) more h = start_before t es more h
start_before t (Ev.Key key ∷ es) more h = start_before t es more h
start_before t (Ev.Fill key site first ∷ es) more h = start_before t es more h
start_before t (Ev.Def by site ∷ es) more h = start_before t es more h
start_before t (Ev.Del by place ∷ es) more h = start_before t es more h
start_before t (Ev.Done by ended ∷ es) more h = start_before t es more h
start_before t (Ev.Spawn parent child start ∷ es) more h = ap (λ o. cond (nat_eq child t) (Some start) o) (start_before t es more h)

-- ---- an event that is none of a task's

pub differ : (a b : ℕ) → (a ≡ b → ⊥) → nat_eq a b ≡ false
differ a b d = by (nat_eq a b) refl
  where
    by : (c : Bool) → nat_eq a b ≡ c → nat_eq a b ≡ false
    by true q = absurd (d (grind (arith, q)))
    by false q = q

pub agree : (a b : ℕ) → nat_eq a b ≡ true → a ≡ b
agree a b q = grind (arith, q)

pub agreed : (a b : ℕ) → a ≡ b → nat_eq a b ≡ true
agreed a b e = grind (arith, e)

-- the event is neither by the task nor starts it
abbrev pub NotOf : Event → ℕ → Type 0
NotOf (Ev.Begin fuel) t = Unit {0}
NotOf (Ev.Key key) t = Unit {0}
NotOf (Ev.Fill key site first) t = Unit {0}
NotOf (Ev.Def by site) t = by ≡ t → ⊥
NotOf (Ev.Del by place) t = by ≡ t → ⊥
NotOf (Ev.Spawn by child start) t = (by ≡ t → ⊥) × (child ≡ t → ⊥)
NotOf (Ev.Done by ended) t = by ≡ t → ⊥

-- it neither ends nor starts the task
abbrev pub KeepsOn : Event → ℕ → Type 0
KeepsOn e t = (done_of t (e ∷ []) ≡ None) × (start_of t (e ∷ []) ≡ None)

abbrev pub IsAside : Event → ℕ → Type 0
IsAside e t = ((p : ℕ) → own_events t p (e ∷ []) ≡ []) × (own_starts t (e ∷ []) ≡ []) × KeepsOn e t

pub aside : (e : Event) (t : ℕ) → NotOf e t → IsAside e t
aside (Ev.Begin fuel) t h = ((λ p. refl), refl, (refl, refl))
aside (Ev.Key key) t h = ((λ p. refl), refl, (refl, refl))
aside (Ev.Fill key site first) t h = ((λ p. refl), refl, (refl, refl))
aside (Ev.Def by site) t h = ((λ p. ap (λ b. cond b (Def site p ∷ []) []) (differ by t h)), refl, (refl, refl))
aside (Ev.Del by at_place) t h = ((λ p. ap (λ b. cond b (Del at_place p ∷ []) []) (differ by t h)), refl, (refl, refl))
aside (Ev.Spawn by child start) t h = (
  (λ p. ap (λ b. cond b (Spawn child p ∷ []) []) (differ by t h.0)),
  ap (λ b. cond b (start ∷ []) []) (differ by t h.0),
  (refl, ap (λ b. cond b (Some start) None) (differ child t h.1)),
)
aside (Ev.Done by ended) t h = ((λ p. refl), refl, (ap (λ b. cond b (Some ended) None) (differ by t h), refl))

pub runs_on : (t : ℕ) (es : List Event) (e : Event) → done_of t (e ∷ []) ≡ None → IsRunning es t → IsRunning (es ++ e ∷ []) t
runs_on t es e h r = record {
  begun = subst IsSome (sym (fuel_append es (e ∷ []) r.begun)) r.begun;
  started = omega (arith, tasks_append es (e ∷ []), tasks_some (e ∷ []), r.started);
  going = done_append t es (e ∷ []) r.going ∙ h;
}

-- ---- what holds of the events so far

module _ (P : Program) where
  -- what each event keeps holds of all
  pub each_grow : (Q : List Event → Type 0) → ((past : List Event) (e : Event) → Q past → MayCome P past e → Q (past ++ e ∷ [])) → (past es : List Event) → Q past → EachAfter (MayCome P) past es → Q (past ++ es)
  each_grow Q step past [] q h = subst Q (sym (append-nil past)) q
  each_grow Q step past (e ∷ es) q h = subst Q (append_assoc past (e ∷ []) es) (each_grow Q step (past ++ e ∷ []) es (step past e q h.0) h.1)

  after_push : (past es : List Event) (e : Event) → EachAfter (MayCome P) past es → MayCome P (past ++ es) e → EachAfter (MayCome P) past (es ++ e ∷ [])
  after_push past [] e h m = (subst (λ xs. MayCome P xs e) (append-nil past) m, tt)
  after_push past (x ∷ es) e h m = (h.0, after_push (past ++ x ∷ []) es e h.1 (subst (λ xs. MayCome P xs e) (sym (append_assoc past (x ∷ []) es)) m))

  pub stand_push : (es : List Event) (e : Event) → MayStand P es → MayCome P es e → MayStand P (es ++ e ∷ [])
  stand_push es e h m = record { begun = subst IsSome (sym (fuel_append es (e ∷ []) h.begun)) h.begun; come = after_push [] es e h.come m }

  after_front : (past xs ys : List Event) → EachAfter (MayCome P) past (xs ++ ys) → EachAfter (MayCome P) past xs
  after_front past [] ys h = tt
  after_front past (x ∷ xs) ys h = (h.0, after_front (past ++ x ∷ []) xs ys h.1)

  -- a longer beginning of the events
  pub stand_front : (xs ys zs : List Event) → MayStand P xs → Begins xs ys → Begins ys zs → MayStand P zs → MayStand P ys
  stand_front xs ys zs h b c k = record {
    begun = subst IsSome (sym (ap fuel_of b.1 ∙ fuel_append xs b.0 h.begun)) h.begun;
    come = after_front [] ys c.0 (subst (EachAfter (MayCome P) []) c.1 k.come);
  }

  -- a task that was not started has nothing among the events
  pub record IsUnstarted (es : List Event) (c : ℕ) : Type 0 where
    pub own : own_events c 0 es ≡ []
    pub starts : own_starts c es ≡ []
    pub going : done_of c es ≡ None
    pub start : start_of c es ≡ None

  abbrev NoneStarted : List Event → Type 0
  NoneStarted es = (c : ℕ) → tasks_of es ≤ c → IsUnstarted es c

  none_of : (past : List Event) (e : Event) (c : ℕ) → MayCome P past e → tasks_of (past ++ e ∷ []) ≤ c → NotOf e c
  none_of past (Ev.Begin fuel) c m l = tt
  none_of past (Ev.Key key) c m l = tt
  none_of past (Ev.Fill key site first) c m l = tt
  none_of past (Ev.Def by site) c m l = λ q. omega (arith, m.running.started, q, l, tasks_append past (Ev.Def by site ∷ []))
  none_of past (Ev.Del by place) c m l = λ q. omega (arith, m.running.started, q, l, tasks_append past (Ev.Del by place ∷ []))
  none_of past (Ev.Spawn by child start) c m l = (
    (λ q. omega (arith, m.running.started, q, l, tasks_append past (Ev.Spawn by child start ∷ []))),
    (λ q. omega (arith, m.next, q, l, tasks_append past (Ev.Spawn by child start ∷ []))),
  )
  none_of past (Ev.Done by ended) c m l = λ q. omega (arith, m.started, q, l, tasks_append past (Ev.Done by ended ∷ []))

  one_more : (past : List Event) (e : Event) → NoneStarted past → MayCome P past e → NoneStarted (past ++ e ∷ [])
  one_more past e h m c l =
      let u = h c (omega (arith, l, tasks_append past (e ∷ []), tasks_some (e ∷ []))) in
      let a = aside e c (none_of past e c m l) in
      record {
        own = own_append c 0 past (e ∷ []) ∙ ap (λ xs. xs ++ own_events c (0 + length past) (e ∷ [])) u.own ∙ a.0 (0 + length past);
        starts = starts_append c past (e ∷ []) ∙ ap (λ xs. xs ++ own_starts c (e ∷ [])) u.starts ∙ a.1;
        going = done_append c past (e ∷ []) u.going ∙ a.2.0;
        start = start_later c past (e ∷ []) u.start ∙ a.2.1;
      }

  pub unstarted : (es : List Event) → MayStand P es → NoneStarted es
  unstarted es h = each_grow NoneStarted one_more [] es (λ c l. record { own = refl; starts = refl; going = refl; start = refl }) h.come
