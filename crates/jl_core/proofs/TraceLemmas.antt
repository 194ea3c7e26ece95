-- The definitions, deletions and spawns of a task, in its trace and among the events.
use Rattle.std.proofs.Common.{◌≡◌, ◌∙◌, ap, sym, refl, ℕ, ◌+◌, ◌<◌, ◌≤◌, true, false, cond, List, [], ◌∷◌, length, drop, get_or, Some}
use Rattle.std.specs.Prelude.{◌↔◌}
use Rattle.std.proofs.lemmas.List.{drop_more, drop_all}
use Rattle.jl_calculus.specs.declared.history.Event.{Event}
use Rattle.jl_calculus.specs.declared.history.Event.TheVariants as Ev
use Rattle.jl_calculus.specs.declared.history.TraceItem.{TraceItem}
use Rattle.jl_calculus.specs.declared.history.TraceItem.TheVariants as I
use Rattle.jl_calculus.specs.Past.{own_items, own_events}
use Rattle.jl_core.specs.Asked.{is_own, is_by, item_of, IsNextOwn, FollowsEvent}

-- ---- the trace

own_first : (item : TraceItem) (rest : List TraceItem) → is_own item ≡ true → own_items (item ∷ rest) ≡ item ∷ own_items rest
own_first (I.Def site p) rest h = refl
own_first (I.Del place p) rest h = refl
own_first (I.Spawn child p) rest h = refl
own_first (I.Look w p) rest h = cc
own_first (I.Fetch task outcome p) rest h = cc
own_first (I.WorldFull p) rest h = cc
own_first (I.TaskFull p) rest h = cc
own_first (I.Absent place p) rest h = cc

not_first : (item : TraceItem) (rest : List TraceItem) → is_own item ≡ false → own_items (item ∷ rest) ≡ own_items rest
not_first (I.Def site p) rest h = cc
not_first (I.Del place p) rest h = cc
not_first (I.Spawn child p) rest h = cc
not_first (I.Look w p) rest h = refl
not_first (I.Fetch task outcome p) rest h = refl
not_first (I.WorldFull p) rest h = refl
not_first (I.TaskFull p) rest h = refl
not_first (I.Absent place p) rest h = refl

pub own_at : (trace : List TraceItem) (i : ℕ) (item : TraceItem) → i < length trace → item ≡ get_or trace i item → is_own item ≡ true → own_items (drop i trace) ≡ own_items trace → own_items trace ≡ item ∷ own_items (drop (i + 1) trace)
own_at trace i item l e h so_far =
    sym so_far ∙ ap own_items (drop_more trace i item l ∙ ap (λ x. x ∷ drop (i + 1) trace) (sym e)) ∙ own_first item (drop (i + 1) trace) h

pub own_past : (trace : List TraceItem) (i : ℕ) (item : TraceItem) → i < length trace → item ≡ get_or trace i item → is_own item ≡ false → own_items (drop i trace) ≡ own_items trace → own_items (drop (i + 1) trace) ≡ own_items trace
own_past trace i item l e h so_far =
    sym (ap own_items (drop_more trace i item l ∙ ap (λ x. x ∷ drop (i + 1) trace) (sym e)) ∙ not_first item (drop (i + 1) trace) h) ∙ so_far

pub own_none : (trace : List TraceItem) (i : ℕ) → length trace ≤ i → own_items (drop i trace) ≡ own_items trace → own_items trace ≡ []
own_none trace i l so_far = sym so_far ∙ ap own_items (drop_all i trace l)

-- ---- an event that follows

pub nothing_follows : (p : ℕ) (e : Event) (trace rest : List TraceItem) → own_items trace ≡ [] → FollowsEvent p e trace rest → ⊥
nothing_follows p e trace rest none (item, is, next) = (let k : [] ≡ item ∷ own_items rest = sym none ∙ next in cc)

first_same : (a b : TraceItem) (xs ys : List TraceItem) → a ∷ xs ≡ b ∷ ys → a ≡ b
first_same a b xs ys h = cc

pub other_follows : (p : ℕ) (e : Event) (trace rest behind : List TraceItem) (item : TraceItem) → IsNextOwn trace item behind → (item_of p e ≡ Some item → ⊥) → FollowsEvent p e trace rest → ⊥
other_follows p e trace rest behind item next differs (other, is, also) =
    let k : other ≡ item = first_same other item (own_items rest) (own_items behind) (sym also ∙ next) in
    differs (is ∙ ap (λ x. Some x) k)

-- what follows the first definition, deletion or spawn
behind_of : (xs : List TraceItem) (x : TraceItem) (ys : List TraceItem) → own_items xs ≡ x ∷ ys → (zs : List TraceItem) × IsNextOwn xs x zs
behind_of [] x ys h = cc
behind_of (I.Def site p ∷ xs) x ys h = (xs, ap (λ z. z ∷ own_items xs) (first_same (I.Def site p) x (own_items xs) ys h))
behind_of (I.Del place p ∷ xs) x ys h = (xs, ap (λ z. z ∷ own_items xs) (first_same (I.Del place p) x (own_items xs) ys h))
behind_of (I.Spawn child p ∷ xs) x ys h = (xs, ap (λ z. z ∷ own_items xs) (first_same (I.Spawn child p) x (own_items xs) ys h))
behind_of (I.Look w p ∷ xs) x ys h = behind_of xs x ys h
behind_of (I.Fetch task outcome p ∷ xs) x ys h = behind_of xs x ys h
behind_of (I.WorldFull p ∷ xs) x ys h = behind_of xs x ys h
behind_of (I.TaskFull p ∷ xs) x ys h = behind_of xs x ys h
behind_of (I.Absent place p ∷ xs) x ys h = behind_of xs x ys h

-- ---- the events of the task

item_there : (task p : ℕ) (e : Event) (es : List Event) → is_by task e ≡ true → (item : TraceItem) → item_of p e ≡ Some item → own_events task p (e ∷ es) ≡ item ∷ own_events task (p + 1) es
item_there task p (Ev.Def by site) es h item is = ap (λ b. cond b (I.Def site p ∷ own_events task (p + 1) es) (own_events task (p + 1) es)) h ∙ ap (λ x. x ∷ own_events task (p + 1) es) (let k : I.Def site p ≡ item = cc in k)
item_there task p (Ev.Del by place) es h item is = ap (λ b. cond b (I.Del place p ∷ own_events task (p + 1) es) (own_events task (p + 1) es)) h ∙ ap (λ x. x ∷ own_events task (p + 1) es) (let k : I.Del place p ≡ item = cc in k)
item_there task p (Ev.Spawn by child start) es h item is = ap (λ b. cond b (I.Spawn child p ∷ own_events task (p + 1) es) (own_events task (p + 1) es)) h ∙ ap (λ x. x ∷ own_events task (p + 1) es) (let k : I.Spawn child p ≡ item = cc in k)
item_there task p (Ev.Begin fuel) es h item is = cc
item_there task p (Ev.Key key) es h item is = cc
item_there task p (Ev.Fill key site first) es h item is = cc
item_there task p (Ev.Done by ended) es h item is = cc

not_there : (task p : ℕ) (e : Event) (es : List Event) → is_by task e ≡ false → own_events task p (e ∷ es) ≡ own_events task (p + 1) es
not_there task p (Ev.Def by site) es h = ap (λ b. cond b (I.Def site p ∷ own_events task (p + 1) es) (own_events task (p + 1) es)) h
not_there task p (Ev.Del by place) es h = ap (λ b. cond b (I.Del place p ∷ own_events task (p + 1) es) (own_events task (p + 1) es)) h
not_there task p (Ev.Spawn by child start) es h = ap (λ b. cond b (I.Spawn child p ∷ own_events task (p + 1) es) (own_events task (p + 1) es)) h
not_there task p (Ev.Begin fuel) es h = refl
not_there task p (Ev.Key key) es h = refl
not_there task p (Ev.Fill key site first) es h = refl
not_there task p (Ev.Done by ended) es h = refl

item_some : (task p : ℕ) (e : Event) → is_by task e ≡ true → (item : TraceItem) × (item_of p e ≡ Some item)
item_some task p (Ev.Def by site) h = (I.Def site p, refl)
item_some task p (Ev.Del by place) h = (I.Del place p, refl)
item_some task p (Ev.Spawn by child start) h = (I.Spawn child p, refl)
item_some task p (Ev.Begin fuel) h = cc
item_some task p (Ev.Key key) h = cc
item_some task p (Ev.Fill key site first) h = cc
item_some task p (Ev.Done by ended) h = cc

rest_same : (a b : TraceItem) (xs ys : List TraceItem) → a ∷ xs ≡ b ∷ ys → xs ≡ ys
rest_same a b xs ys h = cc

-- the own events from a place on are those of a rest of the trace exactly where the whole are the whole
abbrev pub AreOwnFrom : List Event → ℕ → List TraceItem → List TraceItem → ℕ → Type 0
AreOwnFrom es task trace rest i = (own_events task i (drop i es) ≡ own_items rest) ↔ (own_events task 0 es ≡ own_items trace)

module _ (es : List Event) (task : ℕ) (trace rest : List TraceItem) (i : ℕ) (e : Event) (l : i < length es) (at : e ≡ get_or es i e) (so_far : AreOwnFrom es task trace rest i) where
  cut : drop i es ≡ e ∷ drop (i + 1) es
  cut = drop_more es i e l ∙ ap (λ x. x ∷ drop (i + 1) es) (sym at)

  -- an event of another task
  pub skip_event : is_by task e ≡ false → AreOwnFrom es task trace rest (i + 1)
  skip_event h =
      let k : own_events task i (drop i es) ≡ own_events task (i + 1) (drop (i + 1) es) = ap (own_events task i) cut ∙ not_there task i e (drop (i + 1) es) h in
      (λ q. so_far.0 (k ∙ q), λ q. sym k ∙ so_far.1 q)

  -- one of this task
  pub take_event : is_by task e ≡ true → (behind : List TraceItem) → FollowsEvent i e rest behind → AreOwnFrom es task trace behind (i + 1)
  take_event h behind (item, is, next) =
      let k : own_events task i (drop i es) ≡ item ∷ own_events task (i + 1) (drop (i + 1) es) = ap (own_events task i) cut ∙ item_there task i e (drop (i + 1) es) h item is in (
        λ q. so_far.0 (k ∙ ap (λ xs. item ∷ xs) q ∙ sym next),
        λ q. rest_same item item (own_events task (i + 1) (drop (i + 1) es)) (own_items behind) (sym k ∙ so_far.1 q ∙ next),
      )

  -- one of this task that does not follow
  pub miss_event : is_by task e ≡ true → ((behind : List TraceItem) → FollowsEvent i e rest behind → ⊥) → own_events task 0 es ≡ own_items trace → ⊥
  miss_event h misses q =
      let (item, is) = item_some task i e h in
      let k : own_items rest ≡ item ∷ own_events task (i + 1) (drop (i + 1) es) = sym (so_far.1 q) ∙ ap (own_events task i) cut ∙ item_there task i e (drop (i + 1) es) h item is in
      let (zs, next) = behind_of rest item (own_events task (i + 1) (drop (i + 1) es)) k in
      misses zs (item, is, next)

-- behind the last event
pub own_ends : (es : List Event) (task : ℕ) (trace rest : List TraceItem) (i : ℕ) → length es ≤ i → AreOwnFrom es task trace rest i → (own_items rest ≡ []) ↔ (own_events task 0 es ≡ own_items trace)
own_ends es task trace rest i l so_far =
    let k : own_events task i (drop i es) ≡ [] = ap (own_events task i) (drop_all i es l) in
    (λ q. so_far.0 (k ∙ sym q), λ q. sym (so_far.1 q) ∙ k)
