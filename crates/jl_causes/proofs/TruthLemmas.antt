-- Steps that are true of what the first entries tell.
use Rattle.std.proofs.Common.{◌≡◌, ◌∙◌, ap, sym, subst, refl, ℕ, zero, suc, ◌+◌, ◌<◌, ◌≤◌, arith, Bool, true, IsTrue, nat_eq, nat_lt, List, [], ◌∷◌, length, take, drop, get_or, slice_get, Some, IsSome}
use Rattle.std.specs.Prelude.{◌↔◌}
use Rattle.std.proofs.Math.Seq.{drop-cons}
use Rattle.std.proofs.lemmas.List.{at_drop_all}
use Rattle.std.proofs.lemmas.Option.{slice_get_within}
use Rattle.jl_program.specs.declared.tree.Program.{Program}
use Rattle.jl_program.specs.declared.tree.Start.{Start}
use Rattle.jl_calculus.specs.declared.history.Event.{Event}
use Rattle.jl_calculus.specs.declared.history.Event.TheVariants as Ev
use Rattle.jl_calculus.specs.declared.history.TraceItem.{TraceItem}
use Rattle.jl_calculus.specs.declared.history.TraceItem.TheVariants as I
use Rattle.jl_calculus.specs.Past.{done_of, IsAbsent, IsTrueOf, own_items}
use Rattle.jl_report.specs.declared.entry.Step.{Step}
use Rattle.jl_report.specs.declared.entry.Step.TheVariants as S
use Rattle.jl_report.specs.declared.entry.Entry.{Entry}
use Rattle.jl_report.specs.declared.entry.Entry.TheVariants as E
use Rattle.jl_causes.specs.Sketch.{untold, start_at, item_of, items_of, Tells, AllTell}
use Rattle.jl_causes.specs.Tables.{IsDefAt, IsDelAt, IsSpawnAt, is_own}
use Rattle.jl_causes.proofs.SketchLemmas.{tell_take, event_at, entry_at, outcome_untold}
use Rattle.jl_causes.proofs.TraceLemmas.{ended_is, is_ended}

pub get_taken : {X : Type 0} (n p : ℕ) (xs : List X) → p < n → slice_get (take n xs) p ≡ slice_get xs p
get_taken zero p xs l = absurd (omega (arith, l))
get_taken (suc n) p [] l = refl
get_taken (suc n) zero (x ∷ xs) l = refl
get_taken (suc n) (suc p) (x ∷ xs) l = get_taken n p xs (omega (arith, l))

entry_of_def : (P : Program) (x : Entry) (by site : ℕ) → Tells P x (Ev.Def by site) → x ≡ E.Def by site
entry_of_def P (E.Begin fuel) by site t = absurd (cc t)
entry_of_def P (E.Key number function tuple) by site t = absurd (cc (t.2))
entry_of_def P (E.Fill number s begins) by site t = absurd (cc t)
entry_of_def P (E.Def task s) by site t =
    let one : by ≡ task = cc t in
    let two : site ≡ s = cc t in
    ap (λ k. E.Def k s) (sym one) ∙ ap (λ k. E.Def by k) (sym two)
entry_of_def P (E.Del task place) by site t = absurd (cc t)
entry_of_def P (E.Spawn task child place) by site t = absurd (cc t)
entry_of_def P (E.Done task calls trace output ending) by site t = absurd (cc t)

entry_of_del : (P : Program) (x : Entry) (by place : ℕ) → Tells P x (Ev.Del by place) → x ≡ E.Del by place
entry_of_del P (E.Begin fuel) by place t = absurd (cc t)
entry_of_del P (E.Key number function tuple) by place t = absurd (cc (t.2))
entry_of_del P (E.Fill number s begins) by place t = absurd (cc t)
entry_of_del P (E.Def task s) by place t = absurd (cc t)
entry_of_del P (E.Del task s) by place t =
    let one : by ≡ task = cc t in
    let two : place ≡ s = cc t in
    ap (λ k. E.Del k s) (sym one) ∙ ap (λ k. E.Del by k) (sym two)
entry_of_del P (E.Spawn task child spawn) by place t = absurd (cc t)
entry_of_del P (E.Done task calls trace output ending) by place t = absurd (cc t)

entry_of_spawn : (P : Program) (x : Entry) (by child : ℕ) (start : Start) → Tells P x (Ev.Spawn by child start) → (place : ℕ) × (x ≡ E.Spawn by child place)
entry_of_spawn P (E.Begin fuel) by child start t = absurd (cc t)
entry_of_spawn P (E.Key number function tuple) by child start t = absurd (cc (t.2))
entry_of_spawn P (E.Fill number s begins) by child start t = absurd (cc t)
entry_of_spawn P (E.Def task s) by child start t = absurd (cc t)
entry_of_spawn P (E.Del task s) by child start t = absurd (cc t)
entry_of_spawn P (E.Spawn task c place) by child start t =
    let one : by ≡ task = cc t in
    let two : child ≡ c = cc t in
    (place, ap (λ k. E.Spawn k c place) (sym one) ∙ ap (λ k. E.Spawn by k place) (sym two))
entry_of_spawn P (E.Done task calls trace output ending) by child start t = absurd (cc t)

module _ (P : Program) (all : List Entry) (es : List Event) (told : AllTell P (take (length es) all) es) (b : Bool) where
  pub def_goal : (by site p n : ℕ) (s : Step) → (IsTrue b ↔ IsDefAt all p by site) → p < n → n ≡ length es → s ≡ S.Def site p → IsTrue b ↔ IsTrueOf P es by (item_of s)
  def_goal by site p n s h l many is =
      let few : p < length es = omega (arith, l, many) in
      let front = get_taken (length es) p all few in
      subst (λ z. IsTrue b ↔ IsTrueOf P es by (item_of z)) (sym is) (
        (λ yes. (let (e, at, t) = event_at P (take (length es) all) es p (E.Def by site) told (front ∙ h.0 yes) in at ∙ ap (λ z. Some z) t)),
        (λ at. (let (x, there, t) = entry_at P (take (length es) all) es p (Ev.Def by site) told at in h.1 (sym front ∙ there ∙ ap (λ z. Some z) (entry_of_def P x by site t)))),
      )

  pub del_goal : (by place p n : ℕ) (s : Step) → (IsTrue b ↔ IsDelAt all p by place) → p < n → n ≡ length es → s ≡ S.Del place p → IsTrue b ↔ IsTrueOf P es by (item_of s)
  del_goal by place p n s h l many is =
      let few : p < length es = omega (arith, l, many) in
      let front = get_taken (length es) p all few in
      subst (λ z. IsTrue b ↔ IsTrueOf P es by (item_of z)) (sym is) (
        (λ yes. (let (e, at, t) = event_at P (take (length es) all) es p (E.Del by place) told (front ∙ h.0 yes) in at ∙ ap (λ z. Some z) t)),
        (λ at. (let (x, there, t) = entry_at P (take (length es) all) es p (Ev.Del by place) told at in h.1 (sym front ∙ there ∙ ap (λ z. Some z) (entry_of_del P x by place t)))),
      )

  pub spawn_goal : (by child p n : ℕ) (s : Step) → (IsTrue b ↔ IsSpawnAt all p by child) → p < n → n ≡ length es → s ≡ S.Spawn child p → IsTrue b ↔ IsTrueOf P es by (item_of s)
  spawn_goal by child p n s h l many is =
      let few : p < length es = omega (arith, l, many) in
      let front = get_taken (length es) p all few in
      subst (λ z. IsTrue b ↔ IsTrueOf P es by (item_of z)) (sym is) (
        (λ yes. (let (place, got) = h.0 yes in let (e, at, t) = event_at P (take (length es) all) es p (E.Spawn by child place) told (front ∙ got) in (start_at place, at ∙ ap (λ z. Some z) t))),
        (λ made. (
            let (start, at) = made in
            let (x, there, t) = entry_at P (take (length es) all) es p (Ev.Spawn by child start) told at in
            let (place, found) = entry_of_spawn P x by child start t in h.1 (place, sym front ∙ there ∙ ap (λ z. Some z) found))),
      )

  pub fetch_goal : (by task p n : ℕ) (s : Step) → (p ≤ length es → IsTrue b ↔ IsSome (done_of task (take p es))) → p ≤ n → n ≡ length es → s ≡ S.Fetch task p → IsTrue b ↔ IsTrueOf P es by (item_of s)
  fetch_goal by task p n s k l many is =
      let few : p ≤ length es = omega (arith, l, many) in
      let h = k few in
      subst (λ z. IsTrue b ↔ IsTrueOf P es by (item_of z)) (sym is) (
        (λ yes. (few, ended_is (done_of task (take p es)) untold (h.0 yes) (λ ended e. outcome_untold P (take p (take (length es) all)) (take p es) task ended (tell_take P p (take (length es) all) es told) e))),
        (λ made. h.1 (is_ended (done_of task (take p es)) untold made.1)),
      )

module _ (P : Program) (es : List Event) where
  pub def_past : (by site p n : ℕ) (s : Step) → (p < n → ⊥) → n ≡ length es → s ≡ S.Def site p → IsTrue (nat_lt p n) ↔ IsTrueOf P es by (item_of s)
  def_past by site p n s far many is =
      subst (λ z. IsTrue (nat_lt p n) ↔ IsTrueOf P es by (item_of z)) (sym is) (
        (λ yes. (let l : p < n = grind (arith, yes) in absurd (far l))),
        (λ at. (let l : p < n = omega (arith, slice_get_within es p (Ev.Def by site) at, many) in absurd (far l))),
      )

  pub del_past : (by place p n : ℕ) (s : Step) → (p < n → ⊥) → n ≡ length es → s ≡ S.Del place p → IsTrue (nat_lt p n) ↔ IsTrueOf P es by (item_of s)
  del_past by place p n s far many is =
      subst (λ z. IsTrue (nat_lt p n) ↔ IsTrueOf P es by (item_of z)) (sym is) (
        (λ yes. (let l : p < n = grind (arith, yes) in absurd (far l))),
        (λ at. (let l : p < n = omega (arith, slice_get_within es p (Ev.Del by place) at, many) in absurd (far l))),
      )

  pub absent_goal : (by place p : ℕ) (s : Step) (b : Bool) → (IsTrue b ↔ ((p ≤ length es) × IsAbsent P (take p es) place)) → s ≡ S.Absent place p → IsTrue b ↔ IsTrueOf P es by (item_of s)
  absent_goal by place p s b h is = subst (λ z. IsTrue b ↔ IsTrueOf P es by (item_of z)) (sym is) h

  pub spawn_past : (by child p n : ℕ) (s : Step) → (p < n → ⊥) → n ≡ length es → s ≡ S.Spawn child p → IsTrue (nat_lt p n) ↔ IsTrueOf P es by (item_of s)
  spawn_past by child p n s far many is =
      subst (λ z. IsTrue (nat_lt p n) ↔ IsTrueOf P es by (item_of z)) (sym is) (
        (λ yes. (let l : p < n = grind (arith, yes) in absurd (far l))),
        (λ made. (let (start, at) = made in let l : p < n = omega (arith, slice_get_within es p (Ev.Spawn by child start) at, many) in absurd (far l))),
      )

-- ---- own events

long_items : (ss : List Step) → length (items_of ss) ≡ length ss
long_items [] = refl
long_items (s ∷ ss) = ap suc (long_items ss)

long_drop : (n : ℕ) (ss : List Step) → length (drop n ss) ≡ 0 → length ss ≤ n
long_drop zero ss h = omega (arith, h)
long_drop (suc n) [] h = omega arith
long_drop (suc n) (s ∷ ss) h = omega (arith, long_drop n ss h)

own_first : (t : TraceItem) (is : List TraceItem) → is_own t ≡ true → own_items (t ∷ is) ≡ t ∷ own_items is
own_first (I.Def site p) is q = refl
own_first (I.Del place p) is q = refl
own_first (I.Spawn child p) is q = refl
own_first (I.Look w p) is q = cc
own_first (I.Fetch task outcome p) is q = cc
own_first (I.WorldFull p) is q = cc
own_first (I.TaskFull p) is q = cc
own_first (I.Absent place p) is q = cc

add_one : (k : ℕ) → suc k ≡ k + 1
add_one k = omega arith

pub own_goal : (own trace : List Step) (next i : ℕ) (events : List TraceItem) → length trace ≤ i → next ≤ length own
    → ((items_of (drop next own) ≡ own_items (items_of (drop i trace))) ↔ (items_of own ≡ own_items (items_of trace))) → items_of own ≡ events → IsTrue (nat_eq next (length own)) ↔ (events ≡ own_items (items_of trace))
own_goal own trace next i events done within rest is = (
  (λ yes. (
      let all : length own ≤ next = grind (arith, yes) in
      sym is ∙ rest.0 (at_drop_all items_of own next all ∙ sym (at_drop_all (λ ss. own_items (items_of ss)) trace i done)))),
  (λ e. (
      let none : items_of (drop next own) ≡ [] = rest.1 (is ∙ e) ∙ at_drop_all (λ ss. own_items (items_of ss)) trace i done in
      let few : length (drop next own) ≡ 0 = sym (long_items (drop next own)) ∙ ap length none in
      let most = long_drop next own few in
      let same : next ≡ length own = omega (arith, most, within) in
      let yes : nat_eq next (length own) ≡ true = grind (arith, same) in yes)),
)

-- a step of the task's own stands at the same place of the events
pub own_step : (own trace : List Step) (next i : ℕ) (e d : Step) → next < length own → i < length trace → is_own (item_of (get_or trace i d)) ≡ true → get_or own next e ≡ get_or trace i d
    → ((items_of (drop next own) ≡ own_items (items_of (drop i trace))) ↔ (items_of own ≡ own_items (items_of trace)))
    → record {
      within : next + 1 ≤ length own;
      rest : (items_of (drop (next + 1) own) ≡ own_items (items_of (drop (i + 1) trace))) ↔ (items_of own ≡ own_items (items_of trace));
    }
own_step own trace next i e d low there mine alike rest = record { within = omega (arith, low); rest = (λ q. rest.0 (step_to q), λ q. step_from (rest.1 q)) }
  where
    this : Step
    this = get_or trace i d

    own_at : items_of (drop next own) ≡ item_of this ∷ items_of (drop (next + 1) own)
    own_at = ap items_of (drop-cons own next e low ∙ ap (λ k. get_or own next e ∷ drop k own) (add_one next)) ∙ ap (λ s. item_of s ∷ items_of (drop (next + 1) own)) alike

    trace_at : own_items (items_of (drop i trace)) ≡ item_of this ∷ own_items (items_of (drop (i + 1) trace))
    trace_at = ap (λ ss. own_items (items_of ss)) (drop-cons trace i d there ∙ ap (λ k. this ∷ drop k trace) (add_one i)) ∙ own_first (item_of this) (items_of (drop (i + 1) trace)) mine

    step_to : items_of (drop (next + 1) own) ≡ own_items (items_of (drop (i + 1) trace)) → items_of (drop next own) ≡ own_items (items_of (drop i trace))
    step_to q = own_at ∙ ap (λ is. item_of this ∷ is) q ∙ sym trace_at

    step_from : items_of (drop next own) ≡ own_items (items_of (drop i trace)) → items_of (drop (next + 1) own) ≡ own_items (items_of (drop (i + 1) trace))
    step_from q = ap (drop 1) (sym own_at ∙ q ∙ trace_at)
