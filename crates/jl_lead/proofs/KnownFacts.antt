-- What is kept of the events, and one more event.
use Rattle.std.proofs.Common.{◌≡◌, ◌∙◌, ap, sym, subst, refl, ℕ, zero, suc, ◌⊎◌, inl, inr, get_or, slice_get, ◌+◌, ◌-◌, ◌<◌, ◌≤◌, ◌^◌, arith, Bool, true, false, cond, nat_eq, List, [], ◌∷◌, ◌++◌, map, length, take, drop, take-append-drop, append-nil, length-append, Option, Some, None, Result, Ok, Err, IfOk}
use Rattle.std.proofs.lemmas.Option.{same_Some, none-some, slice_get-get_or}
use Rattle.jl_model.specs.declared.ty.Ty.{Ty}
use Rattle.jl_program.specs.declared.choice.Choice.{Choice}
use Rattle.jl_program.specs.declared.tree.Program.{Program}
use Rattle.jl_program.specs.declared.tree.Start.{Start}
use Rattle.jl_program.specs.Prelude.{prelude_numbers}
use Rattle.jl_calculus.specs.declared.history.Change.{Change}
use Rattle.jl_calculus.specs.declared.history.Change.TheVariants as Ch
use Rattle.jl_calculus.specs.declared.history.Def.{Def}
use Rattle.jl_calculus.specs.declared.history.Del.{Del}
use Rattle.jl_calculus.specs.declared.history.Event.{Event}
use Rattle.jl_calculus.specs.declared.history.Event.TheVariants as Ev
use Rattle.jl_calculus.specs.declared.history.Outcome.{Outcome}
use Rattle.jl_calculus.specs.declared.history.Record.{Record}
use Rattle.jl_calculus.specs.Definitions.{defs_from, defs_in, dels_from}
use Rattle.jl_calculus.specs.Past.{EndedSo, done_of, tasks_of}
use Rattle.jl_calculus.specs.ValidHistory.{IsValidOutcome}
use Rattle.jl_calculus.specs.World.{changed, changes, change_event, site_in, site_of, world_of, Selects}
use Rattle.jl_calculus.proofs.GrowthLemmas.{changed_append, changes_append, changes_length, world_more}
use Rattle.jl_lead.specs.Known.{IsNoted, IsStartAmong, AreSound, IsKnownSo, IsPlain, IsSpawnOf}
use Rattle.jl_lead.proofs.EndLemmas.{ends_none, ends_same, ends_kept, ends_done}
use Rattle.jl_lead.proofs.EventFacts.{tasks_append, done_stays, done_later}

-- a start stays among the worlds
start_more : (P : Program) (es more : List Event) (s : Start) → IsStartAmong P es s → IsStartAmong P (es ++ more) s
start_more P es more s h = record { valid = h.valid; world = (h.world.0, let w = h.world.1 in omega (arith, w, world_more es more)) }

get_last : (xs : List Event) (e x : Event) (p : ℕ) → slice_get (xs ++ e ∷ []) p ≡ Some x → (slice_get xs p ≡ Some x) ⊎ (e ≡ x)
get_last [] e x zero h = inr (same_Some _ _ h)
get_last [] e x (suc p) h = absurd (none-some _ h)
get_last (y ∷ xs) e x zero h = inl h
get_last (y ∷ xs) e x (suc p) h = get_last xs e x p h

sound_more : (P : Program) (es : List Event) (e : Event) → AreSound P es → ((task : ℕ) (r : Record) → done_of task (e ∷ []) ≡ Some r → IsValidOutcome P r.outcome)
    → ((task child : ℕ) (s : Start) → e ≡ Ev.Spawn task child s → IsStartAmong P es s) → AreSound P (es ++ e ∷ [])
sound_more P es e h outcomes starts = record {
  outcomes = λ task r q. by_done task r q (done_of task es) refl;
  starts = λ p task child s q. by_start p task child s (get_last es e (Ev.Spawn task child s) p q);
}
  where
    by_done : (task : ℕ) (r : Record) → done_of task (es ++ e ∷ []) ≡ Some r → (o : Option Record) → done_of task es ≡ o → IsValidOutcome P r.outcome
    by_done task r q None n = outcomes task r (sym (done_later task es (e ∷ []) n) ∙ q)
    by_done task r q (Some t) n = let same : t ≡ r = same_Some _ _ (sym (done_stays task es (e ∷ []) t n) ∙ q) in subst (λ (z : Record). IsValidOutcome P z.outcome) same (h.outcomes task t n)

    by_start : (p task child : ℕ) (s : Start) → (slice_get es p ≡ Some (Ev.Spawn task child s)) ⊎ (e ≡ Ev.Spawn task child s) → IsStartAmong P (es ++ e ∷ []) s
    by_start p task child s (inl q) = start_more P es (e ∷ []) s (h.starts p task child s q)
    by_start p task child s (inr q) = start_more P es (e ∷ []) s (starts task child s q)

pub known_new : (P : Program) → IsKnownSo P (map Ch.Def prelude_numbers) [] 1 []
known_new P = record {
  changes_are = append-nil (map Ch.Def prelude_numbers);
  worlds = omega arith;
  tasks_are = refl;
  few = omega arith;
  short = omega arith;
  ends_are = ends_none;
  sound = record { outcomes = λ task r q. absurd (none-some _ q); starts = λ p task child s q. absurd (none-some _ q) };
}

pub new_known : (P : Program) (v : Program × List Change) (es : List Event) (ends : List (Option ℕ)) → v ≡ (P, map Ch.Def prelude_numbers) → es ≡ [] → ends ≡ [] → IsKnownSo v.0 v.1 es 1 ends
new_known P v es ends e n m = subst (λ xs. IsKnownSo v.0 v.1 es 1 xs) (sym m) (subst (λ (z : (Program × List Change) × List Event). IsKnownSo z.0.0 z.0.1 z.1 1 []) (λ i. (sym e i, sym n i)) (known_new P))

module _ (P : Program) (cs : List Change) (es : List Event) (tasks : ℕ) (ends : List (Option ℕ)) (h : IsKnownSo P cs es tasks ends) (short : length es < 4294967294) where
  one_longer : (e : Event) → length (es ++ e ∷ []) < 2 ^ 32 - 1
  one_longer e = let n = length-append es (e ∷ []) in omega (arith, n, short)

  known_change : (e : Event) (change : Change) → changed (e ∷ []) ≡ change ∷ [] → tasks_of (e ∷ []) ≡ 1 → ((t : ℕ) → done_of t (e ∷ []) ≡ None) → ((t c : ℕ) (s : Start) → e ≡ Ev.Spawn t c s → ⊥) → world_of es ≤ 65535
      → IsKnownSo P (cs ++ change ∷ []) (es ++ e ∷ []) tasks ends
  known_change e change made no_task no_done no_start room = record {
    changes_are = changes_append es (e ∷ []) ∙ ap (λ xs. changes es ++ xs) made ∙ ap (λ xs. xs ++ change ∷ []) h.changes_are;
    worlds = let n = ap length (changed_append es (e ∷ []) ∙ ap (λ xs. changed es ++ xs) made) in let m = length-append (changed es) (change ∷ []) in omega (arith, n, m, room);
    tasks_are = let n = tasks_append es (e ∷ []) in let t = h.tasks_are in omega (arith, n, t, no_task);
    few = let n = tasks_append es (e ∷ []) in let f = h.few in omega (arith, n, f, no_task);
    short = one_longer e;
    ends_are = ends_kept es e ends no_done h.ends_are;
    sound = sound_more P es e h.sound (λ t r q. absurd (none-some _ (sym (no_done t) ∙ q))) (λ t c s q. absurd (no_start t c s q));
  }

  pub known_made : (task : ℕ) (change : Change) → world_of es ≤ 65535 → IsKnownSo P (cs ++ change ∷ []) (es ++ change_event task change ∷ []) tasks ends
  known_made task (Ch.Def site) room = known_change (Ev.Def task site) (Ch.Def site) refl refl (λ t. refl) (λ t c s q. cc (q)) room
  known_made task (Ch.Del place) room = known_change (Ev.Del task place) (Ch.Del place) refl refl (λ t. refl) (λ t c s q. cc (q)) room

  pub known_spawn : (task : ℕ) (start : Start) → IsStartAmong P es start → tasks_of es < 4096 → IsKnownSo P cs (es ++ Ev.Spawn task (tasks_of es) start ∷ []) (tasks + 1) ends
  known_spawn task start among room = record {
    changes_are = changes_append es (Ev.Spawn task (tasks_of es) start ∷ []) ∙ append-nil (changes es) ∙ h.changes_are;
    worlds = let n = ap length (changed_append es (Ev.Spawn task (tasks_of es) start ∷ [])) in let m = length-append (changed es) [] in let w = h.worlds in omega (arith, n, m, w);
    tasks_are = let n = tasks_append es (Ev.Spawn task (tasks_of es) start ∷ []) in let t = h.tasks_are in omega (arith, n, t);
    few = let n = tasks_append es (Ev.Spawn task (tasks_of es) start ∷ []) in omega (arith, n, room);
    short = one_longer (Ev.Spawn task (tasks_of es) start);
    ends_are = ends_kept es (Ev.Spawn task (tasks_of es) start) ends (λ t. refl) h.ends_are;
    sound = sound_more P es (Ev.Spawn task (tasks_of es) start) h.sound (λ t r q. absurd (none-some _ q)) (λ t c s q. (let same : start ≡ s = cc (q) in subst (IsStartAmong P es) same among));
  }

  pub known_done : (task : ℕ) (ended : Record) (new : List (Option ℕ)) → IsNoted task (length es) ends new → IsValidOutcome P ended.outcome → IsKnownSo P cs (es ++ Ev.Done task ended ∷ []) tasks new
  known_done task ended new noted valid = record {
    changes_are = changes_append es (Ev.Done task ended ∷ []) ∙ append-nil (changes es) ∙ h.changes_are;
    worlds = let n = ap length (changed_append es (Ev.Done task ended ∷ [])) in let m = length-append (changed es) [] in let w = h.worlds in omega (arith, n, m, w);
    tasks_are = let n = tasks_append es (Ev.Done task ended ∷ []) in let t = h.tasks_are in omega (arith, n, t);
    few = let n = tasks_append es (Ev.Done task ended ∷ []) in let f = h.few in omega (arith, n, f);
    short = one_longer (Ev.Done task ended);
    ends_are = ends_done es task ended ends new noted h.ends_are;
    sound = sound_more P es (Ev.Done task ended) h.sound (λ t r q. same t r (nat_eq task t) q) (λ t c s q. absurd (cc (q)));
  }
    where
      same : (t : ℕ) (r : Record) (b : Bool) → cond b (Some ended) None ≡ Some r → IsValidOutcome P r.outcome
      same t r true q = subst (λ (z : Record). IsValidOutcome P z.outcome) (same_Some _ _ q) valid
      same t r false q = absurd (none-some _ q)

  pub known_plain : (e : Event) → IsPlain e → IsKnownSo P cs (es ++ e ∷ []) tasks ends
  known_plain e plain = at e plain
    where
      more : (x : Event) → changed (x ∷ []) ≡ [] → tasks_of (x ∷ []) ≡ 1 → ((t : ℕ) → done_of t (x ∷ []) ≡ None) → ((t c : ℕ) (s : Start) → x ≡ Ev.Spawn t c s → ⊥) → IsKnownSo P cs (es ++ x ∷ []) tasks ends
      more x no_def no_task no_done no_start = record {
        changes_are = changes_append es (x ∷ []) ∙ ap (λ cs. changes es ++ cs) no_def ∙ append-nil (changes es) ∙ h.changes_are;
        worlds = let n = ap length (changed_append es (x ∷ [])) in let m = length-append (changed es) (changed (x ∷ [])) in let z = ap length no_def in let w = h.worlds in omega (arith, n, m, z, w);
        tasks_are = let n = tasks_append es (x ∷ []) in let t = h.tasks_are in omega (arith, n, t, no_task);
        few = let n = tasks_append es (x ∷ []) in let f = h.few in omega (arith, n, f, no_task);
        short = one_longer x;
        ends_are = ends_kept es x ends no_done h.ends_are;
        sound = sound_more P es x h.sound (λ t r q. absurd (none-some _ (sym (no_done t) ∙ q))) (λ t c s q. absurd (no_start t c s q));
      }

      at : (x : Event) → IsPlain x → IsKnownSo P cs (es ++ x ∷ []) tasks ends
      at (Ev.Begin fuel) p = more (Ev.Begin fuel) refl refl (λ t. refl) (λ t c s q. cc (q))
      at (Ev.Key key) p = more (Ev.Key key) refl refl (λ t. refl) (λ t c s q. cc (q))
      at (Ev.Fill key site first) p = more (Ev.Fill key site first) refl refl (λ t. refl) (λ t c s q. cc (q))
      at (Ev.Def task site) p = absurd p
      at (Ev.Del task place) p = absurd p
      at (Ev.Spawn task child start) p = absurd p
      at (Ev.Done task ended) p = absurd p

  -- ---- the same, by what the code has then

  pub spawn_to : (task : ℕ) (start : Start) (new : List Event) → IsStartAmong P es start → tasks_of es < 4096 → new ≡ es ++ Ev.Spawn task tasks start ∷ [] → IsKnownSo P cs new (tasks + 1) ends
  spawn_to task start new among room e =
      subst (λ xs. IsKnownSo P cs xs (tasks + 1) ends) (sym (e ∙ ap (λ n. es ++ Ev.Spawn task n start ∷ []) h.tasks_are)) (known_spawn task start among room)

  pub made_to : (task : ℕ) (change : Change) (v : Program × List Change) (new : List Event) → world_of es ≤ 65535 → v ≡ (P, cs ++ change ∷ []) → new ≡ es ++ change_event task change ∷ [] → IsKnownSo v.0 v.1 new tasks ends
  made_to task change v new room e n = subst (λ (z : (Program × List Change) × List Event). IsKnownSo z.0.0 z.0.1 z.1 tasks ends) (λ i. (sym e i, sym n i)) (known_made task change room)

  pub done_to : (task place : ℕ) (ended : Record) (new : List Event) (places : List (Option ℕ)) → IsValidOutcome P ended.outcome → new ≡ es ++ Ev.Done task ended ∷ [] → place ≡ length es → IsNoted task place ends places
      → IsKnownSo P cs new tasks places
  done_to task place ended new places valid e at noted = subst (λ xs. IsKnownSo P cs xs tasks places) (sym e) (known_done task ended places (subst (λ (p : ℕ). IsNoted task p ends places) at noted) valid)

  -- an end that was not added
  pub done_back : (new : List Event) (places : List (Option ℕ)) → new ≡ es → ((t : ℕ) → get_or places t None ≡ get_or ends t None) → IsKnownSo P cs new tasks places
  done_back new places e same = subst (λ xs. IsKnownSo P cs xs tasks places) (sym e) (record {
    changes_are = h.changes_are;
    worlds = h.worlds;
    tasks_are = h.tasks_are;
    few = h.few;
    short = h.short;
    ends_are = ends_same es ends places same h.ends_are;
    sound = h.sound;
  })

  pub plain_to : (event : Event) (new : List Event) → IsPlain event → new ≡ es ++ event ∷ [] → IsKnownSo P cs new tasks ends
  plain_to event new plain e = subst (λ xs. IsKnownSo P cs xs tasks ends) (sym e) (known_plain event plain)

-- what is seen of one more event
pub event_added : (u w v : Program × List Event) (E : Program × List Event → Event) → w.0 ≡ u.0 → u ≡ v → w.1 ≡ u.1 ++ E u ∷ [] → w ≡ (v.0, v.1 ++ E v ∷ [])
event_added u w v E q e n =
    let F : Program × List Event → Program × List Event = λ z. (z.0, z.1 ++ E z ∷ []) in
    let a : w ≡ F u = λ i. (q i, n i) in
    a ∙ ap F e

-- ---- what stands at a place

got : (xs es : List Event) (i : ℕ) (x : Event) → xs ≡ es → i < length xs → x ≡ get_or xs i x → slice_get es i ≡ Some x
got xs es i x e l g = ap (λ ys. slice_get ys i) (sym e) ∙ slice_get-get_or xs i x l ∙ ap (λ z. Some z) (sym g)

pub spawn_got : (xs es : List Event) (i : ℕ) (x : Event) (task child : ℕ) (start : Start) → xs ≡ es → i < length xs → x ≡ get_or xs i x → x ≡ Ev.Spawn task child start → slice_get es i ≡ Some (Ev.Spawn task child start)
spawn_got xs es i x task child start e l g q = got xs es i x e l g ∙ ap (λ z. Some z) q

pub is_spawn_of : (es : List Event) (i task child : ℕ) (start : Start) → slice_get es i ≡ Some (Ev.Spawn task child start) → IsSpawnOf start (slice_get es i)
is_spawn_of es i task child start e = subst (IsSpawnOf start) (sym e) refl

-- ---- outcomes

pub done_told : (es xs : List Event) (task : ℕ) (r : Record) (outcome : Outcome) → xs ≡ es → done_of task xs ≡ Some r → outcome ≡ r.outcome → EndedSo (done_of task es) outcome
done_told es xs task r outcome e h o = subst (λ z. EndedSo z outcome) (sym (ap (done_of task) (sym e) ∙ h)) (sym o)

pub done_valid : (P : Program) (es xs : List Event) (task : ℕ) (r : Record) (outcome : Outcome) → AreSound P es → xs ≡ es → done_of task xs ≡ Some r → outcome ≡ r.outcome → IsValidOutcome P outcome
done_valid P es xs task r outcome h e d o = subst (IsValidOutcome P) (sym o) (h.outcomes task r (ap (done_of task) (sym e) ∙ d))

-- what a fetch tells is valid
pub ended_valid : (P : Program) (es : List Event) → AreSound P es → (of p : ℕ) (outcome : Outcome) → EndedSo (done_of of (take p es)) outcome → IsValidOutcome P outcome
ended_valid P es h of p outcome e = at (done_of of (take p es)) refl e
  where
    at : (r : Option Record) → done_of of (take p es) ≡ r → EndedSo r outcome → IsValidOutcome P outcome
    at None q k = absurd k
    at (Some r) q k = subst (IsValidOutcome P) k (h.outcomes of r (subst (λ xs. done_of of xs ≡ Some r) (take-append-drop p es) (done_stays of (take p es) (drop p es) r q)))

-- ---- choices

pub changes_count : (P : Program) (cs : List Change) (es : List Event) (tasks : ℕ) (ends : List (Option ℕ)) → IsKnownSo P cs es tasks ends → length cs ≡ world_of es
changes_count P cs es tasks ends h = ap length (sym h.changes_are) ∙ changes_length es

-- the site of a definition, by the change that made its world
pub site_is : (P : Program) (cs : List Change) (es : List Event) (tasks : ℕ) (ends : List (Option ℕ)) → IsKnownSo P cs es tasks ends → (d : ℕ) (c : Change) → 1 ≤ d → slice_get cs (d - 1) ≡ Some c → site_in (Some c) ≡ site_of es d
site_is P cs es tasks ends h zero c l e = absurd (omega (arith, l))
site_is P cs es tasks ends h (suc d) c l e =
    let at : suc d - 1 ≡ d = omega arith in
    ap site_in (sym (ap (λ k. slice_get cs k) (sym at) ∙ e)) ∙ ap (λ xs. site_in (slice_get xs d)) (sym h.changes_are)

-- the same of a change that was found, whatever stands for one that is none
pub site_here : (P : Program) (cs : List Change) (es : List Event) (tasks : ℕ) (ends : List (Option ℕ)) → IsKnownSo P cs es tasks ends → (d : ℕ) → 1 ≤ d → d ≤ world_of es → (all : List Change) → all ≡ cs → (c none : Change) → get_or all (d - 1) none ≡ c → site_in (Some c) ≡ site_of es d
site_here P cs es tasks ends h d low up all same c none is =
    let many : length cs ≡ world_of es = ap (λ xs. length xs) (sym h.changes_are) ∙ changes_length es in
    let inside : d - 1 < length cs = omega (arith, low, up, many) in
    let at : get_or cs (d - 1) none ≡ c = subst (λ xs. get_or xs (d - 1) none ≡ c) same is in
    site_is P cs es tasks ends h d c low (slice_get-get_or cs (d - 1) none inside ∙ ap (λ z. Some z) at)
