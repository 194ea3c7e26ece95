-- Two histories with the same entries: what they tell, the values of starts and the outcomes aside, is the same.
use Rattle.std.proofs.Common.{◌≡◌, ◌∙◌, ap, sym, subst, refl, ℕ, zero, suc, ◌+◌, inl, inr, arith, Bool, true, false, cond, nat_eq, List, [], ◌∷◌, ◌++◌, map, length, take, slice_get, Option, Some, None, IsSome}
use Rattle.std.specs.Option.{is_some}
use Rattle.std.specs.List.{Contains}
use Rattle.jl_model.specs.declared.ty.Key.{Key}
use Rattle.jl_model.specs.Choice.{Method}
use Rattle.jl_program.specs.declared.tree.Delete.{Delete}
use Rattle.jl_program.specs.declared.tree.Program.{Program}
use Rattle.jl_program.specs.declared.tree.Start.{Start}
use Rattle.jl_program.specs.Prelude.{prelude_numbers}
use Rattle.jl_calculus.specs.declared.history.Change.{Change}
use Rattle.jl_calculus.specs.declared.history.Change.TheVariants as Ch
use Rattle.jl_calculus.specs.declared.history.Event.{Event}
use Rattle.jl_calculus.specs.declared.history.Event.TheVariants as Ev
use Rattle.jl_calculus.specs.declared.history.Record.{Record}
use Rattle.jl_calculus.specs.declared.history.TraceItem.TheVariants as I
use Rattle.jl_calculus.specs.Legal.{fuel_of, IsRunning, IsNewKey, IsNewFill, MayBeMade, IsChange, IsSpawn, MayCome, first_place}
use Rattle.jl_calculus.specs.Past.{tasks_of, done_of, own_events, if_own, IsAbsent}
use Rattle.jl_calculus.specs.Ranges.{CacheRow, keys_of, rows_of, ChangeTouches, MayBegin, SelectsSite}
use Rattle.jl_calculus.specs.World.{changed, changes, change_at, site_in, world_of, methods_from, Deletes, Stands, HasMethodAt, FindsMethod}
use Rattle.jl_report.specs.HistoryText.{steps_of}

-- ---- events

-- the same event, but for the start of a spawn, whose place is the same, and for the end of a task, whose trace tells the same steps
abbrev pub IsAlike : Event → Event → Type 0
IsAlike (Ev.Begin fuel) d = d ≡ Ev.Begin fuel
IsAlike (Ev.Key key) d = d ≡ Ev.Key key
IsAlike (Ev.Fill key site begins) d = d ≡ Ev.Fill key site begins
IsAlike (Ev.Def by site) d = d ≡ Ev.Def by site
IsAlike (Ev.Del by place) d = d ≡ Ev.Del by place
IsAlike (Ev.Spawn by child start) d = (other : Start) × (d ≡ Ev.Spawn by child other) × (other.spawn ≡ start.spawn)
IsAlike (Ev.Done by ended) d = (other : Record) × (d ≡ Ev.Done by other) × (steps_of other.trace ≡ steps_of ended.trace)

abbrev pub AreAlike : List Event → List Event → Type 0
AreAlike [] ds = ds ≡ []
AreAlike (e ∷ es) [] = ⊥
AreAlike (e ∷ es) (d ∷ ds) = IsAlike e d × AreAlike es ds

pub alike_push : (es ds : List Event) (e d : Event) → AreAlike es ds → IsAlike e d → AreAlike (es ++ e ∷ []) (ds ++ d ∷ [])
alike_push [] [] e d h k = (k, refl)
alike_push [] (x ∷ ds) e d h k = absurd (cc h)
alike_push (x ∷ es) [] e d h k = absurd h
alike_push (x ∷ es) (y ∷ ds) e d h k = (h.0, alike_push es ds e d h.1 k)

pub alike_take : (n : ℕ) (es ds : List Event) → AreAlike es ds → AreAlike (take n es) (take n ds)
alike_take zero es ds h = refl
alike_take (suc n) [] ds h = ap (take (suc n)) h
alike_take (suc n) (e ∷ es) [] h = absurd h
alike_take (suc n) (e ∷ es) (d ∷ ds) h = (h.0, alike_take n es ds h.1)

-- at each place
pub alike_at : (es ds : List Event) (n : ℕ) (e : Event) → AreAlike es ds → slice_get es n ≡ Some e → (d : Event) × (slice_get ds n ≡ Some d) × IsAlike e d
alike_at [] ds zero e h g = absurd (cc g)
alike_at [] ds (suc n) e h g = absurd (cc g)
alike_at (x ∷ es) [] n e h g = absurd h
alike_at (x ∷ es) (d ∷ ds) zero e h g = (d, refl, subst (λ z. IsAlike z d) (cc g) h.0)
alike_at (x ∷ es) (d ∷ ds) (suc n) e h g = alike_at es ds n e h.1 g

pub alike_back : (es ds : List Event) (n : ℕ) (d : Event) → AreAlike es ds → slice_get ds n ≡ Some d → (e : Event) × (slice_get es n ≡ Some e) × IsAlike e d
alike_back [] ds n d h g = absurd (nothing n (subst (λ xs. slice_get xs n ≡ Some d) h g))
  where
    nothing : (n : ℕ) → slice_get [] n ≡ Some d → ⊥
    nothing zero g = cc g
    nothing (suc n) g = cc g
alike_back (x ∷ es) [] n d h g = absurd h
alike_back (x ∷ es) (y ∷ ds) zero d h g = (x, refl, subst (IsAlike x) (cc g) h.0)
alike_back (x ∷ es) (y ∷ ds) (suc n) d h g = alike_back es ds n d h.1 g

-- ---- what both tell

pub record Same (es ds : List Event) : Type 0 where
  pub many : length ds ≡ length es
  pub fuel : fuel_of ds ≡ fuel_of es
  pub keys : keys_of ds ≡ keys_of es
  pub rows : rows_of ds ≡ rows_of es
  pub changes : changed ds ≡ changed es
  pub tasks : tasks_of ds ≡ tasks_of es
  pub own : (t p : ℕ) → own_events t p ds ≡ own_events t p es
  pub begins : (t p : ℕ) → first_place t p ds ≡ first_place t p es
  pub ends : (t : ℕ) → is_some (done_of t ds) ≡ is_some (done_of t es)

pub same_back : (es ds : List Event) → Same es ds → Same ds es
same_back es ds h = record {
  many = sym h.many;
  fuel = sym h.fuel;
  keys = sym h.keys;
  rows = sym h.rows;
  changes = sym h.changes;
  tasks = sym h.tasks;
  own = λ t p. sym (h.own t p);
  begins = λ t p. sym (h.begins t p);
  ends = λ t. sym (h.ends t);
}

either : (b : Bool) (r q : Record) (x y : Option Record) → is_some x ≡ is_some y → is_some (cond b (Some r) x) ≡ is_some (cond b (Some q) y)
either true r q x y h = refl
either false r q x y h = h

pub same : (es ds : List Event) → AreAlike es ds → Same es ds
same [] ds h = subst (Same []) (sym h) (record { many = refl; fuel = refl; keys = refl; rows = refl; changes = refl; tasks = refl; own = λ t p. refl; begins = λ t p. refl; ends = λ t. refl })
same (e ∷ es) [] h = absurd h
same (Ev.Begin fuel ∷ es) (d ∷ ds) h =
    let s = same es ds h.1 in
    subst (λ x. Same (Ev.Begin fuel ∷ es) (x ∷ ds)) (sym h.0)
    (record { many = ap suc s.many; fuel = refl; keys = s.keys; rows = s.rows; changes = s.changes; tasks = s.tasks; own = λ t p. s.own t (p + 1); begins = λ t p. s.begins t (p + 1); ends = s.ends })
same (Ev.Key key ∷ es) (d ∷ ds) h =
    let s = same es ds h.1 in
    subst (λ x. Same (Ev.Key key ∷ es) (x ∷ ds)) (sym h.0)
    (record { many = ap suc s.many; fuel = refl; keys = ap (λ ks. key ∷ ks) s.keys; rows = s.rows; changes = s.changes; tasks = s.tasks; own = λ t p. s.own t (p + 1); begins = λ t p. s.begins t (p + 1); ends = s.ends })
same (Ev.Fill key site first ∷ es) (d ∷ ds) h =
    let s = same es ds h.1 in
    let row : CacheRow = record { key = key; site = site; first = first } in
    subst (λ x. Same (Ev.Fill key site first ∷ es) (x ∷ ds)) (sym h.0)
    (record { many = ap suc s.many; fuel = refl; keys = s.keys; rows = ap (λ rs. row ∷ rs) s.rows; changes = s.changes; tasks = s.tasks; own = λ t p. s.own t (p + 1); begins = λ t p. s.begins t (p + 1); ends = s.ends })
same (Ev.Def by site ∷ es) (d ∷ ds) h =
    let s = same es ds h.1 in
    subst (λ x. Same (Ev.Def by site ∷ es) (x ∷ ds)) (sym h.0)
    (record { many = ap suc s.many; fuel = refl; keys = s.keys; rows = s.rows; changes = ap (λ xs. Ch.Def site ∷ xs) s.changes; tasks = s.tasks; own = λ t p. ap (if_own by t (I.Def site p)) (s.own t (p + 1)); begins = λ t p. s.begins t (p + 1); ends = s.ends })
same (Ev.Del by place ∷ es) (d ∷ ds) h =
    let s = same es ds h.1 in
    subst (λ x. Same (Ev.Del by place ∷ es) (x ∷ ds)) (sym h.0)
    (record { many = ap suc s.many; fuel = refl; keys = s.keys; rows = s.rows; changes = ap (λ xs. Ch.Del place ∷ xs) s.changes; tasks = s.tasks; own = λ t p. ap (if_own by t (I.Del place p)) (s.own t (p + 1)); begins = λ t p. s.begins t (p + 1); ends = s.ends })
same (Ev.Spawn by child start ∷ es) (d ∷ ds) h =
    let s = same es ds h.1 in
    let (other, is, place) = h.0 in
    subst (λ x. Same (Ev.Spawn by child start ∷ es) (x ∷ ds)) (sym is)
    (record { many = ap suc s.many; fuel = refl; keys = s.keys; rows = s.rows; changes = s.changes; tasks = ap (λ n. 1 + n) s.tasks; own = λ t p. ap (if_own by t (I.Spawn child p)) (s.own t (p + 1)); begins = λ t p. ap (cond (nat_eq child t) (p + 1)) (s.begins t (p + 1)); ends = s.ends })
same (Ev.Done by ended ∷ es) (d ∷ ds) h =
    let s = same es ds h.1 in
    let (other, is, steps) = h.0 in
    subst (λ x. Same (Ev.Done by ended ∷ es) (x ∷ ds)) (sym is)
    (record { many = ap suc s.many; fuel = refl; keys = s.keys; rows = s.rows; changes = s.changes; tasks = s.tasks; own = λ t p. s.own t (p + 1); begins = λ t p. s.begins t (p + 1); ends = λ t. either (nat_eq by t) other ended (done_of t ds) (done_of t es) (s.ends t) })

-- ---- what may come

none_if : (o : Option Record) → is_some o ≡ false → o ≡ None
none_if None h = refl
none_if (Some r) h = cc h

-- where the changes are the same
module _ (P : Program) (es ds : List Event) (e : changes es ≡ changes ds) where
  change_by : (Q : Option Change → Type 0) (d : ℕ) → Q (change_at es d) → Q (change_at ds d)
  change_by Q zero h = h
  change_by Q (suc d) h = subst (λ cs. Q (slice_get cs d)) e h

  change_back : (Q : Option Change → Type 0) (d : ℕ) → Q (change_at ds d) → Q (change_at es d)
  change_back Q zero h = h
  change_back Q (suc d) h = subst (λ cs. Q (slice_get cs d)) (sym e) h

  pub stands_by : (f w : ℕ) (m : Method) → Stands P es f w m → Stands P ds f w m
  stands_by f w m h = record {
    made = subst (λ cs. Contains (methods_from P f 1 (take w cs)) m) e h.made;
    kept = λ d low high k. h.kept d low high (change_back (λ o. Deletes P o f m.sig) d k);
  }

  finds_by : (w : ℕ) (o : Option Delete) → HasMethodAt P es w o → HasMethodAt P ds w o
  finds_by w None h = h
  finds_by w (Some place) (m, stands, same_sig) = (m, stands_by place.function w m stands, same_sig)

module _ (P : Program) (es ds : List Event) (s : Same es ds) where
  all : changes es ≡ changes ds
  all = ap (λ xs. map Ch.Def prelude_numbers ++ xs) (sym s.changes)

  pub begin_to : (key : Key) (w : ℕ) → MayBegin P es key w → MayBegin P ds key w
  begin_to key w (inl e) = inl e
  begin_to key w (inr (low, t)) = inr (low, change_by P es ds all (λ o. ChangeTouches P o key) w t)

  pub selects_to : (key : Key) (w site : ℕ) → SelectsSite P es key w site → SelectsSite P ds key w site
  selects_to key w site (d, (ms, are, chosen), is) = (
    d,
    (
      ms,
      λ m a. (
        λ i. stands_by P es ds all key.function w m ((are m a).0 i),
        λ h. (are m a).1 (stands_by P ds es (sym all) key.function w m h),
      ),
      chosen,
    ),
    change_by P es ds all (λ o. site_in o ≡ site) d is,
  )

  pub world_to : world_of ds ≡ world_of es
  world_to = ap (λ xs. 14 + length xs) s.changes

  pub finds_to : (place : ℕ) → FindsMethod P es place → FindsMethod P ds place
  finds_to place h = finds_by P es ds all (world_of ds) (slice_get P.deletes place) (subst (λ w. HasMethodAt P es w (slice_get P.deletes place)) (sym world_to) h)

  pub running_to : (task : ℕ) → IsRunning es task → IsRunning ds task
  running_to task r = record {
    begun = subst IsSome (sym s.fuel) r.begun;
    started = omega (arith, s.tasks, r.started);
    going = none_if (done_of task ds) (s.ends task ∙ ap is_some r.going);
  }

  pub key_to : (key : Key) → IsNewKey P es key → IsNewKey P ds key
  key_to key h = record {
    proper = h.proper;
    new = λ stands. h.new (subst (λ ks. Contains ks key) s.keys stands);
    room = omega (arith, ap length s.keys, h.room);
  }

  pub fill_to : (key site first : ℕ) → IsNewFill P es key site first → IsNewFill P ds key site first
  fill_to key site first h = record {
    key = h.key;
    named = ap (λ ks. slice_get ks key) s.keys ∙ h.named;
    right = record { begun = begin_to h.key first h.right.begun; choice = selects_to h.key first site h.right.choice };
    new = λ row stands. h.new row (subst (λ rs. Contains rs row) s.rows stands);
    room = omega (arith, ap length s.rows, h.room);
  }

  pub change_to : (task : ℕ) (change : Change) → IsChange P es task change → IsChange P ds task change
  change_to task change h = record { running = running_to task h.running; may = may_to change h.may; room = omega (arith, world_to, h.room) }
    where
      may_to : (c : Change) → MayBeMade P es c → MayBeMade P ds c
      may_to (Ch.Def site) k = k
      may_to (Ch.Del place) k = finds_to place k

  pub spawn_to : (task child : ℕ) (start other : Start) → other.spawn ≡ start.spawn → IsSpawn P es task child start → IsSpawn P ds task child other
  spawn_to task child start other e h = record { running = running_to task h.running; of_program = omega (arith, e, h.of_program); next = omega (arith, h.next, s.tasks); room = omega (arith, s.tasks, h.room) }

pub absent_to : (P : Program) (es ds : List Event) → Same es ds → (place : ℕ) → IsAbsent P es place → IsAbsent P ds place
absent_to P es ds s place h = record { known = h.known; room = omega (arith, world_to P es ds s, h.room); absent = λ found. h.absent (finds_to P ds es (same_back es ds s) place found) }

pub comes_to : (P : Program) (es ds : List Event) (e d : Event) → AreAlike es ds → IsAlike e d → MayCome P es e → MayCome P ds d
comes_to P es ds (Ev.Begin fuel) d h k m =
    subst (MayCome P ds) (sym k) (record { nothing_before = subst (λ xs. AreAlike xs ds) m.nothing_before h; allowed = m.allowed })
comes_to P es ds (Ev.Key key) d h k m = subst (MayCome P ds) (sym k) (key_to P es ds (same es ds h) key m)
comes_to P es ds (Ev.Fill key site first) d h k m = subst (MayCome P ds) (sym k) (fill_to P es ds (same es ds h) key site first m)
comes_to P es ds (Ev.Def by site) d h k m = subst (MayCome P ds) (sym k) (change_to P es ds (same es ds h) by (Ch.Def site) m)
comes_to P es ds (Ev.Del by place) d h k m = subst (MayCome P ds) (sym k) (change_to P es ds (same es ds h) by (Ch.Del place) m)
comes_to P es ds (Ev.Spawn by child start) d h k m =
    let (other, is, place) = k in
    subst (MayCome P ds) (sym is) (spawn_to P es ds (same es ds h) by child start other place m)
comes_to P es ds (Ev.Done by ended) d h k m =
    let (other, is, steps) = k in
    subst (MayCome P ds) (sym is) (running_to P es ds (same es ds h) by m)
