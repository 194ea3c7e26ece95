-- What is asked of a state where a step is to be made, put together.
use Rattle.std.proofs.Common.{◌≡◌, ◌∙◌, ap, sym, subst, refl, ℕ, zero, suc, ◌+◌, ◌<◌, ◌≤◌, ◌⊎◌, ◌↔◌, inl, inr, arith, Bool, true, false, ◌&&◌, ◌||◌, nat_eq, nat_lt, nat_le, IsTrue, List, [], ◌∷◌, map, length, take, get_or, slice_get, slice_index_or, Option, None, Some}
use Rattle.std.specs.Bool.{Decides}
use Rattle.std.specs.List.{Contains}
use Rattle.jl_model.specs.declared.limits.TheConstants.{MOST_WORLDS, MOST_TASKS}
use Rattle.jl_model.specs.declared.ty.Key.{Key}
use Rattle.jl_program.specs.Prelude.{prelude_count}
use Rattle.jl_program.specs.declared.choice.Choice.{Choice}
use Rattle.jl_program.specs.declared.choice.Choice.TheVariants as Ch
use Rattle.jl_program.specs.declared.tree.Program.{Program}
use Rattle.jl_program.specs.declared.tree.Start.{Start}
use Rattle.jl_calculus.specs.declared.history.Change.{Change}
use Rattle.jl_calculus.specs.declared.history.Event.{Event}
use Rattle.jl_calculus.specs.declared.history.Event.TheVariants as Ev
use Rattle.jl_calculus.specs.declared.history.Record.{Record}
use Rattle.jl_calculus.specs.Core as C
use Rattle.jl_calculus.specs.Kept.{Places}
use Rattle.jl_calculus.specs.Legal.{IsKeyOf, MayBeMade, AreTrueOf, first_place}
use Rattle.jl_calculus.specs.Past.{tasks_of, IsInOrder, own_events, own_items}
use Rattle.jl_calculus.specs.Ranges.{CacheRow, keys_of, rows_of, Covers, IsCovered}
use Rattle.jl_calculus.specs.Words.{IsLastWorld, IsLastWith}
use Rattle.jl_calculus.specs.World.{world_of, Selects}
use Rattle.jl_core.specs.declared.range.Range.{Range}
use Rattle.jl_core.specs.declared.task.Task.{Task}
use Rattle.jl_core.specs.declared.words.Words.{Words}
use Rattle.jl_core.specs.Asked.{HasSeenThese, HasMethod, IsChoice, has_both, any_reached}
use Rattle.jl_core.specs.Flags.{IsRangeOrNone}
use Rattle.jl_core.specs.Kept.{Keeps}
use Rattle.jl_core.specs.Reached.{search_by}
use Rattle.jl_core.specs.View.{row_of, task_of, row_at}
use Rattle.jl_core.proofs.EnabledLemmas.{task_at, same_state, length_states, length_rows, some_or_none, same_key, same_row, row_low, row_key}
use Rattle.jl_core.proofs.EventLemmas.{contains_at, within}
use Rattle.jl_core.proofs.SearchLemmas.{reached_parts, covers_by}
use Rattle.jl_core.proofs.StepLemmas.{reached_sound}

-- ---- answers

-- what asks for more than a test that fails
pub refuted : {A B : Type 0} (b : Bool) → IsTrue b ↔ A → b ≡ false → (B → A) → IsTrue false ↔ B
refuted b h f g = (λ t. cc, λ y. (let k : true ≡ false = sym (h.1 (g y)) ∙ f in cc))

pub same_where : {A B : Type 0} (b : Bool) → IsTrue b ↔ A → (A → B) → (B → A) → IsTrue b ↔ B
same_where b h f g = (λ t. f (h.0 t), λ y. h.1 (g y))

and_parts : (a b : Bool) → a && b ≡ true → (a ≡ true) × (b ≡ true)
and_parts true b h = (refl, h)
and_parts false b h = cc

both : (a b : Bool) → a ≡ true → b ≡ true → a && b ≡ true
both a b h k = ap (λ z. z && b) h ∙ k

-- ---- numbers among others

in_range : (xs : List ℕ) (k d e : ℕ) → k < length xs → slice_index_or xs k d ≡ get_or xs k e
in_range [] k d e l = absurd (omega (arith, l))
in_range (x ∷ xs) zero d e l = refl
in_range (x ∷ xs) (suc k) d e l = in_range xs k d e (omega (arith, l))

-- one more is among them
pub among_more : (numbers sought : List ℕ) (i e : ℕ) → i < length sought → Contains numbers (get_or sought i e) → ((k d : ℕ) → k < i → Contains numbers (slice_index_or sought k d)) → (k d : ℕ) → k < i + 1
    → Contains numbers (slice_index_or sought k d)
among_more numbers sought i e l c so_far k d m = by (nat_eq k i) refl
  where
    by : (b : Bool) → nat_eq k i ≡ b → Contains numbers (slice_index_or sought k d)
    by true q = (let same : k ≡ i = grind (arith, q) in subst (Contains numbers) (sym (ap (λ n. slice_index_or sought n d) same ∙ in_range sought i d e l)) c)
    by false q = (let less : k < i = grind (arith, q, m) in so_far k d less)

pub all_among : (numbers sought : List ℕ) (i : ℕ) → length sought ≤ i → ((k d : ℕ) → k < i → Contains numbers (slice_index_or sought k d)) → (other : ℕ) → Contains sought other → Contains numbers other
all_among numbers sought i l so_far other (k, m, e) = subst (Contains numbers) e (so_far k other (omega (arith, l, m)))

-- ---- what was seen

-- the first so many events of a task that is there
pub seen_these : (s : C.Core) (ts xs : List Task) (es : List Event) (task : ℕ) (t : Task) → s.tasks ≡ map task_of ts → xs ≡ ts → es ≡ s.events → task < length xs → t ≡ get_or xs task t → HasSeenThese s task (take t.seen es)
seen_these s ts xs es task t m e q l is = record {
  state = task_of t;
  at = ap (λ (us : List C.TaskState). slice_get us task) (m ∙ ap (map task_of) (sym e)) ∙ task_at xs task t l is;
  these = ap (take t.seen) q;
}

both_parts : (es : List Event) (number w : ℕ) → has_both es number w ≡ true → (number < length (keys_of es)) × (prelude_count ≤ w) × (w ≤ world_of es)
both_parts es number w h =
    let one = and_parts (nat_lt number (length (keys_of es))) (nat_le prelude_count w && nat_le w (world_of es)) h in
    let two = and_parts (nat_le prelude_count w) (nat_le w (world_of es)) one.1 in
    (grind (arith, one.0), grind (arith, two.0), grind (arith, two.1))

both_made : (es : List Event) (number w : ℕ) → number < length (keys_of es) → prelude_count ≤ w → w ≤ world_of es → has_both es number w ≡ true
both_made es number w a b c =
    let x : nat_lt number (length (keys_of es)) ≡ true = grind (arith, a) in
    let y : nat_le prelude_count w ≡ true = grind (arith, b) in
    let z : nat_le w (world_of es) ≡ true = grind (arith, c) in
    both (nat_lt number (length (keys_of es))) (nat_le prelude_count w && nat_le w (world_of es)) x (both (nat_le prelude_count w) (nat_le w (world_of es)) y z)

module _ (P : Program) (room : Places) (s : C.Core) where
  pub seen_where : (task number w : ℕ) (seen : List Event) (b : Bool) → HasSeenThese s task seen → b ≡ has_both seen number w → IsTrue b ↔ C.HasSeen P room s task number w
  seen_where task number w seen b h is = (λ t. to t, λ k. from k)
    where
      to : b ≡ true → C.HasSeen P room s task number w
      to t =
          let k = both_parts (take h.state.seen s.events) number w (ap (λ es. has_both es number w) (sym h.these) ∙ sym is ∙ t) in
          record { state = h.state; at = h.at; key = k.0; low = k.1; high = k.2 }

      from : C.HasSeen P room s task number w → b ≡ true
      from k =
          let same : k.state ≡ h.state = same_state (slice_get s.tasks task) k.state h.state k.at h.at in
          let these : seen ≡ take k.state.seen s.events = h.these ∙ ap (λ (t : C.TaskState). take t.seen s.events) (sym same) in
          is ∙ ap (λ es. has_both es number w) these ∙ both_made (take k.state.seen s.events) number w k.key k.low k.high

  pub unseen : (task number w : ℕ) → slice_get s.tasks task ≡ None → C.HasSeen P room s task number w → ⊥
  unseen task number w e k = some_or_none (slice_get s.tasks task) k.state e k.at

  pub world_where : (task w : ℕ) (seen : List Event) (b : Bool) → HasSeenThese s task seen → b ≡ nat_le w (world_of seen) → IsTrue b ↔ C.HasSeenWorld P room s task w
  world_where task w seen b h is = (λ t. to t, λ k. from k)
    where
      to : b ≡ true → C.HasSeenWorld P room s task w
      to t =
          let k : nat_le w (world_of (take h.state.seen s.events)) ≡ true = ap (λ es. nat_le w (world_of es)) (sym h.these) ∙ sym is ∙ t in
          record { state = h.state; at = h.at; high = grind (arith, k) }

      from : C.HasSeenWorld P room s task w → b ≡ true
      from k =
          let same : k.state ≡ h.state = same_state (slice_get s.tasks task) k.state h.state k.at h.at in
          let these : seen ≡ take k.state.seen s.events = h.these ∙ ap (λ (t : C.TaskState). take t.seen s.events) (sym same) in
          let yes : nat_le w (world_of (take k.state.seen s.events)) ≡ true = grind (arith, k.high) in
          is ∙ ap (λ es. nat_le w (world_of es)) these ∙ yes

  pub no_world : (task w : ℕ) → slice_get s.tasks task ≡ None → C.HasSeenWorld P room s task w → ⊥
  no_world task w e k = some_or_none (slice_get s.tasks task) k.state e k.at

  -- ---- what is known

  pub known_where : (ts xs : List Task) (i : ℕ) (others : List ℕ) (t : Task) (known : List ℕ) (b : Bool) → s.tasks ≡ map task_of ts → xs ≡ ts → i < length xs → t ≡ get_or xs i t → known ≡ t.known.items
      → IsTrue b ↔ ((other : ℕ) → Contains others other → Contains known other) → IsTrue b ↔ C.Knows P room s i others
  known_where ts xs i others t known b m e l q n k =
      let at : slice_get s.tasks i ≡ Some (task_of t) = ap (λ (us : List C.TaskState). slice_get us i) (m ∙ ap (map task_of) (sym e)) ∙ task_at xs i t l q in (
        λ y. record { state = task_of t; at = at; each = λ other c. subst (λ ks. Contains ks other) n (k.0 y other c) },
        λ o. k.1 (λ other c. subst (λ ks. Contains ks other) (sym n) (subst (λ (u : C.TaskState). Contains u.known other) (same_state (slice_get s.tasks i) o.state (task_of t) o.at at) (o.each other c))),
      )

  pub known_not : (ts xs : List Task) (i : ℕ) (others : List ℕ) → s.tasks ≡ map task_of ts → xs ≡ ts → length xs ≤ i → C.Knows P room s i others → ⊥
  known_not ts xs i others m e l o = absurd (omega (arith, within s.tasks i o.state o.at, ap length m, length_states ts, ap length e, l))

-- ---- keys

pub named_key : (es : List Event) (key : Key) → Contains es (Ev.Key key) → Contains (keys_of es) key
named_key [] key (k, l, e) = absurd (omega (arith, l))
named_key (Ev.Key x ∷ es) key (zero, l, e) = (0, omega arith, (let q : x ≡ key = cc in q))
named_key (Ev.Key x ∷ es) key (suc k, l, e) = let (i, m, q) = named_key es key (k, omega (arith, l), e) in (suc i, omega (arith, m), q)
named_key (Ev.Begin fuel ∷ es) key (zero, l, e) = cc
named_key (Ev.Begin fuel ∷ es) key (suc k, l, e) = named_key es key (k, omega (arith, l), e)
named_key (Ev.Fill n site first ∷ es) key (zero, l, e) = cc
named_key (Ev.Fill n site first ∷ es) key (suc k, l, e) = named_key es key (k, omega (arith, l), e)
named_key (Ev.Def task site ∷ es) key (zero, l, e) = cc
named_key (Ev.Del task place ∷ es) key (zero, l, e) = cc
named_key (Ev.Def task site ∷ es) key (suc k, l, e) = named_key es key (k, omega (arith, l), e)
named_key (Ev.Del task place ∷ es) key (suc k, l, e) = named_key es key (k, omega (arith, l), e)
named_key (Ev.Spawn task child start ∷ es) key (zero, l, e) = cc
named_key (Ev.Spawn task child start ∷ es) key (suc k, l, e) = named_key es key (k, omega (arith, l), e)
named_key (Ev.Done task ended ∷ es) key (zero, l, e) = cc
named_key (Ev.Done task ended ∷ es) key (suc k, l, e) = named_key es key (k, omega (arith, l), e)

later : {X : Type 0} (x : X) (xs : List X) (y : X) → Contains xs y → Contains (x ∷ xs) y
later x xs y (k, l, e) = (suc k, omega (arith, l), e)

pub key_named : (es : List Event) (key : Key) → Contains (keys_of es) key → Contains es (Ev.Key key)
key_named [] key (k, l, e) = absurd (omega (arith, l))
key_named (Ev.Key x ∷ es) key (zero, l, e) = (0, omega arith, ap (λ (y : Key). Ev.Key y) e)
key_named (Ev.Key x ∷ es) key (suc k, l, e) = later (Ev.Key x) es (Ev.Key key) (key_named es key (k, omega (arith, l), e))
key_named (Ev.Begin fuel ∷ es) key c = later (Ev.Begin fuel) es (Ev.Key key) (key_named es key c)
key_named (Ev.Fill n site first ∷ es) key c = later (Ev.Fill n site first) es (Ev.Key key) (key_named es key c)
key_named (Ev.Def task site ∷ es) key c = later (Ev.Def task site) es (Ev.Key key) (key_named es key c)
key_named (Ev.Del task place ∷ es) key c = later (Ev.Del task place) es (Ev.Key key) (key_named es key c)
key_named (Ev.Spawn task child start ∷ es) key c = later (Ev.Spawn task child start) es (Ev.Key key) (key_named es key c)
key_named (Ev.Done task ended ∷ es) key c = later (Ev.Done task ended) es (Ev.Key key) (key_named es key c)

-- ---- rows that cover a world

-- a row of a key that covers a world, as its words tell
record IsReachedBy (number w : ℕ) (ws : List Words) : Type 0 where
  r : ℕ
  x : Words
  at : slice_get ws r ≡ Some x
  of : x.key ≡ number
  reached : C.is_reached x.first x.last w ≡ true

or_cases : (a b : Bool) → a || b ≡ true → (a ≡ true) ⊎ (b ≡ true)
or_cases true b h = inl refl
or_cases false b h = inr h

reached_by : (number w : ℕ) (ws : List Words) → any_reached number w ws ≡ true → IsReachedBy number w ws
reached_by number w [] h = cc
reached_by number w (x ∷ xs) h = by (or_cases (nat_eq x.key number && C.is_reached x.first x.last w) (any_reached number w xs) h) (λ k. reached_by number w xs k)
  where
    by : (nat_eq x.key number && C.is_reached x.first x.last w ≡ true) ⊎ (any_reached number w xs ≡ true) → (any_reached number w xs ≡ true → IsReachedBy number w xs) → IsReachedBy number w (x ∷ xs)
    by (inl e) go = (let k = and_parts (nat_eq x.key number) (C.is_reached x.first x.last w) e in record { r = 0; x = x; at = refl; of = grind (arith, k.0); reached = k.1 })
    by (inr e) go = (let k = go e in record { r = suc k.r; x = k.x; at = k.at; of = k.of; reached = k.reached })

or_right : (a b : Bool) → b ≡ true → a || b ≡ true
or_right true b h = refl
or_right false b h = h

or_left : (a b : Bool) → a ≡ true → a || b ≡ true
or_left true b h = refl
or_left false b h = cc

reached_at : (number w : ℕ) (ws : List Words) (r : ℕ) (x : Words) → slice_get ws r ≡ Some x → x.key ≡ number → C.is_reached x.first x.last w ≡ true → any_reached number w ws ≡ true
reached_at number w [] r x at of k = cc
reached_at number w (y ∷ ys) zero x at of k =
    let same : y ≡ x = cc in
    let key : nat_eq y.key number ≡ true = grind (arith, ap (λ (z : Words). z.key) same ∙ of) in
    or_left (nat_eq y.key number && C.is_reached y.first y.last w) (any_reached number w ys)
    (both (nat_eq y.key number) (C.is_reached y.first y.last w) key (ap (λ (z : Words). C.is_reached z.first z.last w) same ∙ k))
reached_at number w (y ∷ ys) (suc r) x at of k = or_right (nat_eq y.key number && C.is_reached y.first y.last w) (any_reached number w ys) (reached_at number w ys r x at of k)

reached_made : (first last w : ℕ) → first ≤ w → (last ≡ 0) ⊎ (w ≤ last) → C.is_reached first last w ≡ true
reached_made first last w l k = both (nat_le first w) (nat_eq last 0 || nat_le w last) (let x : nat_le first w ≡ true = grind (arith, l) in x) (by k)
  where
    by : (last ≡ 0) ⊎ (w ≤ last) → nat_eq last 0 || nat_le w last ≡ true
    by (inl e) = or_left (nat_eq last 0) (nat_le w last) (let x : nat_eq last 0 ≡ true = grind (arith, e) in x)
    by (inr m) = or_right (nat_eq last 0) (nat_le w last) (let x : nat_le w last ≡ true = grind (arith, m) in x)

nothing : (r : ℕ) → Contains {X = ℕ} [] r → ⊥
nothing r (k, l, e) = absurd (omega (arith, l))

at_index : {X : Type 0} (xs : List X) (k : ℕ) (x : X) → k < length xs → slice_index_or xs k x ≡ x → slice_get xs k ≡ Some x
at_index [] k x l e = absurd (omega (arith, l))
at_index (y ∷ xs) zero x l e = ap (λ z. Some z) e
at_index (y ∷ xs) (suc k) x l e = at_index xs k x (omega (arith, l)) e

-- the words of a row
words_at : (ws : List Words) (k : ℕ) (row : CacheRow) → slice_get (map row_of ws) k ≡ Some row → (x : Words) × (slice_get ws k ≡ Some x) × (row_of x ≡ row)
words_at [] k row e = cc
words_at (w ∷ ws) zero row e = (w, refl, (let q : row_of w ≡ row = cc in q))
words_at (w ∷ ws) (suc k) row e = words_at ws k row e

module _ (P : Program) (room : Places) (s : C.Core) (ws : List Words) (h : Keeps P room s ws) where
  -- its last world, while no change is open
  last_of : (o : Option C.Opened) (r : ℕ) (key : Key) (first last : ℕ) → o ≡ None → IsLastWith P s.events (C.cut_for o) r key first last → IsLastWorld P s.events key first last
  last_of None r key first last e (inl (c, q)) = absurd (nothing r c)
  last_of None r key first last e (inr (n, k)) = k
  last_of (Some o) r key first last e k = cc

  pub covered_by : s.opened ≡ None → (number : ℕ) (key : Key) (w : ℕ) → slice_get (keys_of s.events) number ≡ Some key → any_reached number w ws ≡ true → IsCovered P s.events number key w
  covered_by closed number key w named any =
      let k = reached_by number w ws any in
      let words = h.words_told.each k.r k.x k.at in
      let of : words.row.key ≡ number = row_key P room s ws h k.r k.x words.row k.at words.stands ∙ k.of in
      let same : words.key ≡ key = same_key (slice_get (keys_of s.events) number) words.key key (ap (slice_get (keys_of s.events)) (sym of) ∙ words.named) named in
      let ends : IsLastWorld P s.events key words.row.first k.x.last = subst (λ (x : Key). IsLastWorld P s.events x words.row.first k.x.last) same (last_of s.opened k.r words.key words.row.first k.x.last closed words.last_word) in
      let parts = reached_parts P s.events k.x.first k.x.last w k.reached in
      let begins : words.row.first ≤ w = omega (arith, parts.0, words.first_word) in
      let low = row_low P room s ws h k.r words.row words.stands in
      (words.row, record { stands = contains_at (rows_of s.events) k.r words.row words.stands; of_key = of; covers = covers_by P s.events key words.row.first k.x.last w low begins parts.1 ends })

  last_reaches : (key : Key) (first last w : ℕ) → Covers P s.events key first w → IsLastWorld P s.events key first last → (last ≡ 0) ⊎ (w ≤ last)
  last_reaches key first last w c (inl (e, n)) = inl e
  last_reaches key first last w c (inr k) = inr (by (nat_le w last) refl)
    where
      by : (b : Bool) → nat_le w last ≡ b → w ≤ last
      by true q = grind (arith, q)
      by false q = (let far : last + 1 ≤ w = grind (arith, q) in absurd (c.going (last + 1) (omega (arith, k.covers.begun)) far k.touched))

  pub reached_of : s.opened ≡ None → (number : ℕ) (key : Key) (w : ℕ) → slice_get (keys_of s.events) number ≡ Some key → IsCovered P s.events number key w → any_reached number w ws ≡ true
  reached_of closed number key w named (row, k) =
      let (i, l, e) = k.stands in
      let at : slice_get (rows_of s.events) i ≡ Some row = at_index (rows_of s.events) i row l e in
      let (x, there, is) = words_at ws i row (ap (λ (rs : List CacheRow). slice_get rs i) h.words_told.rows ∙ at) in
      let words = h.words_told.each i x there in
      let one : words.row ≡ row = same_row (slice_get (rows_of s.events) i) words.row row words.stands at in
      let of : words.row.key ≡ number = ap (λ (y : CacheRow). y.key) one ∙ k.of_key in
      let same : words.key ≡ key = same_key (slice_get (keys_of s.events) number) words.key key (ap (slice_get (keys_of s.events)) (sym of) ∙ words.named) named in
      let ends : IsLastWorld P s.events key words.row.first x.last = subst (λ (y : Key). IsLastWorld P s.events y words.row.first x.last) same (last_of s.opened i words.key words.row.first x.last closed words.last_word) in
      let covers : Covers P s.events key words.row.first w = subst (λ (y : CacheRow). Covers P s.events key y.first w) (sym one) k.covers in
      reached_at number w ws i x there (ap (λ (y : CacheRow). y.key) is ∙ k.of_key)
      (reached_made x.first x.last w (omega (arith, covers.begun, words.first_word)) (last_reaches key words.row.first x.last w covers ends))

  count_rows : length ws ≡ length (rows_of s.events)
  count_rows = sym (length_rows ws) ∙ ap length h.words_told.rows

  -- ---- a fill

  -- there is no place for a row
  pub no_place : (task number w : ℕ) → room.rows ≤ length ws → C.CanFill P room s task number w → ⊥
  no_place task number w l k = absurd (omega (arith, l, count_rows, k.place))

  -- a row covers the world
  pub is_there : (task number w : ℕ) → any_reached number w ws ≡ true → C.CanFill P room s task number w → ⊥
  is_there task number w any k = k.uncovered (covered_by k.free.closed number k.key w k.named any)

  pub fill_where : (task number w : ℕ) (b : Bool) → C.IsFree P room s task → C.HasSeen P room s task number w → length ws < room.rows → any_reached number w ws ≡ false → IsTrue b ↔ HasMethod P s.events number w
      → IsTrue b ↔ C.CanFill P room s task number w
  fill_where task number w b free seen l none m = (λ t. to (m.0 t), λ k. m.1 (record { key = k.key; named = k.named; choice = k.choice }))
    where
      to : HasMethod P s.events number w → C.CanFill P room s task number w
      to k = record {
        free = free;
        seen = seen;
        key = k.key;
        named = k.named;
        choice = k.choice;
        uncovered = λ c. (let q : true ≡ false = sym (reached_of free.closed number k.key w k.named c) ∙ none in absurd (cc q));
        place = omega (arith, l, count_rows);
      }

  pub few_known : world_of s.events ≤ 65535
  few_known = (reached_sound P room s h.reached).events.few_worlds

  -- ---- a spawn and an end

  pub seen_long : (ts xs : List Task) (es : List Event) (task : ℕ) (t : Task) → s.tasks ≡ map task_of ts → xs ≡ ts → es ≡ s.events → task < length xs → t ≡ get_or xs task t → t.seen ≤ length es
  seen_long ts xs es task t m e q l is =
      let at : slice_get s.tasks task ≡ Some (task_of t) = ap (λ (us : List C.TaskState). slice_get us task) (m ∙ ap (map task_of) (sym e)) ∙ task_at xs task t l is in
      let k : t.seen ≤ length s.events = ((reached_sound P room s h.reached).tasks task (task_of t) at).seen in
      omega (arith, k, ap length q)

-- ---- a method

pub choice_there : (P Q : Program) (es xs : List Event) (number w : ℕ) (key : Key) (choice : Choice) → Q ≡ P → xs ≡ es → slice_get (keys_of xs) number ≡ Some key → w ≤ world_of xs → Selects Q xs key.function key.types w choice
    → IsChoice P es number w choice
choice_there P Q es xs number w key choice p e named l k = record {
  key = key;
  named = ap (λ ys. slice_get (keys_of ys) number) (sym e) ∙ named;
  known = omega (arith, l, ap world_of e);
  selects = subst (λ ys. Selects P ys key.function key.types w choice) e (subst (λ R. Selects R xs key.function key.types w choice) p k);
}

pub no_name : (P : Program) (es : List Event) (number w : ℕ) → slice_get (keys_of es) number ≡ None → HasMethod P es number w → ⊥
no_name P es number w e k = some_or_none (slice_get (keys_of es) number) k.key e k.named

pub method_there : (P : Program) (es : List Event) (number w : ℕ) (key : Key) (range : Range) (o : Option Range) → slice_get (keys_of es) number ≡ Some key → o ≡ Some range → IsRangeOrNone P es key w o → HasMethod P es number w
method_there P es number w key range o named is h =
    let k = subst (IsRangeOrNone P es key w) is h in
    let (d, s, e) = k.choice in
    record { key = key; named = named; choice = (d, s) }

pub no_method : (P : Program) (es : List Event) (number w : ℕ) (key : Key) (o : Option Range) → slice_get (keys_of es) number ≡ Some key → o ≡ None → IsRangeOrNone P es key w o → HasMethod P es number w → ⊥
no_method P es number w key o named is h m =
    let same : m.key ≡ key = same_key (slice_get (keys_of es) number) m.key key m.named named in
    let (d, s) = m.choice in
    subst (IsRangeOrNone P es key w) is h d (subst (λ (x : Key). Selects P es x.function x.types w (Ch.Method d)) same s)

-- ---- an end

pub end_where : (P : Program) (room : Places) (s : C.Core) (task : ℕ) (ended : Record) (b : Bool) → C.IsFree P room s task → AreTrueOf P s.events task ended.trace × IsInOrder (first_place task 0 s.events) ended.trace (length s.events)
    → own_events task 0 s.events ≡ own_items ended.trace → IsTrue b ↔ C.Knows P room s task (C.in_outcome ended.outcome) → IsTrue b ↔ C.CanEnd P room s task ended
end_where P room s task ended b free (true_items, order) own k = (
  λ t. record { free = free; traced = record { true_items = true_items; in_order = order }; own = own; known = k.0 t },
  λ e. k.1 e.known,
)

-- ---- a search that is at a row

row_stand : (stand : C.Stand) (r : ℕ) → row_at stand ≡ Some r → stand ≡ C.at_row r
row_stand (C.at_row q) r e = ap C.at_row (let k : q ≡ r = cc in k)
row_stand (C.found site) r e = cc
row_stand C.missed r e = cc

no_row_stand : (stand : C.Stand) (r : ℕ) → row_at stand ≡ None → stand ≡ C.at_row r → ⊥
no_row_stand (C.at_row q) r e k = cc
no_row_stand (C.found site) r e k = cc
no_row_stand C.missed r e k = cc

searching : (o : Option C.TaskState) (search : C.Search) → search_by o ≡ Some search → (t : C.TaskState) × (o ≡ Some t) × (t.search ≡ Some search)
searching None search e = cc
searching (Some t) search e = (t, refl, e)

same_search : (o : Option C.Search) (a b : C.Search) → o ≡ Some a → o ≡ Some b → a ≡ b
same_search o a b h k = cc

module _ (P : Program) (room : Places) (s : C.Core) (task : ℕ) where
  search_is : (t : C.TaskState) (search : C.Search) → slice_get s.tasks task ≡ Some t → t.search ≡ Some search → search_by (slice_get s.tasks task) ≡ Some search
  search_is t search at e = ap search_by at ∙ e

  pub at_a_row : (search : C.Search) (r : ℕ) → search_by (slice_get s.tasks task) ≡ Some search → row_at search.stand ≡ Some r → C.CanRead P room s task
  at_a_row search r e k = let (t, at, q) = searching (slice_get s.tasks task) search e in (t, search, r, record { at = at; searching = q; stands = row_stand search.stand r k })

  pub at_no_row : (search : C.Search) → search_by (slice_get s.tasks task) ≡ Some search → row_at search.stand ≡ None → C.CanRead P room s task → ⊥
  at_no_row search e k (t, other, r, at) =
      let same : other ≡ search = same_search (search_by (slice_get s.tasks task)) other search (search_is t other at.at at.searching) e in
      no_row_stand search.stand r k (ap (λ (x : C.Search). x.stand) (sym same) ∙ at.stands)

  pub no_search : search_by (slice_get s.tasks task) ≡ None → C.CanRead P room s task → ⊥
  no_search e (t, search, r, at) = some_or_none (search_by (slice_get s.tasks task)) search e (search_is t search at.at at.searching)

-- ---- keys, changes and spawns

pub name_where : (P : Program) (room : Places) (s : C.Core) (task : ℕ) (key : Key) (b : Bool) → C.IsFree P room s task → length (keys_of s.events) < room.keys → (Contains (keys_of s.events) key → ⊥)
    → Decides b (IsKeyOf P key) → IsTrue b ↔ C.CanName P room s task key
name_where P room s task key b free place new h = (λ t. record { free = free; proper = h.0 t; new = new; place = place }, λ k. h.1 k.proper)

pub open_where : (P : Program) (room : Places) (s : C.Core) (task : ℕ) (change : Change) (b : Bool) → C.IsFree P room s task → world_of s.events < MOST_WORLDS → IsTrue b ↔ MayBeMade P s.events change → IsTrue b ↔ C.CanOpen P room s task change
open_where P room s task change b free place h = (λ t. record { free = free; may = h.0 t; place = place }, λ k. h.1 k.may)

pub spawn_where : (P : Program) (room : Places) (s : C.Core) (task : ℕ) (start : Start) (b : Bool) → C.IsFree P room s task → tasks_of s.events < MOST_TASKS → start.spawn < length P.spawns → C.HasSeenWorld P room s task start.world
    → IsTrue b ↔ C.Knows P room s task (C.in_start start) → IsTrue b ↔ C.CanSpawn P room s task start
spawn_where P room s task start b free place of world h = (λ t. record { free = free; place = place; of_program = of; world = world; known = h.0 t }, λ k. h.1 k.known)
