-- When steps are enabled.
use Rattle.std.proofs.Common.{◌≡◌, ◌∙◌, ap, sym, subst, refl, ℕ, zero, suc, ◌+◌, ◌<◌, ◌≤◌, ◌↔◌, inl, inr, arith, Bool, true, false, nat_eq, IsTrue, List, [], ◌∷◌, map, length, get_or, slice_get, Option, None, Some, MatchOption}
use Rattle.std.specs.List.{Contains}
use Rattle.jl_model.specs.declared.ty.Key.{Key}
use Rattle.jl_program.specs.Prelude.{prelude_count}
use Rattle.jl_program.specs.declared.tree.Program.{Program}
use Rattle.jl_calculus.specs.declared.history.Record.{Record}
use Rattle.jl_calculus.specs.Core as C
use Rattle.jl_calculus.specs.Kept.{Places}
use Rattle.jl_calculus.specs.Legal.{IsRunning, IsKeyOf}
use Rattle.jl_calculus.specs.Past.{done_of}
use Rattle.jl_calculus.specs.Ranges.{CacheRow, keys_of, rows_of, head_of, HeadTouches, HasNoEnd, MayBegin}
use Rattle.jl_calculus.specs.Words.{IsLastWith, IsRowWords}
use Rattle.jl_core.specs.declared.task.Task.{Task}
use Rattle.jl_core.specs.declared.words.Words.{Words}
use Rattle.jl_core.specs.Kept.{Keeps}
use Rattle.jl_core.specs.Reached.{KnowsOne}
use Rattle.jl_core.specs.View.{row_of, task_of}
use Rattle.jl_core.proofs.EventLemmas.{contains_at, within}
use Rattle.jl_core.proofs.KeepLemmas.{count_of}
use Rattle.jl_core.proofs.Sound.{IsSound}
use Rattle.jl_core.proofs.StepLemmas.{reached_sound}

pub yes_where : {A : Type 0} → A → IsTrue true ↔ A
yes_where a = (λ t. a, λ b. refl)

pub no_where : {A : Type 0} → (A → ⊥) → IsTrue false ↔ A
no_where n = (λ t. cc, λ a. absurd (n a))

pub same_key : (o : Option Key) (a b : Key) → o ≡ Some a → o ≡ Some b → a ≡ b
same_key o a b h k = cc

pub same_row : (o : Option CacheRow) (a b : CacheRow) → o ≡ Some a → o ≡ Some b → a ≡ b
same_row o a b h k = cc

same_opened : (o : Option C.Opened) (a b : C.Opened) → o ≡ Some a → o ≡ Some b → a ≡ b
same_opened o a b h k = cc

pub some_or_none : {X A : Type 0} (o : Option X) (x : X) → o ≡ None → o ≡ Some x → A
some_or_none None x p q = cc
some_or_none (Some y) x p q = cc

pub none_told : {X : Type 0} (o : Option X) (A : Type 0) (B : X → Type 0) → o ≡ None → MatchOption o A B → A
none_told None A B e m = m
none_told (Some x) A B e m = cc

-- what holds of no number below one holds of none below the next, where it does not hold of that
pub below_one : (Q : ℕ → Type 0) (n : ℕ) → ((r : ℕ) → r < n → Q r → ⊥) → (Q n → ⊥) → (r : ℕ) → r < n + 1 → Q r → ⊥
below_one Q n f g r l q = by (nat_eq r n) refl
  where
    by : (b : Bool) → nat_eq r n ≡ b → ⊥
    by true e = g (subst Q (let k : r ≡ n = grind (arith, e) in k) q)
    by false e = f r (let k : r < n = grind (arith, e, l) in k) q

pub not_both : (b : Bool) → b ≡ true → b ≡ false → ⊥
not_both b p q = cc

pub length_rows : (ws : List Words) → length (map row_of ws) ≡ length ws
length_rows [] = refl
length_rows (w ∷ ws) = ap suc (length_rows ws)

module _ (P : Program) (room : Places) (s : C.Core) (ws : List Words) (h : Keeps P room s ws) where
  sound : IsSound P s
  sound = reached_sound P room s h.reached

  -- ---- running

  pub not_there : (ts : List Task) (task : ℕ) → s.tasks ≡ map task_of ts → length ts ≤ task → IsRunning s.events task → ⊥
  not_there ts task e l k = absurd (omega (arith, count_of P room s ws h ts e, l, k.started))

  pub has_ended : (task : ℕ) (r : Record) → done_of task s.events ≡ Some r → IsRunning s.events task → ⊥
  has_ended task r e k = some_or_none (done_of task s.events) r k.going e

  pub is_running : (ts : List Task) (task : ℕ) → s.tasks ≡ map task_of ts → task < length ts → done_of task s.events ≡ None → IsRunning s.events task
  is_running ts task e l q = record { begun = sound.events.stand.begun; started = omega (arith, count_of P room s ws h ts e, l); going = q }

  pub not_free : (task : ℕ) (o : C.Opened) → s.opened ≡ Some o → C.IsFree P room s task → ⊥
  not_free task o e k = some_or_none s.opened o k.closed e

  pub free_where : (task : ℕ) (b : Bool) → s.opened ≡ None → IsTrue b ↔ IsRunning s.events task → IsTrue b ↔ C.IsFree P room s task
  free_where task b e k = (λ t. record { running = k.0 t; closed = e }, λ f. k.1 f.running)

  -- ---- a row that is left

  pub nothing_open : (r : ℕ) → s.opened ≡ None → C.CanCut P room s r → ⊥
  nothing_open r e (o, q, left) = some_or_none s.opened o e q

  pub no_row : (r : ℕ) → length ws ≤ r → C.CanCut P room s r → ⊥
  no_row r l (o, q, left) = absurd (omega (arith, l, within (rows_of s.events) r left.ends.row left.ends.stands, length_rows ws, ap length h.words_told.rows))

  first_low : (key : Key) (first : ℕ) → MayBegin P s.events key first → prelude_count ≤ first
  first_low key first (inl e) = omega (arith, e)
  first_low key first (inr (low, t)) = omega (arith, low)

  pub row_low : (r : ℕ) (row : CacheRow) → slice_get (rows_of s.events) r ≡ Some row → prelude_count ≤ row.first
  row_low r row e = (let k = sound.events.rows row (contains_at (rows_of s.events) r row e) in first_low k.key row.first k.right.begun)

  -- its last world is 0 exactly where it was not cut and has no end
  last_none : (r : ℕ) (key : Key) (row : CacheRow) (last : ℕ) → slice_get (rows_of s.events) r ≡ Some row → IsLastWith P s.events (C.cut_for s.opened) r key row.first last → last ≡ 0
      → HasNoEnd P s.events key row.first × (Contains (C.cut_for s.opened) r → ⊥)
  last_none r key row last at (inl (c, e)) z = absurd (omega (arith, e, z))
  last_none r key row last at (inr (n, inl (e, k))) z = (k, n)
  last_none r key row last at (inr (n, inr k)) z = absurd (omega (arith, row_low r row at, k.covers.begun, z))

  last_some : (r : ℕ) (key : Key) (first last : ℕ) → IsLastWith P s.events (C.cut_for s.opened) r key first last → (last ≡ 0 → ⊥) → HasNoEnd P s.events key first → (Contains (C.cut_for s.opened) r → ⊥) → ⊥
  last_some r key first last (inl (c, e)) z k n = n c
  last_some r key first last (inr (m, inl (e, k))) z j n = z e
  last_some r key first last (inr (m, inr k)) z j n = j (last + 1) (omega (arith, k.covers.begun)) k.touched

  left_key : (r : ℕ) (w : Words) (o : C.Opened) → slice_get ws r ≡ Some w → s.opened ≡ Some o → C.IsLeft P room s o r → IsRowWords P s.events (C.cut_for s.opened) r w.site w.first w.last w.next
  left_key r w o at e left = h.words_told.each r w at

  -- a row that has an end is not left
  pub has_end : (r : ℕ) (w : Words) → slice_get ws r ≡ Some w → (w.last ≡ 0 → ⊥) → C.CanCut P room s r → ⊥
  has_end r w at z (o, q, left) =
      let k = h.words_told.each r w at in
      let one : k.row ≡ left.ends.row = same_row (slice_get (rows_of s.events) r) k.row left.ends.row k.stands left.ends.stands in
      let two : k.key ≡ left.ends.key =
      same_key (slice_get (keys_of s.events) left.ends.row.key) k.key left.ends.key (subst (λ (x : CacheRow). slice_get (keys_of s.events) x.key ≡ Some k.key) one k.named) left.ends.named in
      let open_end : HasNoEnd P s.events k.key k.row.first =
      subst (λ (x : Key). HasNoEnd P s.events x k.row.first) (sym two) (subst (λ (x : CacheRow). HasNoEnd P s.events left.ends.key x.first) (sym one) left.ends.no_end) in
      last_some r k.key k.row.first w.last k.last_word z open_end (subst (λ (x : Option C.Opened). Contains (C.cut_for x) r → ⊥) (sym q) left.not_cut)

  -- the key of a row is there
  pub row_key : (r : ℕ) (w : Words) (row : CacheRow) → slice_get ws r ≡ Some w → slice_get (rows_of s.events) r ≡ Some row → row.key ≡ w.key
  row_key r w row at e = by ws r at (ap (λ (xs : List CacheRow). slice_get xs r) h.words_told.rows ∙ e)
    where
      by : (vs : List Words) (n : ℕ) → slice_get vs n ≡ Some w → slice_get (map row_of vs) n ≡ Some row → row.key ≡ w.key
      by [] n p q = cc
      by (v ∷ vs) zero p q = (let a : v ≡ w = cc in let b : row_of v ≡ row = cc in sym (ap (λ (x : CacheRow). x.key) b) ∙ ap (λ (x : Words). x.key) a)
      by (v ∷ vs) (suc n) p q = by vs n p q

  pub no_key : (r : ℕ) (w : Words) → slice_get ws r ≡ Some w → slice_get (keys_of s.events) w.key ≡ None → C.CanCut P room s r → ⊥
  no_key r w at e (o, q, left) =
      some_or_none (slice_get (keys_of s.events) w.key) left.ends.key e (subst (λ n. slice_get (keys_of s.events) n ≡ Some left.ends.key) (row_key r w left.ends.row at left.ends.stands) left.ends.named)

  pub key_proper : (number : ℕ) (key : Key) → slice_get (keys_of s.events) number ≡ Some key → IsKeyOf P key
  key_proper number key e = sound.events.proper key (contains_at (keys_of s.events) number key e)

  -- a row without an end is left exactly where the open change touches its key
  pub left_where : (r : ℕ) (w : Words) (o : C.Opened) (key : Key) (b : Bool) → slice_get ws r ≡ Some w → w.last ≡ 0 → s.opened ≡ Some o → slice_get (keys_of s.events) w.key ≡ Some key
      → IsTrue b ↔ HeadTouches P (head_of P o.change) key → IsTrue b ↔ C.CanCut P room s r
  left_where r w o key b at z e named k = (λ t. to (k.0 t), λ c. k.1 (from c))
    where
      to : HeadTouches P (head_of P o.change) key → C.CanCut P room s r
      to t =
          let words = h.words_told.each r w at in
          let number : words.row.key ≡ w.key = row_key r w words.row at words.stands in
          let one : words.key ≡ key = same_key (slice_get (keys_of s.events) w.key) words.key key (subst (λ n. slice_get (keys_of s.events) n ≡ Some words.key) number words.named) named in
          let none_left = last_none r words.key words.row w.last words.stands words.last_word z in (
            o,
            e,
            record {
              ends = record { row = words.row; stands = words.stands; key = words.key; named = words.named; no_end = none_left.0; touched = subst (HeadTouches P (head_of P o.change)) (sym one) t };
              not_cut = subst (λ (x : Option C.Opened). Contains (C.cut_for x) r → ⊥) e none_left.1;
            },
          )

      from : C.CanCut P room s r → HeadTouches P (head_of P o.change) key
      from (p, q, left) =
          let same : p ≡ o = same_opened s.opened p o q e in
          let number : left.ends.row.key ≡ w.key = row_key r w left.ends.row at left.ends.stands in
          let one : left.ends.key ≡ key = same_key (slice_get (keys_of s.events) w.key) left.ends.key key (subst (λ n. slice_get (keys_of s.events) n ≡ Some left.ends.key) number left.ends.named) named in
          subst (HeadTouches P (head_of P o.change)) one (subst (λ (x : C.Opened). HeadTouches P (head_of P x.change) left.ends.key) same left.ends.touched)

  -- ---- publishing

  pub not_closed : s.opened ≡ None → C.CanPublish P room s → ⊥
  not_closed e (o, q, past) = some_or_none s.opened o e q

  pub some_left : (r : ℕ) → C.CanCut P room s r → C.CanPublish P room s → ⊥
  some_left r (o, q, left) (p, e, past) = past r (subst (λ (x : C.Opened). C.IsLeft P room s x r) (same_opened s.opened o p q e) left)

  pub none_left : (o : C.Opened) → s.opened ≡ Some o → ((r : ℕ) → r < length ws → C.CanCut P room s r → ⊥) → C.CanPublish P room s
  none_left o e f = (o, e, λ r left. (let l : r < length ws = omega (arith, within (rows_of s.events) r left.ends.row left.ends.stands, length_rows ws, ap length h.words_told.rows) in f r l (o, e, left)))

-- ---- what a task knows

pub task_at : (ts : List Task) (i : ℕ) (t : Task) → i < length ts → t ≡ get_or ts i t → slice_get (map task_of ts) i ≡ Some (task_of t)
task_at [] i t l e = absurd (omega (arith, l))
task_at (x ∷ ts) zero t l e = ap (λ (y : Task). Some (task_of y)) (sym e)
task_at (x ∷ ts) (suc i) t l e = task_at ts i t (omega (arith, l)) e

pub same_state : (o : Option C.TaskState) (a b : C.TaskState) → o ≡ Some a → o ≡ Some b → a ≡ b
same_state o a b h k = cc

pub length_states : (ts : List Task) → length (map task_of ts) ≡ length ts
length_states [] = refl
length_states (t ∷ ts) = ap suc (length_states ts)

pub knows_where : (s : C.Core) (ts xs : List Task) (i other : ℕ) (t : Task) (known : List ℕ) (b : Bool) → s.tasks ≡ map task_of ts → xs ≡ ts → i < length xs → t ≡ get_or xs i t → known ≡ t.known.items → IsTrue b ↔ Contains known other
    → IsTrue b ↔ KnowsOne s i other
knows_where s ts xs i other t known b m e l q n k =
    let at : slice_get s.tasks i ≡ Some (task_of t) = ap (λ (us : List C.TaskState). slice_get us i) (m ∙ ap (map task_of) (sym e)) ∙ task_at xs i t l q in (
      λ y. (task_of t, at, subst (λ ks. Contains ks other) n (k.0 y)),
      λ o. k.1 (subst (λ ks. Contains ks other) (sym n) (subst (λ (u : C.TaskState). Contains u.known other) (same_state (slice_get s.tasks i) o.0 (task_of t) o.1 at) o.2)),
    )

pub knows_not : (s : C.Core) (ts xs : List Task) (i other : ℕ) → s.tasks ≡ map task_of ts → xs ≡ ts → length xs ≤ i → KnowsOne s i other → ⊥
knows_not s ts xs i other m e l (t, at, c) = absurd (omega (arith, within s.tasks i t at, ap length m, length_states ts, ap length e, l))

pub fetch_where : (P : Program) (room : Places) (s : C.Core) (task of : ℕ) (b : Bool) (r : Record) → IsTrue b ↔ C.IsFree P room s task → KnowsOne s task of → done_of of s.events ≡ Some r → IsTrue b ↔ C.CanFetch P room s task of
fetch_where P room s task of b r k (t, at, c) e = (λ y. record { free = k.0 y; known = record { state = t; at = at; each = λ other d. by other d }; ended = (r, e) }, λ f. k.1 f.free)
  where
    by : (other : ℕ) → Contains (of ∷ []) other → Contains t.known other
    by other (zero, l, q) = subst (Contains t.known) q c
    by other (suc i, l, q) = absurd (omega (arith, l))
