-- The loads of a task's seat keep the rule.
use Rattle.std.proofs.Common.{◌≡◌, ◌∙◌, ap, sym, subst, refl, ℕ, zero, suc, ◌+◌, ◌*◌, ◌/◌, ◌%◌, ◌<◌, ◌≤◌, ◌⊎◌, inl, inr, max, arith, Bool, true, false, nat_eq, List, [], ◌∷◌, ◌++◌, length, take, drop, take-append-drop, set, slice_get, append-nil, Option, Some, None}
use Rattle.std.proofs.lemmas.List.{length-take-le}
use Rattle.std.proofs.lemmas.Nat.{div-mul-add, mod-mul-add}
use Rattle.std.proofs.lemmas.Option.{slice_get_within}
use Rattle.std.specs.Prelude.{slice_index, slice_set}
use mathlib.Core.Option.{some, none}
use lib.ListN.{get_elem?}
use Rattle.atomic_table.specs.Table.{State, Me, Step, step, keeps, Allows}
use Rattle.atomic_table.proofs.Lists.{set_again}
use Rattle.jl_program.specs.declared.tree.Program.{Program}
use Rattle.jl_calculus.specs.declared.history.Change.{Change}
use Rattle.jl_calculus.specs.declared.history.Event.{Event}
use Rattle.jl_calculus.specs.declared.history.Event.TheVariants as Ev
use Rattle.jl_calculus.specs.Legal.{MayStand}
use Rattle.jl_calculus.specs.Ranges.{CacheRow, keys_of, rows_of, HasNoEnd}
use Rattle.jl_calculus.specs.Words.{upper, one_past, after_last, is_worldly, is_fill_of, world_length, world_word, link_of, fill_length, head_word, IsRowWords, IsLastWith}
use Rattle.jl_calculus.specs.World.{changed, world_of}
use Rattle.jl_calculus.proofs.GrowthLemmas.{changed_append, rows_append}
use Rattle.jl_world.specs.declared.about.About.{About}
use Rattle.jl_world.specs.declared.row_word.RowWord.{RowWord}
use Rattle.jl_world.specs.declared.row_word.RowWord.TheVariants.{Site, First, Last, Next}
use Rattle.jl_world.specs.declared.view.TaskView.{TaskView}
use Rattle.jl_world.specs.declared.view.View.{View}
use Rattle.jl_world.specs.declared.view.View.TheVariants.{Task}
use Rattle.jl_world.specs.Places.{AreFew, head_place, row_place}
use Rattle.jl_world.specs.Rule.{Now, IsHistory, IsOpenRow, Words, Kept, Holds}
use Rattle.jl_world.specs.Tells.{HasLooked, HasHead, IsWordOf, IsRowWord}
use Rattle.jl_world.specs.Views.{Begins, Fits, IsOwn, looked, met, task_of}
use Rattle.jl_world.proofs.Bounds.{few_worlds, few_events}
use Rattle.jl_world.proofs.Growth.{begins_length, begins_take, begins_first, begins_self, still_true, keys_grow, rows_grow, stand_front}
use Rattle.jl_world.proofs.Lists.{take_short, one_there, last_low, last_front, none_behind, none_met}
use Rattle.jl_world.proofs.Rights.{rows_right, named_more, row_more, last_seen}
use Rattle.jl_world.proofs.SeatLists.{seats_set, one_set, still_apart}

pub same_words : (ws : List ℕ) (i : ℕ) → slice_set ws i (slice_index ws i) ≡ ws
same_words [] i = refl
same_words (x ∷ xs) zero = refl
same_words (x ∷ xs) (suc i) = ap (λ l. x ∷ l) (same_words xs i)

-- a word of two halves
pub low_half : (w n : ℕ) → w < upper → (w + upper * n) % upper ≡ w
low_half w n lt = ap (λ k. k % upper) (let z : w + upper * n ≡ n * upper + w = omega arith in z) ∙ mod-mul-add n upper w lt

pub high_half : (w n : ℕ) → w < upper → (w + upper * n) / upper ≡ n
high_half w n lt = ap (λ k. k / upper) (let z : w + upper * n ≡ n * upper + w = omega arith in z) ∙ div-mul-add n upper w lt

-- where nothing of a kind stands among events, they make no world, and no row of a key
pub no_worlds : (es : List Event) → after_last is_worldly es ≡ 0 → changed es ≡ []
no_worlds [] e = refl
no_worlds (x ∷ es) e = by x (none_met is_worldly (x ∷ es) e 0 x refl) (no_worlds es (rest (after_last is_worldly es) (is_worldly x) e))
  where
    rest : (n : ℕ) (b : Bool) → one_past n b ≡ 0 → n ≡ 0
    rest zero b e = refl
    rest (suc n) b e = absurd (omega (arith, e))

    by : (x : Event) → is_worldly x ≡ false → changed es ≡ [] → changed (x ∷ es) ≡ []
    by (Ev.Begin fuel) is h = absurd cc
    by (Ev.Def task site) is h = absurd cc
    by (Ev.Del task place) is h = absurd cc
    by (Ev.Key key) is h = h
    by (Ev.Fill key site first) is h = h
    by (Ev.Spawn task child start) is h = h
    by (Ev.Done task ended) is h = h

pub no_rows : (k : ℕ) (es : List Event) → after_last (is_fill_of k) es ≡ 0 → after_last (λ (row : CacheRow). nat_eq row.key k) (rows_of es) ≡ 0
no_rows k [] e = refl
no_rows k (x ∷ es) e = by x (none_met (is_fill_of k) (x ∷ es) e 0 x refl) (no_rows k es (rest (after_last (is_fill_of k) es) (is_fill_of k x) e))
  where
    rest : (n : ℕ) (b : Bool) → one_past n b ≡ 0 → n ≡ 0
    rest zero b e = refl
    rest (suc n) b e = absurd (omega (arith, e))

    by : (x : Event) → is_fill_of k x ≡ false → after_last (λ (row : CacheRow). nat_eq row.key k) (rows_of es) ≡ 0 → after_last (λ (row : CacheRow). nat_eq row.key k) (rows_of (x ∷ es)) ≡ 0
    by (Ev.Begin fuel) is h = h
    by (Ev.Def task site) is h = h
    by (Ev.Del task place) is h = h
    by (Ev.Key key) is h = h
    by (Ev.Fill key site first) is h = (λ i. one_past (h i) (is i))
    by (Ev.Spawn task child start) is h = h
    by (Ev.Done task ended) is h = h

-- the events in two parts
module _ (events : List Event) (q : ℕ) (short : q ≤ length events) where
  abbrev front : List Event
  front = take q events

  abbrev back : List Event
  back = drop q events

  whole : events ≡ front ++ back
  whole = sym (take-append-drop q events)

  long : length front ≡ q
  long = length-take-le q events short

  none_after : (test : Event → Bool) → after_last test events ≤ q → after_last test back ≡ 0
  none_after test le = none_behind test front back (omega (arith, le, ap (after_last test) whole, long))

  pub world_first : world_length events ≤ q → world_of front ≡ world_of events
  world_first le = omega (arith, ap (λ xs. length (changed xs)) whole, ap length (changed_append front back ∙ ap (λ (xs : List Change). changed front ++ xs) (no_worlds back (none_after is_worldly le)) ∙ append-nil (changed front)))

  -- a head is that of each beginning which is as long as it tells
  pub head_first : (k : ℕ) → fill_length k events ≤ q → head_word front k ≡ head_word events k
  head_first k le =
      let none = none_after (is_fill_of k) le in
      let fills : fill_length k front ≡ fill_length k events = sym (ap (fill_length k) whole ∙ last_front (is_fill_of k) front back none) in
      let links : link_of k (rows_of front) ≡ link_of k (rows_of events) = sym (ap (λ xs. link_of k (rows_of xs)) whole ∙ ap (link_of k) (rows_append front back) ∙ last_front (λ (row : CacheRow). nat_eq row.key k) (rows_of front) (rows_of back) (no_rows k back none)) in
      (λ i. links i + upper * fills i)

-- a view that has seen more
pub fits_more : (P : Program) (about_events seen : List Event) (v : TaskView) → MayStand P about_events → Fits P about_events v → Begins v.seen seen → Begins seen about_events → Fits P about_events (met seen v)
fits_more P es seen v stand fits b c = record { prefix = c; stand = stand_front P v.seen seen es fits.stand b c stand; learnt = still_true P seen es c; own = own v.task fits.own }
  where
    own : (t : Option ℕ) → IsOwn es t v → IsOwn es t (met seen v)
    own None h = tt
    own (Some t) h = record { running = h.running; start = h.start; fuel = h.fuel; own = h.own; starts = h.starts }

fits_looked : (P : Program) (es seen : List Event) (v : TaskView) → Fits P es (met seen v) → Fits P es (looked seen v)
fits_looked P es seen v fits = record { prefix = fits.prefix; stand = fits.stand; learnt = fits.learnt; own = own v.task fits.own }
  where
    own : (t : Option ℕ) → IsOwn es t (met seen v) → IsOwn es t (looked seen v)
    own None h = tt
    own (Some t) h = record { running = h.running; start = h.start; fuel = h.fuel; own = h.own; starts = h.starts }

few_first : (about : About) (xs ys : List Event) → Begins xs ys → AreFew about ys → AreFew about xs
few_first about xs ys b few = (omega (arith, keys_grow xs ys b, few.0), omega (arith, rows_grow xs ys b, few.1), omega (arith, begins_length xs ys b, few.2))

-- ---- the world word

abbrev pub LookTells : About → Step (Unit {0}) → Me (Unit {0}) View → ℕ → Me (Unit {0}) View → Type 0
LookTells about s me n after = (after ≡ (Task (task_of after.0), me.1)) × HasLooked about (task_of me.0) n (task_of after.0)

look_tells : (about : About) (es : List Event) (v : TaskView) (n q : ℕ) → IsHistory about es → Fits about.program.value es v → n ≡ world_word es → q ≡ max (length v.seen) (n / upper)
    → HasLooked about v n (looked (take q es) v) × Fits about.program.value es (looked (take q es) v)
look_tells about es v n q history fits is far =
    let P = about.program.value in
    let small : world_of es < upper = omega (arith, few_worlds P es history.stand) in
    let w : n % upper ≡ world_of es = ap (λ k. k % upper) is ∙ low_half (world_of es) (world_length es) small in
    let l : n / upper ≡ world_length es = ap (λ k. k / upper) is ∙ high_half (world_of es) (world_length es) small in
    let short : q ≤ length es = omega (arith, far, begins_length v.seen es fits.prefix, l, last_low is_worldly es) in
    let grows : Begins v.seen (take q es) = begins_first q v.seen es fits.prefix (omega (arith, far)) in
    let first = begins_take q es in (
      record {
        is = refl;
        seen = grows;
        far = length-take-le q es short ∙ far;
        world = world_first es q short (omega (arith, far, l)) ∙ sym w;
        few = few_first about (take q es) es first history.few;
      },
      fits_looked P es (take q es) v (fits_more P es (take q es) v history.stand fits grows first),
    )

pub looks : (about : About) (slots id : ℕ) (v : TaskView) → Allows (Holds about) slots id (Task v, []) 0 (λ n. n) (LookTells about (step slots 0 0 0 none) (Task v, []))
looks about slots id v s h deep at fit =
    let now = h.0 in
    let P = about.program.value in
    let kept = h.2 in
    let n : ℕ = slice_index s.words 0 in
    let q : ℕ = max (length v.seen) (n / upper) in
    let mine = kept.seats id (Task v) at in
    let told = look_tells about now.events v n q kept.history mine.fits.0 kept.words.world refl in
    let w : TaskView = looked (take q now.events) v in (
      Task w,
      keeps,
      tt,
      (
        now,
        h.1,
        record {
          history = kept.history;
          words = subst (Words about now) (sym (same_words s.words 0)) kept.words;
          seats = seats_set P now h.1 id s.views (Task w) (λ j u ne e. kept.seats j u e) (record { whole = tt; fits = (told.1, tt); once = ((λ t is has. has), tt) });
          one_seat = one_set id s.views (Task w) kept.one_seat (still_apart id s.views (Task v) (Task w) kept.one_seat at (λ t has. has));
        },
      ),
      (refl, told.0),
    )

-- the same, at a view and a name that are known
pub looks_as : (about name : About) (slots id : ℕ) (me : Me (Unit {0}) View) → about ≡ name → me ≡ (Task (task_of me.0), []) → Allows (Holds about) slots id me 0 (λ n. n) (LookTells name (step slots 0 0 0 none) me)
looks_as about name slots id me same is =
    subst (λ (z : About × Me (Unit {0}) View). Allows (Holds about) slots id z.1 0 (λ n. n) (LookTells z.0 (step slots 0 0 0 none) z.1)) (λ i. (same i, sym is i)) (looks about slots id (task_of me.0))

-- ---- heads

abbrev pub HeadTells : About → Step (Unit {0}) → Me (Unit {0}) View → ℕ → Me (Unit {0}) View → Type 0
HeadTells about s me n after = (after ≡ (Task (task_of after.0), me.1)) × HasHead about s.word (task_of me.0) n (task_of after.0)

-- a link is no more than the rows
pub head_small : (about : About) (es : List Event) (k : ℕ) → IsHistory about es → about.rows ≤ 16384 → link_of k (rows_of es) < upper
head_small about es k history few = omega (arith, last_low (λ (row : CacheRow). nat_eq row.key k) (rows_of es), history.few.1, few)

head_tells : (about : About) (es : List Event) (v : TaskView) (k n q : ℕ) → about.rows ≤ 16384 → IsHistory about es → Fits about.program.value es v → n ≡ head_word es k → q ≡ max (length v.seen) (n / upper)
    → HasHead about (head_place k) v n (met (take q es) v) × Fits about.program.value es (met (take q es) v)
head_tells about es v k n q places history fits is far =
    let P = about.program.value in
    let l : n / upper ≡ fill_length k es = ap (λ x. x / upper) is ∙ high_half (link_of k (rows_of es)) (fill_length k es) (head_small about es k history places) in
    let short : q ≤ length es = omega (arith, far, begins_length v.seen es fits.prefix, l, last_low (is_fill_of k) es) in
    let grows : Begins v.seen (take q es) = begins_first q v.seen es fits.prefix (omega (arith, far)) in
    let first = begins_take q es in (
      record {
        is = refl;
        seen = grows;
        far = length-take-le q es short ∙ far;
        head = λ j e. let same : k ≡ j = omega (arith, e) in subst (λ (x : ℕ). n ≡ head_word (take q es) x) same (is ∙ sym (head_first es q short k (omega (arith, far, l))));
        few = few_first about (take q es) es first history.few;
      },
      fits_more P es (take q es) v history.stand fits grows first,
    )

pub heads : (about : About) (slots id k : ℕ) (v : TaskView) → k < about.keys → Allows (Holds about) slots id (Task v, []) (head_place k) (λ n. n) (HeadTells about (step slots (head_place k) 0 0 none) (Task v, []))
heads about slots id k v place s h deep at fit =
    let now = h.0 in
    let P = about.program.value in
    let kept = h.2 in
    let n : ℕ = slice_index s.words (head_place k) in
    let q : ℕ = max (length v.seen) (n / upper) in
    let mine = kept.seats id (Task v) at in
    let told = head_tells about now.events v k n q kept.words.places.3 kept.history mine.fits.0 (kept.words.heads k place) refl in
    let w : TaskView = met (take q now.events) v in (
      Task w,
      keeps,
      tt,
      (
        now,
        h.1,
        record {
          history = kept.history;
          words = subst (Words about now) (sym (same_words s.words (head_place k))) kept.words;
          seats = seats_set P now h.1 id s.views (Task w) (λ j u ne e. kept.seats j u e) (record { whole = tt; fits = (told.1, tt); once = ((λ t is has. has), tt) });
          one_seat = one_set id s.views (Task w) kept.one_seat (still_apart id s.views (Task v) (Task w) kept.one_seat at (λ t has. has));
        },
      ),
      (refl, told.0),
    )

pub heads_as : (about name : About) (slots id k : ℕ) (me : Me (Unit {0}) View) → about ≡ name → me ≡ (Task (task_of me.0), []) → k < name.keys → Allows (Holds about) slots id me (head_place k) (λ n. n) (HeadTells name (step slots (head_place k) 0 0 none) me)
heads_as about name slots id k me same is place =
    subst (λ (z : About × Me (Unit {0}) View). Allows (Holds about) slots id z.1 (head_place k) (λ n. n) (HeadTells z.0 (step slots (head_place k) 0 0 none) z.1)) (λ i. (same i, sym is i))
    (heads about slots id k (task_of me.0) (subst (λ (a : About). k < a.keys) (sym same) place))
