-- The loads of rows, and of any word by the book's seat, keep the rule.
use Rattle.std.proofs.Common.{◌≡◌, ◌∙◌, ap, sym, subst, refl, ℕ, zero, suc, ◌<◌, arith, List, [], ◌∷◌, ◌++◌, length, take, set, slice_get, Some}
use Rattle.std.specs.List.{Contains}
use Rattle.std.proofs.lemmas.Option.{same_Some}
use Rattle.std.specs.Prelude.{slice_index, slice_set}
use mathlib.Core.Option.{none}
use Rattle.atomic_table.specs.Table.{Me, Step, step, keeps, Allows}
use Rattle.atomic_table.proofs.Lists.{set_again}
use Rattle.jl_model.specs.declared.ty.Key.{Key}
use Rattle.jl_program.specs.declared.tree.Program.{Program}
use Rattle.jl_calculus.specs.declared.history.Event.{Event}
use Rattle.jl_calculus.specs.Legal.{MayStand}
use Rattle.jl_calculus.specs.Ranges.{CacheRow, keys_of, rows_of, HasNoEnd}
use Rattle.jl_calculus.specs.Words.{upper, link_of, IsRowWords, IsLastWith}
use Rattle.jl_calculus.proofs.GrowthLemmas.{rows_append}
use Rattle.jl_world.specs.declared.about.About.{About}
use Rattle.jl_world.specs.declared.row_word.Place.{Place}
use Rattle.jl_world.specs.declared.row_word.Place.TheVariants as Pl
use Rattle.jl_world.specs.declared.row_word.RowWord.{RowWord}
use Rattle.jl_world.specs.declared.row_word.RowWord.TheVariants.{Site, First, Last, Next, Top}
use Rattle.jl_world.specs.declared.view.TaskView.{TaskView}
use Rattle.jl_world.specs.declared.view.BookView.{BookView}
use Rattle.jl_world.specs.declared.view.View.{View}
use Rattle.jl_world.specs.declared.view.View.TheVariants.{Task, Book}
use Rattle.jl_world.specs.Places.{AreFew, AreNarrow, HasPlaces, row_place, index_of, word_count}
use Rattle.jl_world.specs.Tops.{IsTopWord}
use Rattle.jl_world.specs.Rule.{IsOpenRow, Words, Kept, Holds}
use Rattle.jl_world.specs.Tells.{IsWordOf, IsRowWord, HasWord, IsPlace}
use Rattle.jl_world.specs.Views.{Begins, task_of, book_of}
use Rattle.jl_world.proofs.Growth.{rows_grow}
use Rattle.jl_world.proofs.Lists.{there, one_there, take_short}
use Rattle.jl_world.proofs.Moves.{same_words}
use Rattle.jl_world.proofs.Rights.{rows_right, named_more, row_more, last_seen}
use Rattle.jl_world.proofs.Stores.{now_of, known_now}
use Rattle.jl_world.proofs.TopLemmas.{top_back}
use Rattle.jl_world.proofs.Wording.{row_small}

-- a row without an end, at its key
open_has_none : (P : Program) (es : List Event) (r : ℕ) (row : CacheRow) (key : Key) → slice_get (rows_of es) r ≡ Some row → slice_get (keys_of es) row.key ≡ Some key → IsOpenRow P es r → HasNoEnd P es key row.first
open_has_none P es r row key stands named h =
    let same : h.row ≡ row = one_there (rows_of es) r h.row row h.stands stands in
    let same_key : h.key ≡ key = one_there (keys_of es) row.key h.key key (subst (λ (x : CacheRow). slice_get (keys_of es) x.key ≡ Some h.key) same h.named) named in
    subst (λ (x : CacheRow). HasNoEnd P es key x.first) same (subst (λ (k : Key). HasNoEnd P es k h.row.first) same_key h.no_end)

narrow_at : (rows : List CacheRow) (r : ℕ) (row : CacheRow) → AreNarrow rows → slice_get rows r ≡ Some row → row.site < upper
narrow_at [] r row n e = absurd cc
narrow_at (x ∷ xs) zero row n e = subst (λ (y : CacheRow). y.site < upper) (same_Some x row e) n.0
narrow_at (x ∷ xs) (suc r) row n e = narrow_at xs r row n.1 e

-- a word of a row whose fill was seen
row_word : (P : Program) (seen more : List Event) (cut : List ℕ) (r : ℕ) (words : RowWord → ℕ) (w : RowWord) → MayStand P seen → AreNarrow (rows_of (seen ++ more)) → (Contains cut r → IsOpenRow P (seen ++ more) r) → r < length (rows_of seen)
    → IsRowWords P (seen ++ more) cut r (words Site) (words First) (words Last) (words Next) → IsTopWord (seen ++ more) r (words Top) → IsRowWord P seen r w (words w)
row_word P seen more cut r words w stand narrow free lt h top =
    let (row, stands) = there (rows_of seen) r lt in
    let right = rows_right P seen stand r row stands in
    let same : h.row ≡ row = one_there (rows_of (seen ++ more)) r h.row row h.stands (row_more seen more r row stands) in
    let named = named_more seen more row.key right.key right.named in
    let same_key : h.key ≡ right.key = one_there (keys_of (seen ++ more)) row.key h.key right.key (subst (λ (x : CacheRow). slice_get (keys_of (seen ++ more)) x.key ≡ Some h.key) same h.named) named in
    let last : IsLastWith P (seen ++ more) cut r right.key row.first (words Last) =
    subst (λ (k : Key). IsLastWith P (seen ++ more) cut r k row.first (words Last)) same_key (subst (λ (x : CacheRow). IsLastWith P (seen ++ more) cut r h.key x.first (words Last)) same h.last_word) in
    let short : take r (rows_of (seen ++ more)) ≡ take r (rows_of seen) = ap (take r) (rows_append seen more) ∙ take_short (rows_of seen) (rows_of more) r (omega (arith, lt)) in
    record {
      stand = stand;
      row = row;
      stands = stands;
      key = right.key;
      named = right.named;
      right = right.right;
      word = by w row right.key same stands
          (last_seen P seen more cut r right.key row.first (words Last) (λ c. open_has_none P (seen ++ more) r row right.key (row_more seen more r row stands) named (free c)) last)
          short;
    }
  where
    by : (w : RowWord) (row : CacheRow) (key : Key) → h.row ≡ row → slice_get (rows_of seen) r ≡ Some row → IsWordOf P seen r row key Last (words Last) → take r (rows_of (seen ++ more)) ≡ take r (rows_of seen) → IsWordOf P seen r row key w (words w)
    by Site row key same at last short =
        let is : words Site ≡ row.site = h.site_word ∙ ap (λ (x : CacheRow). x.site) same in
        (is, omega (arith, h.site_word, narrow_at (rows_of (seen ++ more)) r h.row narrow h.stands))
    by First row key same at last short = h.first_word ∙ ap (λ (x : CacheRow). x.first) same
    by Last row key same at last short = last
    by Next row key same at last short = h.next_word ∙ (λ i. link_of (same i).key (short i))
    by Top row key same at last short = top_back seen more r (words Top) row at top

abbrev pub RowTells : About → Step (Unit {0}) → Me (Unit {0}) View → ℕ → Me (Unit {0}) View → Type 0
RowTells about s me n after = (after ≡ me) × ((r : ℕ) (w : RowWord) → s.word ≡ row_place r w → r < length (rows_of (task_of me.0).seen) → IsRowWord about.program.value (task_of me.0).seen r w n)

row_tells : (P : Program) (seen es : List Event) (about : About) (cut : List ℕ) (words : List ℕ) (i r : ℕ) (w : RowWord) → Begins seen es → MayStand P seen → AreNarrow (rows_of es) → ((r : ℕ) → Contains cut r → IsOpenRow P es r)
    → ((r : ℕ) → r < length (rows_of es) → IsRowWords P es cut r (slice_index words (row_place r Site)) (slice_index words (row_place r First)) (slice_index words (row_place r Last)) (slice_index words (row_place r Next)))
    → ((r : ℕ) → r < length (rows_of es) → IsTopWord es r (slice_index words (row_place r Top))) → i ≡ row_place r w → r < length (rows_of seen) → IsRowWord P seen r w (slice_index words i)
row_tells P seen es about cut words i r w b stand narrow free rows tops at lt =
    let low : r < length (rows_of es) = omega (arith, lt, rows_grow seen es b) in
    subst (λ (j : ℕ). IsRowWord P seen r w (slice_index words j)) (sym at)
    (row_word P seen b.0 cut r (λ x. slice_index words (row_place r x)) w stand (subst (λ xs. AreNarrow (rows_of xs)) b.1 narrow) (λ c. subst (λ xs. IsOpenRow P xs r) b.1 (free r c)) lt
    (subst (λ xs. IsRowWords P xs cut r (slice_index words (row_place r Site)) (slice_index words (row_place r First)) (slice_index words (row_place r Last)) (slice_index words (row_place r Next))) b.1 (rows r low))
    (subst (λ xs. IsTopWord xs r (slice_index words (row_place r Top))) b.1 (tops r low)))

pub rows : (about : About) (slots id i : ℕ) (v : TaskView) → Allows (Holds about) slots id (Task v, []) i (λ n. n) (RowTells about (step slots i 0 0 none) (Task v, []))
rows about slots id i v s h deep at fit =
    let P = about.program.value in
    let mine = h.2.seats id (Task v) at in
    let fits = mine.fits.0 in
    let same : record { words = slice_set s.words i (slice_index s.words i); homes = s.homes; views = set s.views id (Task v) } ≡ s =
    λ j. record { words = same_words s.words i j; homes = s.homes; views = set_again s.views id (Task v) at j } in (
      Task v,
      keeps,
      tt,
      (h.0, h.1, subst (Kept about h.0 h.1) (sym same) h.2),
      (refl, λ r w place lt. row_tells P v.seen h.0.events about h.0.cut s.words i r w fits.prefix fits.stand h.2.history.narrow h.2.words.cut h.2.words.rows h.2.words.tops place lt),
    )

pub rows_as : (about name : About) (slots id i : ℕ) (me : Me (Unit {0}) View) → about ≡ name → me ≡ (Task (task_of me.0), []) → Allows (Holds about) slots id me i (λ n. n) (RowTells name (step slots i 0 0 none) me)
rows_as about name slots id i me same is =
    subst (λ (z : About × Me (Unit {0}) View). Allows (Holds about) slots id z.1 i (λ n. n) (RowTells z.0 (step slots i 0 0 none) z.1)) (λ j. (same j, sym is j)) (rows about slots id i (task_of me.0))

-- ---- the book's seat

abbrev pub ReadTells : About → Step (Unit {0}) → Me (Unit {0}) View → ℕ → Me (Unit {0}) View → Type 0
ReadTells about s me n after = (after ≡ me) × ((p : Place) → s.word ≡ index_of p → IsPlace about (book_of me.0).events p → HasWord about.program.value (book_of me.0).events (book_of me.0).cut p n)

read_tells : (about : About) (b : BookView) (words : List ℕ) (i : ℕ) → Words about (now_of b) words → (p : Place) → i ≡ index_of p → IsPlace about b.events p → HasWord about.program.value b.events b.cut p (slice_index words i)
read_tells about b words i h Pl.World at there = ap (slice_index words) at ∙ h.world
read_tells about b words i h Pl.Notes at there = ap (slice_index words) at ∙ h.notes
read_tells about b words i h (Pl.Head k) at there = ap (slice_index words) at ∙ h.heads k there
read_tells about b words i h (Pl.Row r w) at there = ((λ x. slice_index words (row_place r x)), h.rows r there, h.tops r there, ap (slice_index words) at)

pub reads : (about : About) (slots id i : ℕ) (b : BookView) → Allows (Holds about) slots id (Book b, []) i (λ n. n) (ReadTells about (step slots i 0 0 none) (Book b, []))
reads about slots id i b s h deep at fit =
    let k = known_now about b h.0 h.1 id s h.2 at in
    let same : record { words = slice_set s.words i (slice_index s.words i); homes = s.homes; views = set s.views id (Book b) } ≡ s =
    λ j. record { words = same_words s.words i j; homes = s.homes; views = set_again s.views id (Book b) at j } in
    (Book b, keeps, tt, (h.0, h.1, subst (Kept about h.0 h.1) (sym same) h.2), (refl, λ p place there. read_tells about b s.words i k.1.words p place there))

pub reads_as : (about name : About) (slots id i : ℕ) (me : Me (Unit {0}) View) → about ≡ name → me ≡ (Book (book_of me.0), []) → Allows (Holds about) slots id me i (λ n. n) (ReadTells name (step slots i 0 0 none) me)
reads_as about name slots id i me same is =
    subst (λ (z : About × Me (Unit {0}) View). Allows (Holds about) slots id z.1 i (λ n. n) (ReadTells z.0 (step slots i 0 0 none) z.1)) (λ j. (same j, sym is j)) (reads about slots id i (book_of me.0))

-- the words are in range
pub place_low : (about : About) (es : List Event) (p : Place) → HasPlaces about → AreFew about es → IsPlace about es p → index_of p < word_count about
place_low about es Pl.World places few there = omega (arith, places)
place_low about es Pl.Notes places few there = omega (arith, places)
place_low about es (Pl.Head k) places few there = omega (arith, there)
place_low about es (Pl.Row r w) places few there = row_small about r w (omega (arith, there, few.1))
