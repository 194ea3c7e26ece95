-- The rule that the words keep between any two steps, in five facts: the words, what was seen, what was learnt, the own events
-- of the tasks, and one seat for each task.
use Rattle.std.specs.Prelude.{ℕ, ◌≡◌, ◌<◌, ◌≤◌, List, [], ◌∷◌, length, slice_index, slice_get, None, Some}
use Rattle.std.specs.List.{Contains}
use mathlib.Core.Option.{some}
use lib.ListN.{get_elem?}
use Rattle.atomic_table.specs.Table.{State}
use Rattle.atomic_table.specs.Seated.{TableId}
use Rattle.jl_model.specs.declared.ty.Key.{Key}
use Rattle.jl_program.specs.declared.tree.Program.{Program}
use Rattle.jl_calculus.specs.declared.history.Event.{Event}
use Rattle.jl_calculus.specs.declared.history.Event.TheVariants as Ev
use Rattle.jl_calculus.specs.Legal.{fuel_of, MayStand}
use Rattle.jl_calculus.specs.Ranges.{CacheRow, keys_of, rows_of, HasNoEnd}
use Rattle.jl_calculus.specs.Words.{world_word, notes_word, head_word, IsRowWords}
use Rattle.jl_world.specs.declared.about.About.{About}
use Rattle.jl_world.specs.declared.row_word.RowWord.{RowWord}
use Rattle.jl_world.specs.declared.row_word.RowWord.TheVariants.{Site, First, Last, Next, Top}
use Rattle.jl_world.specs.declared.view.Stored.{Stored}
use Rattle.jl_world.specs.declared.view.View.{View}
use Rattle.jl_world.specs.declared.view.View.TheVariants.{Nobody, Task, Book}
use Rattle.jl_world.specs.Places.{world_place, notes_place, head_place, row_place, word_count, HasPlaces, AreFew, AreNarrow}
use Rattle.jl_world.specs.Tops.{IsTopWord}
use Rattle.jl_world.specs.Views.{Each, Fits, HasTask, NoTwice, begun, parts, stored_word}

abbrev pub no_table : TableId
no_table = record { words = 0; slots = 0; views_name = 0; atom = 0; block = 0; offset = 0; slot_names = [] }

abbrev pub no_program : Program
no_program = record { decls = []; functions = []; sites = []; spawns = []; deletes = []; top = [] }

abbrev pub no_about : About
no_about = record { program = record { value = no_program; marker = record {} }; fuel = 0; keys = 1; rows = 1 }

-- what the words are about at one moment: the events, the rows that were cut ahead of a definition, and what was stored into rows
-- that are not linked
pub record Now : Type 0 where
  pub events : List Event
  pub cut : List ℕ
  pub stored : List Stored

module _ (P : Program) (es : List Event) where
  -- a row is linked, and no definition has ended it
  pub record IsOpenRow (r : ℕ) : Type 0 where
    pub row : CacheRow
    pub stands : slice_get (rows_of es) r ≡ Some row
    pub key : Key
    pub named : slice_get (keys_of es) row.key ≡ Some key
    pub no_end : HasNoEnd P es key row.first

-- the words of a linked row are those of its fill
abbrev pub IsRow : Program → Now → List ℕ → ℕ → Type 0
IsRow P now words r = IsRowWords P now.events now.cut r (slice_index words (row_place r Site)) (slice_index words (row_place r First)) (slice_index words (row_place r Last)) (slice_index words (row_place r Next))

-- the events are those of a run of this program, with this fuel and these places
pub record IsHistory (about : About) (es : List Event) : Type 0 where
  pub stand : MayStand about.program.value es
  pub fuel : fuel_of es ≡ Some about.fuel
  pub few : AreFew about es
  pub narrow : AreNarrow (rows_of es)

-- the words tell the events, where some rows without an end may be cut at the present world already
pub record Words (about : About) (now : Now) (words : List ℕ) : Type 0 where
  pub places : HasPlaces about
  pub wide : length words ≡ word_count about
  pub world : slice_index words world_place ≡ world_word now.events
  pub notes : slice_index words notes_place ≡ notes_word now.events
  pub heads : (k : ℕ) → k < about.keys → slice_index words (head_place k) ≡ head_word now.events k
  pub rows : (r : ℕ) → r < length (rows_of now.events) → IsRow about.program.value now words r
  pub tops : (r : ℕ) → r < length (rows_of now.events) → IsTopWord now.events r (slice_index words (row_place r Top))
  pub cut : (r : ℕ) → Contains now.cut r → IsOpenRow about.program.value now.events r
  pub loose : (r : ℕ) (w : RowWord) (n : ℕ) → length (rows_of now.events) ≤ r → stored_word now.stored (row_place r w) ≡ Some n → slice_index words (row_place r w) ≡ n

-- the book's seat alone knows the present events, what is cut and what is stored
abbrev pub IsWhole : Now → ℕ → ℕ → View → Type 0
IsWhole now seat j Nobody = Unit {0}
IsWhole now seat j (Task v) = Unit {0}
IsWhole now seat j (Book b) = (j ≡ seat) × (b.events ≡ now.events) × (b.cut ≡ now.cut) × (b.stored ≡ now.stored)

-- what is right of the seat j: each view of a task that it has has seen a beginning of the events, has learnt what is true and knows
-- the task's own events; and it has no task twice
pub record SeatIs (P : Program) (now : Now) (seat j : ℕ) (v : View) : Type 0 where
  pub whole : IsWhole now seat j v
  pub fits : Each (Fits P now.events) (parts v)
  pub once : NoTwice (parts v)

pub record Kept (about : About) (now : Now) (seat : ℕ) (s : State (Unit {0}) View) : Type 0 where
  pub history : IsHistory about now.events
  pub words : Words about now s.words
  pub seats : (j : ℕ) (v : View) → get_elem? s.views j ≡ some v → SeatIs about.program.value now seat j v
  pub one_seat : (t j k : ℕ) (v w : View) → get_elem? s.views j ≡ some v → get_elem? s.views k ≡ some w → HasTask t (parts v) → HasTask t (parts w) → j ≡ k

-- there is one history, which the words tell
abbrev pub Holds : About → State (Unit {0}) View → Type 0
Holds about s = (now : Now) × (seat : ℕ) × Kept about now seat s

-- at the start the book's seat holds the root
abbrev pub first_events : About → List Event
first_events about = Ev.Begin about.fuel ∷ []

abbrev pub first_view : About → View
first_view about = Book record { events = first_events about; held = begun 0 None (first_events about) ∷ []; cut = []; stored = [] }
