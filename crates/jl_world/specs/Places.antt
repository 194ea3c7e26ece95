-- Where the words stand: eight to a number, of which one is the head of the key of that number and five are those of its row.
-- The first two tell the newest world and the last note.
use Rattle.std.specs.Prelude.{ℕ, ◌+◌, ◌*◌, ◌<◌, ◌≤◌, max, List, [], ◌∷◌, length}
use Rattle.jl_calculus.specs.declared.history.Event.{Event}
use Rattle.jl_calculus.specs.declared.history.Event.TheVariants as Ev
use Rattle.jl_calculus.specs.Ranges.{CacheRow, keys_of, rows_of}
use Rattle.jl_calculus.specs.Words.{upper, world_word, notes_word, head_word}
use Rattle.jl_model.specs.declared.limits.TheConstants.{MOST_CACHE_KEYS, MOST_CACHE_ROWS}
use Rattle.jl_world.specs.declared.about.About.{About}
use Rattle.jl_world.specs.declared.row_word.Place.{Place}
use Rattle.jl_world.specs.declared.row_word.Place.TheVariants as Pl
use Rattle.jl_world.specs.declared.row_word.RowWord.{RowWord}
use Rattle.jl_world.specs.declared.row_word.RowWord.TheVariants.{Site, First, Last, Next, Top}

abbrev pub world_place : ℕ
world_place = 0

abbrev pub notes_place : ℕ
notes_place = 1

-- the head of a key
abbrev pub head_place : ℕ → ℕ
head_place k = 8 * k + 2

abbrev pub row_offset : RowWord → ℕ
row_offset Site = 4
row_offset First = 5
row_offset Last = 6
row_offset Next = 7
row_offset Top = 3

-- a word of a row
abbrev pub row_place : ℕ → RowWord → ℕ
row_place r w = 8 * r + row_offset w

abbrev pub index_of : Place → ℕ
index_of Pl.World = world_place
index_of Pl.Notes = notes_place
index_of (Pl.Head k) = head_place k
index_of (Pl.Row r w) = row_place r w

-- how many words there are
abbrev pub word_count : About → ℕ
word_count about = 8 * max about.keys about.rows

-- there are places for keys and for rows, and no more than a run may have
abbrev pub HasPlaces : About → Type 0
HasPlaces about = (0 < about.keys) × (about.keys ≤ MOST_CACHE_KEYS) × (0 < about.rows) × (about.rows ≤ MOST_CACHE_ROWS)

-- the most events that a history can have: a Begin, the keys, the rows, the definitions and deletions past the prelude, and for each task a Spawn,
-- but for the root, and a Done
abbrev pub most_events : ℕ
most_events = 98289

-- there is a place for each key and each row of the events, and there are few events
abbrev pub AreFew : About → List Event → Type 0
AreFew about es = (length (keys_of es) ≤ about.keys) × (length (rows_of es) ≤ about.rows) × (length es ≤ most_events)

-- the sites of the rows fit in half a word
abbrev pub AreNarrow : List CacheRow → Type 0
AreNarrow [] = Unit {0}
AreNarrow (row ∷ rows) = (row.site < upper) × AreNarrow rows

-- where the one store of an event goes
abbrev pub place_of : Event → ℕ
place_of (Ev.Begin fuel) = notes_place
place_of (Ev.Key key) = notes_place
place_of (Ev.Fill key site first) = head_place key
place_of (Ev.Def task site) = world_place
place_of (Ev.Del task place) = world_place
place_of (Ev.Spawn task child start) = notes_place
place_of (Ev.Done task ended) = notes_place

-- the word there, where these are the events
abbrev pub word_of : Event → List Event → ℕ
word_of (Ev.Begin fuel) es = notes_word es
word_of (Ev.Key key) es = notes_word es
word_of (Ev.Fill key site first) es = head_word es key
word_of (Ev.Def task site) es = world_word es
word_of (Ev.Del task place) es = world_word es
word_of (Ev.Spawn task child start) es = notes_word es
word_of (Ev.Done task ended) es = notes_word es
