-- The shared words that tell a list of events: what is packed into one word of 64 bits stands below 2^32 and above it.
use Rattle.std.specs.Prelude.{ℕ, zero, suc, ◌+◌, ◌*◌, ◌≡◌, ◌⊎◌, ◌↔◌, Bool, true, false, nat_eq, List, [], ◌∷◌, take, slice_get, Some}
use Rattle.std.specs.List.{Contains}
use Rattle.jl_model.specs.declared.ty.Key.{Key}
use Rattle.jl_calculus.specs.declared.history.Change.{Change}
use Rattle.jl_calculus.specs.declared.history.Event.{Event}
use Rattle.jl_calculus.specs.declared.history.Event.TheVariants as Ev
use Rattle.jl_program.specs.declared.tree.Program.{Program}
use Rattle.jl_calculus.specs.Ranges.{CacheRow, keys_of, rows_of, head_of, HeadTouches, HasNoEnd, EndsWith}
use Rattle.jl_calculus.specs.World.{world_of}

-- what the upper half of a word counts
abbrev pub upper : ℕ
upper = 4294967296

-- one more than a place that is there already; else 1 where this is one
abbrev pub one_past : ℕ → Bool → ℕ
one_past zero false = 0
one_past zero true = 1
one_past (suc n) b = suc (suc n)

-- how long a list is just after the last that meets a test, and 0 where none does
abbrev pub after_last : {X : Type 0} → (X → Bool) → List X → ℕ
after_last test [] = 0
after_last test (x ∷ xs) = one_past (after_last test xs) (test x)

-- the event makes a world: a definition, a deletion, or the Begin, which makes the last world of the prelude
abbrev pub is_worldly : Event → Bool
is_worldly (Ev.Begin fuel) = true
is_worldly (Ev.Def task site) = true
is_worldly (Ev.Del task place) = true
is_worldly (Ev.Key key) = false
is_worldly (Ev.Fill key site first) = false
is_worldly (Ev.Spawn task child start) = false
is_worldly (Ev.Done task ended) = false

-- the event is told by the notes word
abbrev pub is_noted : Event → Bool
is_noted (Ev.Begin fuel) = true
is_noted (Ev.Key key) = true
is_noted (Ev.Spawn task child start) = true
is_noted (Ev.Done task ended) = true
is_noted (Ev.Fill key site first) = false
is_noted (Ev.Def task site) = false
is_noted (Ev.Del task place) = false

-- the event is a fill of the key of this number
abbrev pub is_fill_of : ℕ → Event → Bool
is_fill_of number (Ev.Fill key site first) = nat_eq key number
is_fill_of number (Ev.Begin fuel) = false
is_fill_of number (Ev.Key key) = false
is_fill_of number (Ev.Def task site) = false
is_fill_of number (Ev.Del task place) = false
is_fill_of number (Ev.Spawn task child start) = false
is_fill_of number (Ev.Done task ended) = false

-- how long the history is just after the definition or deletion that made the newest world
abbrev pub world_length : List Event → ℕ
world_length es = after_last is_worldly es

-- the world word: the newest world, and above it the length just after what made it
abbrev pub world_word : List Event → ℕ
world_word es = world_of es + upper * world_length es

-- the notes word: the length just after the last Begin, Key, Spawn or Done
abbrev pub notes_word : List Event → ℕ
notes_word es = after_last is_noted es

-- 1 plus the number of the last row of a key, and 0 where it has none
abbrev pub link_of : ℕ → List CacheRow → ℕ
link_of number rows = after_last (λ (row : CacheRow). nat_eq row.key number) rows

-- how long the history is just after the last fill of a key
abbrev pub fill_length : ℕ → List Event → ℕ
fill_length number es = after_last (is_fill_of number) es

-- the head of a key: 1 plus its last row, and above it the length just after that row's fill; 0 without a row
abbrev pub head_word : List Event → ℕ → ℕ
head_word es number = link_of number (rows_of es) + upper * fill_length number es

module _ (P : Program) (es : List Event) where
  -- the last world of a row, as its word tells it: 0 without an end
  abbrev pub IsLastWorld : Key → ℕ → ℕ → Type 0
  IsLastWorld key first last = ((last ≡ 0) × HasNoEnd P es key first) ⊎ EndsWith P es key first last

  -- a row that a change will end: it has no end, and the change touches its key
  pub record IsToCut (change : Change) (r : ℕ) : Type 0 where
    pub row : CacheRow
    pub stands : slice_get (rows_of es) r ≡ Some row
    pub key : Key
    pub named : slice_get (keys_of es) row.key ≡ Some key
    pub no_end : HasNoEnd P es key row.first
    pub touched : HeadTouches P (head_of P change) key

  -- all of them
  abbrev pub AreAllCut : Change → List ℕ → Type 0
  AreAllCut change cut = (r : ℕ) → Contains cut r ↔ IsToCut change r

  -- the last world of row r where some rows were cut ahead: the present world where it is one of these
  abbrev pub IsLastWith : List ℕ → ℕ → Key → ℕ → ℕ → Type 0
  IsLastWith cut r key first last = (Contains cut r × (last ≡ world_of es)) ⊎ ((Contains cut r → ⊥) × IsLastWorld key first last)

  -- the words of row r, which belongs to the fill of that number: its site, its first world, its last world, and 1 plus the row of its key before it
  pub record IsRowWords (cut : List ℕ) (r site first last next : ℕ) : Type 0 where
    pub row : CacheRow
    pub stands : slice_get (rows_of es) r ≡ Some row
    pub key : Key
    pub named : slice_get (keys_of es) row.key ≡ Some key
    pub site_word : site ≡ row.site
    pub first_word : first ≡ row.first
    pub last_word : IsLastWith cut r key row.first last
    pub next_word : next ≡ link_of row.key (take r (rows_of es))
