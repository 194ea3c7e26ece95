-- Which events the book's seat may add.
use Rattle.std.specs.Prelude.{ℕ, ◌≡◌, ◌<◌, ◌≤◌, max, List, [], length, slice_get, Some}
use Rattle.std.specs.List.{Contains}
use Rattle.jl_model.specs.declared.ty.Key.{Key}
use Rattle.jl_model.specs.declared.limits.TheConstants.{MOST_WORLDS}
use Rattle.jl_program.specs.declared.tree.Program.{Program}
use Rattle.jl_calculus.specs.declared.history.Change.TheVariants as Ch
use Rattle.jl_calculus.specs.declared.history.Event.{Event}
use Rattle.jl_calculus.specs.declared.history.Event.TheVariants as Ev
use Rattle.jl_calculus.specs.Legal.{MayBeMade, MayCome}
use Rattle.jl_calculus.specs.Ranges.{CacheRow, keys_of, rows_of, IsRightFill}
use Rattle.jl_calculus.specs.Words.{upper, AreAllCut, IsLastWorld, link_of}
use Rattle.jl_calculus.specs.World.{world_of}
use Rattle.jl_world.specs.declared.about.About.{About}
use Rattle.jl_world.specs.declared.row_word.RowWord.TheVariants.{Site, First, Last, Next, Top}
use Rattle.jl_world.specs.declared.view.Stored.{Stored}
use Rattle.jl_world.specs.declared.view.BookView.{BookView}
use Rattle.jl_world.specs.declared.view.TaskView.{TaskView}
use Rattle.jl_world.specs.Places.{row_place}
use Rattle.jl_world.specs.Tops.{top_of}
use Rattle.jl_world.specs.Views.{HasTask, stored_word}

-- a new key, a spawn, or the end of a task
abbrev pub IsNote : Event → Type 0
IsNote (Ev.Begin fuel) = ⊥
IsNote (Ev.Key key) = Unit {0}
IsNote (Ev.Fill key site first) = ⊥
IsNote (Ev.Def task site) = ⊥
IsNote (Ev.Del task place) = ⊥
IsNote (Ev.Spawn task child start) = Unit {0}
IsNote (Ev.Done task ended) = Unit {0}

-- the task of a definition, a deletion, a spawn or an end is among these
abbrev pub HoldsActor : List TaskView → Event → Type 0
HoldsActor vs (Ev.Begin fuel) = Unit {0}
HoldsActor vs (Ev.Key key) = Unit {0}
HoldsActor vs (Ev.Fill key site first) = Unit {0}
HoldsActor vs (Ev.Def task site) = HasTask task vs
HoldsActor vs (Ev.Del task place) = HasTask task vs
HoldsActor vs (Ev.Spawn task child start) = HasTask task vs
HoldsActor vs (Ev.Done task ended) = HasTask task vs

-- there is a place for a key, or for a row
abbrev pub HasPlaceFor : About → List Event → Event → Type 0
HasPlaceFor about es (Ev.Begin fuel) = Unit {0}
HasPlaceFor about es (Ev.Key key) = length (keys_of es) < about.keys
HasPlaceFor about es (Ev.Fill key site first) = length (rows_of es) < about.rows
HasPlaceFor about es (Ev.Def task site) = Unit {0}
HasPlaceFor about es (Ev.Del task place) = Unit {0}
HasPlaceFor about es (Ev.Spawn task child start) = Unit {0}
HasPlaceFor about es (Ev.Done task ended) = Unit {0}

-- the words of a row are stored there, for a fill of a key
pub record AreStored (P : Program) (es : List Event) (xs : List Stored) (r number : ℕ) (key : Key) (site first : ℕ) : Type 0 where
  pub site_word : stored_word xs (row_place r Site) ≡ Some site
  pub first_word : stored_word xs (row_place r First) ≡ Some first
  pub last : ℕ
  pub last_word : stored_word xs (row_place r Last) ≡ Some last
  pub last_world : IsLastWorld P es key first last
  pub next_word : stored_word xs (row_place r Next) ≡ Some (link_of number (rows_of es))
  pub top_word : stored_word xs (row_place r Top) ≡ Some (max first (top_of number (rows_of es)))

-- a fill that may come next, where there is room for it: its key is there, it is right for the key, and no earlier one has its key and
-- its first world
pub record IsNextFill (P : Program) (es : List Event) (number site first : ℕ) : Type 0 where
  pub key : Key
  pub named : slice_get (keys_of es) number ≡ Some key
  pub right : IsRightFill P es key site first
  pub new : (row : CacheRow) → Contains (rows_of es) row → row.key ≡ number → row.first ≡ first → ⊥

-- its words are stored in the first row that is not linked
abbrev pub HasWordsOf : Program → BookView → ℕ → ℕ → ℕ → Type 0
HasWordsOf P b number site first = (key : Key) × (slice_get (keys_of b.events) number ≡ Some key) × AreStored P b.events b.stored (length (rows_of b.events)) number key site first

-- the rows cut ahead are those that a definition or deletion ends, and none at another event; a fill has its words in the first row that is not
-- linked
abbrev pub IsReady : Program → BookView → Event → Type 0
IsReady P b (Ev.Begin fuel) = ⊥
IsReady P b (Ev.Key key) = b.cut ≡ []
IsReady P b (Ev.Fill number site first) = (b.cut ≡ []) × HasWordsOf P b number site first
IsReady P b (Ev.Def task site) = AreAllCut P b.events (Ch.Def site) b.cut
IsReady P b (Ev.Del task place) = AreAllCut P b.events (Ch.Del place) b.cut
IsReady P b (Ev.Spawn task child start) = b.cut ≡ []
IsReady P b (Ev.Done task ended) = b.cut ≡ []

-- what the event asks besides, of the events before it; that its task is running is known of a task that is held
abbrev pub MayFollow : Program → List Event → Event → Type 0
MayFollow P es (Ev.Begin fuel) = ⊥
MayFollow P es (Ev.Key key) = MayCome P es (Ev.Key key)
MayFollow P es (Ev.Fill number site first) = MayCome P es (Ev.Fill number site first)
MayFollow P es (Ev.Def task site) = MayBeMade P es (Ch.Def site) × (world_of es < MOST_WORLDS)
MayFollow P es (Ev.Del task place) = MayBeMade P es (Ch.Del place) × (world_of es < MOST_WORLDS)
MayFollow P es (Ev.Spawn task child start) = MayCome P es (Ev.Spawn task child start)
MayFollow P es (Ev.Done task ended) = Unit {0}

-- the site of a fill fits in half a word
abbrev pub IsNarrow : Event → Type 0
IsNarrow (Ev.Begin fuel) = Unit {0}
IsNarrow (Ev.Key key) = Unit {0}
IsNarrow (Ev.Fill number site first) = site < upper
IsNarrow (Ev.Def task site) = Unit {0}
IsNarrow (Ev.Del task place) = Unit {0}
IsNarrow (Ev.Spawn task child start) = Unit {0}
IsNarrow (Ev.Done task ended) = Unit {0}

-- the book's seat may add the event
pub record MayAdd (about : About) (b : BookView) (e : Event) : Type 0 where
  pub holds : HoldsActor b.held e
  pub place : HasPlaceFor about b.events e
  pub ready : IsReady about.program.value b e
  pub narrow : IsNarrow e
  pub may : MayFollow about.program.value b.events e
