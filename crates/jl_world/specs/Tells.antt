-- What the steps tell of the words.
use Rattle.std.specs.Prelude.{ℕ, suc, ◌/◌, ◌%◌, ◌≡◌, ◌⊎◌, ◌<◌, ◌≤◌, max, List, length, take, slice_get, Some}
use Rattle.jl_model.specs.declared.ty.Key.{Key}
use Rattle.jl_program.specs.declared.tree.Program.{Program}
use Rattle.jl_calculus.specs.declared.history.Event.{Event}
use Rattle.jl_calculus.specs.Legal.{MayStand}
use Rattle.jl_calculus.specs.Ranges.{CacheRow, keys_of, rows_of, HasNoEnd, EndsWith, IsRightFill}
use Rattle.jl_calculus.specs.Words.{upper, world_word, notes_word, head_word, link_of, IsRowWords}
use Rattle.jl_calculus.specs.World.{world_of}
use Rattle.jl_world.specs.declared.about.About.{About}
use Rattle.jl_world.specs.declared.row_word.Place.{Place}
use Rattle.jl_world.specs.declared.row_word.Place.TheVariants as Pl
use Rattle.jl_world.specs.declared.row_word.RowWord.{RowWord}
use Rattle.jl_world.specs.declared.row_word.RowWord.TheVariants.{Site, First, Last, Next, Top}
use Rattle.jl_world.specs.declared.view.TaskView.{TaskView}
use Rattle.jl_world.specs.Places.{head_place, AreFew}
use Rattle.jl_world.specs.Tops.{top_of, IsTopWord}
use Rattle.jl_world.specs.Views.{Begins, looked, met}

-- a look that found a word
pub record HasLooked (about : About) (v : TaskView) (n : ℕ) (w : TaskView) : Type 0 where
  pub is : w ≡ looked w.seen v
  pub seen : Begins v.seen w.seen
  pub far : length w.seen ≡ max (length v.seen) (n / upper)
  pub world : world_of w.seen ≡ n % upper
  pub few : AreFew about w.seen

-- a load of a head that found a word at this place
pub record HasHead (about : About) (place : ℕ) (v : TaskView) (n : ℕ) (w : TaskView) : Type 0 where
  pub is : w ≡ met w.seen v
  pub seen : Begins v.seen w.seen
  pub far : length w.seen ≡ max (length v.seen) (n / upper)
  pub head : (k : ℕ) → place ≡ head_place k → n ≡ head_word w.seen k
  pub few : AreFew about w.seen

module _ (P : Program) (es : List Event) where
  -- the last world of a row, as it is read later: where the row had no end then, it may have one in a world that is no less
  abbrev pub IsLastSeen : Key → ℕ → ℕ → Type 0
  IsLastSeen key first last = (HasNoEnd P es key first × ((last ≡ 0) ⊎ (world_of es ≤ last))) ⊎ EndsWith P es key first last

  -- a word of a row
  abbrev pub IsWordOf : ℕ → CacheRow → Key → RowWord → ℕ → Type 0
  IsWordOf r row key Site n = (n ≡ row.site) × (n < upper)
  IsWordOf r row key First n = n ≡ row.first
  IsWordOf r row key Last n = IsLastSeen key row.first n
  IsWordOf r row key Next n = n ≡ link_of row.key (take r (rows_of es))
  IsWordOf r row key Top n = n ≡ top_of row.key (take (suc r) (rows_of es))

  -- a word of a linked row, where these events of a run were seen
  pub record IsRowWord (r : ℕ) (w : RowWord) (n : ℕ) : Type 0 where
    pub stand : MayStand P es
    pub row : CacheRow
    pub stands : slice_get (rows_of es) r ≡ Some row
    pub key : Key
    pub named : slice_get (keys_of es) row.key ≡ Some key
    pub right : IsRightFill P es key row.site row.first
    pub word : IsWordOf r row key w n

-- a word of a row now, where some rows were cut ahead
abbrev pub HasRowWord : Program → List Event → List ℕ → ℕ → RowWord → ℕ → Type 0
HasRowWord P es cut r w n = (words : RowWord → ℕ) × IsRowWords P es cut r (words Site) (words First) (words Last) (words Next) × IsTopWord es r (words Top) × (n ≡ words w)

-- there is such a word
abbrev pub IsPlace : About → List Event → Place → Type 0
IsPlace about es Pl.World = Unit {0}
IsPlace about es Pl.Notes = Unit {0}
IsPlace about es (Pl.Head k) = k < about.keys
IsPlace about es (Pl.Row r w) = r < length (rows_of es)

-- the word there is that of these events, where some rows were cut ahead
abbrev pub HasWord : Program → List Event → List ℕ → Place → ℕ → Type 0
HasWord P es cut Pl.World n = n ≡ world_word es
HasWord P es cut Pl.Notes n = n ≡ notes_word es
HasWord P es cut (Pl.Head k) n = n ≡ head_word es k
HasWord P es cut (Pl.Row r w) n = HasRowWord P es cut r w n
