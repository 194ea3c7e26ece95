-- When an index is that of a list of events, and what it has room for.
use Rattle.std.specs.Prelude.{ℕ, ◌≡◌, ◌<◌, List, All, length, get_or, None, Some}
use Rattle.jl_model.specs.declared.limits.TheConstants.{MOST_WORLDS, MOST_CACHE_KEYS, MOST_CACHE_ROWS}
use Rattle.jl_model.specs.declared.ty.Key.{Key}
use Rattle.jl_program.specs.declared.tree.Program.{Program}
use Rattle.jl_calculus.specs.declared.history.Change.{Change}
use Rattle.jl_calculus.specs.declared.history.Change.TheVariants as Ch
use Rattle.jl_calculus.specs.declared.history.Event.{Event}
use Rattle.jl_calculus.specs.declared.history.Event.TheVariants as Ev
use Rattle.jl_calculus.specs.Legal.{IsKeyOf, MayCome}
use Rattle.jl_calculus.specs.Definitions.{defs_from, dels_from}
use Rattle.jl_calculus.specs.Ranges.{CacheRow, keys_of, rows_of}
use Rattle.jl_calculus.specs.World.{changes}
use Rattle.jl_methods.specs.declared.index.Index.{Index}
use Rattle.jl_methods.specs.Filters.{numbers_from, is_key_of, is_row_of}
use Rattle.jl_methods.specs.Latest.{AreLatestOfPlaces}
use Rattle.jl_methods.specs.Links.{linked_in, AreApplying, AreLinked, HasRoomForApplying}
use Rattle.jl_methods.specs.Newest.{IsNewestOf}
use Rattle.jl_methods.specs.Noted.{Applying, Noted, function_of}
use Rattle.jl_methods.specs.Numbered.{nth}
use Rattle.jl_methods.specs.Room.{items_of, IsRoomy, HasRoomAt, HasPlace}

-- what the index has noted
abbrev pub noted_in : Index → Noted
noted_in i =
    record {
      keys = i.keys.items;
      changes = i.changes.items;
      defs = items_of i.defs;
      dels = items_of i.dels;
      latest_dels = items_of i.latest_dels;
      numbers = items_of i.numbers;
      rows = items_of i.rows;
      sites = linked_in i.sites;
      places = linked_in i.places;
      newest = i.newest.items;
      fills = i.fills;
    }

-- what applies to the key that the index has room for
abbrev pub awaited_in : Index → Applying
awaited_in i = record { sites = i.next_sites.items; places = i.next_places.items }

-- each list is what it has to be for these changes, these keys and these rows
pub record AreFilters (P : Program) (cs : List Change) (keys : List Key) (rows : List CacheRow) (v : Noted) : Type 0 where
  pub known_keys : v.keys ≡ keys
  pub proper_keys : All (IsKeyOf P) keys
  pub known_changes : v.changes ≡ cs
  pub filled : v.fills ≡ length rows
  pub all_defs : length v.defs ≡ length P.functions
  pub all_dels : length v.dels ≡ length P.functions
  pub all_latest_dels : length v.latest_dels ≡ length P.functions
  pub all_numbers : length v.numbers ≡ length P.functions
  pub all_rows : length v.rows ≡ length keys
  pub all_newest : length v.newest ≡ length keys
  pub each_defs : (f : ℕ) → nth v.defs f ≡ defs_from P f 1 cs
  pub each_dels : (f : ℕ) → nth v.dels f ≡ dels_from P f 1 cs
  pub each_latest_dels : (f : ℕ) → AreLatestOfPlaces (dels_from P f 1 cs) (nth v.latest_dels f)
  pub each_numbers : (f : ℕ) → nth v.numbers f ≡ numbers_from (is_key_of f) 0 keys
  pub each_rows : (n : ℕ) → nth v.rows n ≡ numbers_from (is_row_of n) 0 rows
  pub sites : AreLinked P Ch.Def (length P.sites) cs keys v.sites
  pub places : AreLinked P Ch.Del (length P.deletes) cs keys v.places
  pub each_newest : (n : ℕ) → IsNewestOf rows n (get_or v.newest n None)

-- the index is that of these events of a run of the program
abbrev pub IsIndexOf : Program → List Event → Index → Type 0
IsIndexOf P es i = AreFilters P (changes es) (keys_of es) (rows_of es) (noted_in i)

-- it is that of some events
abbrev pub IsIndex : Program → Index → Type 0
IsIndex P i = (es : List Event) × IsIndexOf P es i

-- it is that of some events after which this one may come
pub record MayBeNoted (P : Program) (i : Index) (event : Event) : Type 0 where
  pub es : List Event
  pub index : IsIndexOf P es i
  pub may_come : MayCome P es event

-- what applies to a key was found, and the key needs no memory in the lists of these
pub record HasLinksFor (P : Program) (key : Key) (i : Index) : Type 0 where
  pub sites : AreApplying P Ch.Def key i.next_sites.items
  pub places : AreApplying P Ch.Del key i.next_places.items
  pub sites_room : HasRoomForApplying i.next_sites.items i.sites
  pub places_room : HasRoomForApplying i.next_places.items i.places

-- nor does it in the other lists
pub record HasListsFor (key : Key) (i : Index) : Type 0 where
  pub list : IsRoomy i.keys
  pub number : HasRoomAt i.numbers key.function
  pub row_list : HasPlace i.rows
  pub newest : IsRoomy i.newest

-- a key can be noted without memory
pub record HasRoomForKey (P : Program) (key : Key) (i : Index) : Type 0 where
  pub next_key : i.next_key ≡ Some key
  pub few : length i.keys.items < MOST_CACHE_KEYS
  pub lists : HasListsFor key i
  pub links : HasLinksFor P key i

-- a row of a key can
pub record HasRoomForRow (key : ℕ) (i : Index) : Type 0 where
  pub few : i.fills < MOST_CACHE_ROWS
  pub row : HasRoomAt i.rows key
  pub newest : key < length i.newest.items

-- a definition of a site, which is of this function, can
pub record HasRoomForDef (function site : ℕ) (i : Index) : Type 0 where
  pub few : length i.changes.items < MOST_WORLDS
  pub list : IsRoomy i.changes
  pub def : HasRoomAt i.defs function
  pub world : HasRoomAt i.sites.worlds site

-- a deletion at a place, which is of this function, can
pub record HasRoomForDel (function place : ℕ) (i : Index) : Type 0 where
  pub few : length i.changes.items < MOST_WORLDS
  pub list : IsRoomy i.changes
  pub del : HasRoomAt i.dels function
  pub latest : HasRoomAt i.latest_dels function
  pub world : HasRoomAt i.places.worlds place

-- an event can be noted without memory
abbrev pub HasRoomFor : Program → Event → Index → Type 0
HasRoomFor P (Ev.Key key) i = HasRoomForKey P key i
HasRoomFor P (Ev.Fill key site first) i = HasRoomForRow key i
HasRoomFor P (Ev.Def task site) i = (site < length P.sites) × HasRoomForDef (function_of P (Ch.Def site)) site i
HasRoomFor P (Ev.Del task place) i = (place < length P.deletes) × HasRoomForDel (function_of P (Ch.Del place)) place i
HasRoomFor P (Ev.Begin fuel) i = Unit {0}
HasRoomFor P (Ev.Spawn task child start) i = Unit {0}
HasRoomFor P (Ev.Done task ended) i = Unit {0}
