-- Why the entries of a text are not those of a legal history, as far as this can be told without a run. Each cause has a condition on an
-- entry, which the entry fails exactly where the cause holds of it; it is judged after entries of which no cause holds.
use Rattle.std.specs.Prelude.{ℕ, ◌≡◌, ◌<◌, ◌≤◌, nat_eq, Bool, true, false, IsTrue, List, [], ◌∷◌, length, take, slice_get, Some, IsSome}
use Rattle.std.specs.List.{Contains, list_any}
use Rattle.jl_model.specs.declared.limits.TheConstants.{MOST_FUEL, MOST_WORLDS, MOST_TASKS, MOST_CACHE_KEYS, MOST_CACHE_ROWS}
use Rattle.jl_model.specs.declared.ty.Key.{Key}
use Rattle.jl_program.specs.declared.tree.Program.{Program}
use Rattle.jl_program.specs.Prelude.{prelude_count}
use Rattle.jl_calculus.specs.declared.history.Event.{Event}
use Rattle.jl_calculus.specs.Legal.{IsRunning, HasTrueTrace, HasOwnEvents}
use Rattle.jl_calculus.specs.Past.{tasks_of}
use Rattle.jl_calculus.specs.Ranges.{CacheRow, keys_of, rows_of, MayBegin, SelectsSite}
use Rattle.jl_calculus.specs.World.{world_of, FindsMethod}
use Rattle.jl_report.specs.declared.entry.Entry.{Entry}
use Rattle.jl_report.specs.declared.entry.Entry.TheVariants as E
use Rattle.jl_causes.specs.declared.cause.Cause.{Cause}
use Rattle.jl_causes.specs.declared.cause.Cause.TheVariants as C
use Rattle.jl_causes.specs.Sketch.{record_of, Names, AllTell}

-- ---- what a text has by its form

abbrev pub is_begin : Entry → Bool
is_begin (E.Begin fuel) = true
is_begin (E.Key number function tuple) = false
is_begin (E.Fill key site first) = false
is_begin (E.Def task site) = false
is_begin (E.Del task place) = false
is_begin (E.Spawn task child place) = false
is_begin (E.Done task calls trace output ending) = false

-- a beginning stands first and only there, with a fuel that may be given
abbrev pub StartWell : List Entry → Type 0
StartWell [] = ⊥
StartWell (E.Begin fuel ∷ xs) = (fuel ≤ MOST_FUEL) × (list_any is_begin xs ≡ false)
StartWell (E.Key number function tuple ∷ xs) = ⊥
StartWell (E.Fill key site first ∷ xs) = ⊥
StartWell (E.Def task site ∷ xs) = ⊥
StartWell (E.Del task place ∷ xs) = ⊥
StartWell (E.Spawn task child place ∷ xs) = ⊥
StartWell (E.Done task calls trace output ending ∷ xs) = ⊥

-- the entry is the end of a task
abbrev pub is_end_of : ℕ → Entry → Bool
is_end_of task (E.Done by calls trace output ending) = nat_eq by task
is_end_of task (E.Begin fuel) = false
is_end_of task (E.Key number function tuple) = false
is_end_of task (E.Fill key site first) = false
is_end_of task (E.Def by site) = false
is_end_of task (E.Del by place) = false
is_end_of task (E.Spawn by child place) = false

-- some entry is
abbrev pub has_end : List Entry → ℕ → Bool
has_end xs task = list_any (is_end_of task) xs

-- ---- the conditions

-- the texts name a key of the program
abbrev pub IsKnownKey : Program → List ℕ → List ℕ → Type 0
IsKnownKey P function tuple = (key : Key) × Names P function tuple key

-- a definition site of the script
abbrev pub IsScriptSite : Program → ℕ → Type 0
IsScriptSite P site = (prelude_count ≤ site) × (site < length P.sites)

-- keys are numbered from 0, none stands twice, and there is room for one more
pub record IsNextKey (P : Program) (es : List Event) (number : ℕ) (function tuple : List ℕ) : Type 0 where
  pub counted : number ≡ length (keys_of es)
  pub new : (key : Key) → Contains (keys_of es) key → Names P function tuple key → ⊥
  pub room : length (keys_of es) < MOST_CACHE_KEYS

-- the key is there, no fill before has it and this first world, and there is room for one more
pub record IsNextFill (es : List Event) (number first : ℕ) : Type 0 where
  pub known : IsSome (slice_get (keys_of es) number)
  pub new : (row : CacheRow) → Contains (rows_of es) row → row.key ≡ number → row.first ≡ first → ⊥
  pub room : length (rows_of es) < MOST_CACHE_ROWS

-- the first world is the last of the prelude, or that of an earlier change that touches the key
abbrev pub BeginsRight : Program → List Event → ℕ → ℕ → Type 0
BeginsRight P es number first = (key : Key) → slice_get (keys_of es) number ≡ Some key → MayBegin P es key first

-- the method chosen for the key in the first world is of this site
abbrev pub ChoosesRight : Program → List Event → ℕ → ℕ → ℕ → Type 0
ChoosesRight P es number site first = (key : Key) → slice_get (keys_of es) number ≡ Some key → SelectsSite P es key first site

-- on an entry among all, after those of which these events tell
module _ (P : Program) (all : List Entry) (es : List Event) where
  -- what must hold of an entry, so that this cause does not
  abbrev pub IsFreeOf : Cause → Entry → Type 0
  IsFreeOf C.KeyOrder (E.Begin fuel) = Unit {0}
  IsFreeOf C.KeyOrder (E.Key number function tuple) = IsNextKey P es number function tuple
  IsFreeOf C.KeyOrder (E.Fill key site first) = Unit {0}
  IsFreeOf C.KeyOrder (E.Def task site) = Unit {0}
  IsFreeOf C.KeyOrder (E.Del task place) = Unit {0}
  IsFreeOf C.KeyOrder (E.Spawn task child place) = Unit {0}
  IsFreeOf C.KeyOrder (E.Done task calls trace output ending) = Unit {0}
  IsFreeOf C.KeyUnknown (E.Begin fuel) = Unit {0}
  IsFreeOf C.KeyUnknown (E.Key number function tuple) = IsKnownKey P function tuple
  IsFreeOf C.KeyUnknown (E.Fill key site first) = Unit {0}
  IsFreeOf C.KeyUnknown (E.Def task site) = Unit {0}
  IsFreeOf C.KeyUnknown (E.Del task place) = Unit {0}
  IsFreeOf C.KeyUnknown (E.Spawn task child place) = Unit {0}
  IsFreeOf C.KeyUnknown (E.Done task calls trace output ending) = Unit {0}
  IsFreeOf C.FillKey (E.Begin fuel) = Unit {0}
  IsFreeOf C.FillKey (E.Key number function tuple) = Unit {0}
  IsFreeOf C.FillKey (E.Fill key site first) = IsNextFill es key first
  IsFreeOf C.FillKey (E.Def task site) = Unit {0}
  IsFreeOf C.FillKey (E.Del task place) = Unit {0}
  IsFreeOf C.FillKey (E.Spawn task child place) = Unit {0}
  IsFreeOf C.FillKey (E.Done task calls trace output ending) = Unit {0}
  IsFreeOf C.FillWorld (E.Begin fuel) = Unit {0}
  IsFreeOf C.FillWorld (E.Key number function tuple) = Unit {0}
  IsFreeOf C.FillWorld (E.Fill key site first) = BeginsRight P es key first
  IsFreeOf C.FillWorld (E.Def task site) = Unit {0}
  IsFreeOf C.FillWorld (E.Del task place) = Unit {0}
  IsFreeOf C.FillWorld (E.Spawn task child place) = Unit {0}
  IsFreeOf C.FillWorld (E.Done task calls trace output ending) = Unit {0}
  IsFreeOf C.FillChoice (E.Begin fuel) = Unit {0}
  IsFreeOf C.FillChoice (E.Key number function tuple) = Unit {0}
  IsFreeOf C.FillChoice (E.Fill key site first) = ChoosesRight P es key site first
  IsFreeOf C.FillChoice (E.Def task site) = Unit {0}
  IsFreeOf C.FillChoice (E.Del task place) = Unit {0}
  IsFreeOf C.FillChoice (E.Spawn task child place) = Unit {0}
  IsFreeOf C.FillChoice (E.Done task calls trace output ending) = Unit {0}
  IsFreeOf C.NotRunning (E.Begin fuel) = Unit {0}
  IsFreeOf C.NotRunning (E.Key number function tuple) = Unit {0}
  IsFreeOf C.NotRunning (E.Fill key site first) = Unit {0}
  IsFreeOf C.NotRunning (E.Def task site) = IsRunning es task
  IsFreeOf C.NotRunning (E.Del task place) = IsRunning es task
  IsFreeOf C.NotRunning (E.Spawn task child place) = IsRunning es task
  IsFreeOf C.NotRunning (E.Done task calls trace output ending) = IsRunning es task
  IsFreeOf C.Site (E.Begin fuel) = Unit {0}
  IsFreeOf C.Site (E.Key number function tuple) = Unit {0}
  IsFreeOf C.Site (E.Fill key site first) = Unit {0}
  IsFreeOf C.Site (E.Def task site) = IsScriptSite P site
  IsFreeOf C.Site (E.Del task place) = place < length P.deletes
  IsFreeOf C.Site (E.Spawn task child place) = place < length P.spawns
  IsFreeOf C.Site (E.Done task calls trace output ending) = Unit {0}
  IsFreeOf C.NoDefinition (E.Begin fuel) = Unit {0}
  IsFreeOf C.NoDefinition (E.Key number function tuple) = Unit {0}
  IsFreeOf C.NoDefinition (E.Fill key site first) = Unit {0}
  IsFreeOf C.NoDefinition (E.Def task site) = Unit {0}
  IsFreeOf C.NoDefinition (E.Del task place) = FindsMethod P es place
  IsFreeOf C.NoDefinition (E.Spawn task child place) = Unit {0}
  IsFreeOf C.NoDefinition (E.Done task calls trace output ending) = Unit {0}
  IsFreeOf C.ChildOrder (E.Begin fuel) = Unit {0}
  IsFreeOf C.ChildOrder (E.Key number function tuple) = Unit {0}
  IsFreeOf C.ChildOrder (E.Fill key site first) = Unit {0}
  IsFreeOf C.ChildOrder (E.Def task site) = Unit {0}
  IsFreeOf C.ChildOrder (E.Del task place) = Unit {0}
  IsFreeOf C.ChildOrder (E.Spawn task child place) = child ≡ tasks_of es
  IsFreeOf C.ChildOrder (E.Done task calls trace output ending) = Unit {0}
  IsFreeOf C.Limit (E.Begin fuel) = Unit {0}
  IsFreeOf C.Limit (E.Key number function tuple) = Unit {0}
  IsFreeOf C.Limit (E.Fill key site first) = Unit {0}
  IsFreeOf C.Limit (E.Def task site) = world_of es < MOST_WORLDS
  IsFreeOf C.Limit (E.Del task place) = world_of es < MOST_WORLDS
  IsFreeOf C.Limit (E.Spawn task child place) = tasks_of es < MOST_TASKS
  IsFreeOf C.Limit (E.Done task calls trace output ending) = Unit {0}
  IsFreeOf C.Unfinished (E.Begin fuel) = IsTrue (has_end all 0)
  IsFreeOf C.Unfinished (E.Key number function tuple) = Unit {0}
  IsFreeOf C.Unfinished (E.Fill key site first) = Unit {0}
  IsFreeOf C.Unfinished (E.Def task site) = Unit {0}
  IsFreeOf C.Unfinished (E.Del task place) = Unit {0}
  IsFreeOf C.Unfinished (E.Spawn task child place) = IsTrue (has_end all child)
  IsFreeOf C.Unfinished (E.Done task calls trace output ending) = Unit {0}
  IsFreeOf C.ItemFalse (E.Begin fuel) = Unit {0}
  IsFreeOf C.ItemFalse (E.Key number function tuple) = Unit {0}
  IsFreeOf C.ItemFalse (E.Fill key site first) = Unit {0}
  IsFreeOf C.ItemFalse (E.Def task site) = Unit {0}
  IsFreeOf C.ItemFalse (E.Del task place) = Unit {0}
  IsFreeOf C.ItemFalse (E.Spawn task child place) = Unit {0}
  IsFreeOf C.ItemFalse (E.Done task calls trace output ending) = HasTrueTrace P es task (record_of calls trace output)
  IsFreeOf C.EventMissing (E.Begin fuel) = Unit {0}
  IsFreeOf C.EventMissing (E.Key number function tuple) = Unit {0}
  IsFreeOf C.EventMissing (E.Fill key site first) = Unit {0}
  IsFreeOf C.EventMissing (E.Def task site) = Unit {0}
  IsFreeOf C.EventMissing (E.Del task place) = Unit {0}
  IsFreeOf C.EventMissing (E.Spawn task child place) = Unit {0}
  IsFreeOf C.EventMissing (E.Done task calls trace output ending) = HasOwnEvents es task (record_of calls trace output)
  IsFreeOf C.RunDiffers (E.Begin fuel) = Unit {0}
  IsFreeOf C.RunDiffers (E.Key number function tuple) = Unit {0}
  IsFreeOf C.RunDiffers (E.Fill key site first) = Unit {0}
  IsFreeOf C.RunDiffers (E.Def task site) = Unit {0}
  IsFreeOf C.RunDiffers (E.Del task place) = Unit {0}
  IsFreeOf C.RunDiffers (E.Spawn task child place) = Unit {0}
  IsFreeOf C.RunDiffers (E.Done task calls trace output ending) = Unit {0}

-- ---- the verdict of the first round

-- the place of a cause in the table: of several, the first is reported
abbrev pub rank : Cause → ℕ
rank C.KeyOrder = 0
rank C.KeyUnknown = 1
rank C.FillKey = 2
rank C.FillWorld = 3
rank C.FillChoice = 4
rank C.NotRunning = 5
rank C.Site = 6
rank C.NoDefinition = 7
rank C.ChildOrder = 8
rank C.Limit = 9
rank C.Unfinished = 10
rank C.ItemFalse = 11
rank C.EventMissing = 12
rank C.RunDiffers = 13

module _ (P : Program) (all : List Entry) where
  -- no cause holds of an entry after events
  abbrev pub IsClean : List Event → Entry → Type 0
  IsClean es x = (cause : Cause) → IsFreeOf P all es cause x

  -- a cause holds of an entry after events, and none before it in the table does
  pub record IsFirstAt (es : List Event) (x : Entry) (cause : Cause) : Type 0 where
    pub holds : IsFreeOf P all es cause x → ⊥
    pub first : (other : Cause) → rank other < rank cause → IsFreeOf P all es other x

  -- each of these entries is clean after those before it, and the events are what they tell
  pub record AreClean (xs : List Entry) (es : List Event) : Type 0 where
    pub told : AllTell P xs es
    pub clean : (n : ℕ) (x : Entry) → slice_get xs n ≡ Some x → IsClean (take n es) x

  -- no cause holds of any entry
  abbrev pub HasNoCause : Type 0
  HasNoCause = (es : List Event) × AreClean all es

  -- the entry at a place is the first of which a cause holds, and this is the first such cause
  pub record IsFirstCause (n : ℕ) (cause : Cause) : Type 0 where
    pub before : List Event
    pub clean : AreClean (take n all) before
    pub entry : Entry
    pub there : slice_get all n ≡ Some entry
    pub least : IsFirstAt before entry cause
