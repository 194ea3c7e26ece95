-- Laws of histories. Each is the contract of a function of the module `history_laws`.
use Rattle.std.specs.Prelude.{ℕ, ◌≡◌, ◌<◌, ◌≤◌, ◌↔◌, List, ◌++◌, Option, None, Some}
use Rattle.jl_model.specs.declared.ty.Key.{Key}
use Rattle.jl_model.specs.declared.ty.Ty.{Ty}
use Rattle.jl_program.specs.declared.choice.Choice.{Choice}
use Rattle.jl_program.specs.declared.tree.Program.{Program}
use Rattle.jl_program.specs.Gathered.{times}
use Rattle.jl_calculus.specs.declared.history.Event.{Event}
use Rattle.jl_calculus.specs.Kept.{Places, IsKeptFor}
use Rattle.jl_calculus.specs.Learnt.{Learnt, IsLearntOf}
use Rattle.jl_program.specs.declared.tree.Start.{Start}
use Rattle.jl_program.specs.Valid.{IsValid}
use Rattle.jl_calculus.specs.declared.history.Outcome.{Outcome}
use Rattle.jl_calculus.specs.declared.history.TraceItem.{TraceItem}
use Rattle.jl_calculus.specs.Legal.{IsKeyOf, AreTrueOf, MayStand}
use Rattle.jl_calculus.specs.Run.{setting_of, Run}
use Rattle.jl_calculus.specs.Views.{views_of}
use Rattle.jl_calculus.specs.Past.{tasks_of}
use Rattle.jl_calculus.specs.Ranges.{Covers, SelectsSite, MayBegin, IsRightFill}
use Rattle.jl_calculus.specs.World.{world_of, Selects}

-- an item that is true of a list of events stays true when the list grows
abbrev pub ItemsStay : Type 0
ItemsStay = (P : Program) (es more : List Event) (task : ℕ) (i : Learnt) → IsLearntOf P es task i → IsLearntOf P (es ++ more) task i

-- a call that is kept stays so
abbrev pub KeptStays : Type 0
KeptStays = (P : Program) (es more : List Event) (room : Places) (f : ℕ) (ts : List Ty) (w : ℕ) → IsKeptFor P es room f ts w → IsKeptFor P (es ++ more) room f ts w

-- the choice in a world of a list of events is that of each list that goes on from it
abbrev pub ChoiceStays : Type 0
ChoiceStays =
    (P : Program) (es more : List Event) (f : ℕ) (ts : List Ty) (w : ℕ) (c : Choice) → w ≤ world_of es → Selects P es f ts w c ↔ Selects P (es ++ more) f ts w c

-- and so are the worlds, up to the newest, that a row covers
abbrev pub RangesStay : Type 0
RangesStay = (P : Program) (es more : List Event) (key : Key) (first w : ℕ) → w ≤ world_of es → Covers P es key first w ↔ Covers P (es ++ more) key first w

-- a fill that is right stays so
abbrev pub RightStays : Type 0
RightStays = (P : Program) (es more : List Event) (key : Key) (site first : ℕ) → IsRightFill P es key site first → IsRightFill P (es ++ more) key site first

-- at most one site is right for a key and a first world
abbrev pub OneRightSite : Type 0
OneRightSite = (P : Program) (es : List Event) (key : Key) (s t first : ℕ) → IsRightFill P es key s first → IsRightFill P es key t first → s ≡ t

-- two rows of a key that cover one world begin in the same world
abbrev pub OneFirstWorld : Type 0
OneFirstWorld =
    (P : Program) (es : List Event) (key : Key) (a b w : ℕ) → MayBegin P es key a → MayBegin P es key b → Covers P es key a w → Covers P es key b w → a ≡ b

-- the choice for a key of a valid program is the same in all worlds that a row of it covers
abbrev pub RowsKeepTheChoice : Type 0
RowsKeepTheChoice =
    (P : Program) → IsValid P → (es : List Event) (key : Key) (first w : ℕ) → IsKeyOf P key → Covers P es key first w
    → (c : Choice) → Selects P es key.function key.types first c ↔ Selects P es key.function key.types w c

-- so the site of a right row is that of the choice in each world that it covers
abbrev pub RowsTellTheSite : Type 0
RowsTellTheSite = (P : Program) → IsValid P → (es : List Event) (key : Key) (site first w : ℕ) → IsKeyOf P key → IsRightFill P es key site first → Covers P es key first w → SelectsSite P es key w site

-- and where a row may begin and covers a world, it is right with the site of the choice there
abbrev pub RowsAreRight : Type 0
RowsAreRight =
    (P : Program) → IsValid P → (es : List Event) (key : Key) (site first w : ℕ) → IsKeyOf P key → MayBegin P es key first → Covers P es key first w → SelectsSite P es key w site → IsRightFill P es key site first

-- a list of numbers has each task of the events once, and no other
abbrev pub HasEachOnce : List Event → List ℕ → Type 0
HasEachOnce es order = (task : ℕ) → (task < tasks_of es → times task order ≡ 1) × (tasks_of es ≤ task → times task order ≡ 0)

abbrev pub OrdersAreWhole : (List Event → List ℕ) → Type 0
OrdersAreWhole order = (P : Program) (es : List Event) → MayStand P es → HasEachOnce es (order es)

-- the world of a start is there; the root starts in the last world of the prelude
abbrev pub IsStartSeen : List Event → Option Start → Type 0
IsStartSeen es None = Unit {0}
IsStartSeen es (Some start) = start.world ≤ world_of es

-- what a task did, whose items are true of the events and whose start is in one of their worlds, stays a run when the list grows
abbrev pub RunsStay : Type 0
RunsStay =
    (P : Program) (es more : List Event) (room : Option Places) (fuel task : ℕ) (start : Option Start) (trace : List TraceItem) (outcome : Outcome) (output : List ℕ) (made : ℕ) (spawned : List Start)
    → AreTrueOf P es task trace → IsStartSeen es start → Run (setting_of P es room fuel) start trace outcome output made spawned
    → Run (setting_of P (es ++ more) room fuel) start trace outcome output made spawned

-- for a valid program, what is visible at its spawn places is what its validity was shown with
abbrev pub ViewsAreOne : Type 0
ViewsAreOne = (P : Program) (valid : IsValid P) → views_of P ≡ valid.views
