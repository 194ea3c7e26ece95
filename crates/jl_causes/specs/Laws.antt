-- The laws of the first round. Each is the contract of a function of the module `laws`.
use Rattle.std.specs.Prelude.{ℕ, ◌≡◌, ◌<◌, List, [], ◌∷◌, ◌++◌, length, take, Some}
use Rattle.std.specs.List.{All}
use Rattle.jl_model.specs.declared.ty.Key.{Key}
use Rattle.jl_program.specs.declared.tree.Program.{Program}
use Rattle.jl_calculus.specs.declared.history.Event.{Event}
use Rattle.jl_calculus.specs.declared.history.Record.{Record}
use Rattle.jl_calculus.specs.declared.history.TraceItem.{TraceItem}
use Rattle.jl_calculus.specs.declared.history.TraceItem.TheVariants.{Look, Def, Del, Spawn, Fetch, WorldFull, TaskFull, Absent}
use Rattle.jl_calculus.specs.Legal.{IsKeyOf, OnDone, EachAfter, MayStand, IsTraced, AreFinished}
use Rattle.jl_calculus.specs.Past.{done_of}
use Rattle.jl_calculus.specs.Ranges.{keys_of}
use Rattle.jl_report.specs.declared.entry.Entry.{Entry}
use Rattle.jl_report.specs.HistoryText.{entries_of}
use Rattle.jl_causes.specs.Sketch.{Names}
use Rattle.jl_causes.specs.Causes.{StartWell, HasNoCause}

-- no two keys of the program have the same texts
abbrev pub AreApart : Program → Type 0
AreApart P = (function tuple : List ℕ) (a b : Key) → Names P function tuple a → Names P function tuple b → a ≡ b

-- where the task of a fetch has ended, its outcome is the one that the fetch tells
abbrev pub IsFetchTold : List Event → TraceItem → Type 0
IsFetchTold es (Fetch task outcome p) = (ended : Record) → done_of task (take p es) ≡ Some ended → ended.outcome ≡ outcome
IsFetchTold es (Look w p) = Unit {0}
IsFetchTold es (Def site p) = Unit {0}
IsFetchTold es (Spawn child p) = Unit {0}
IsFetchTold es (WorldFull p) = Unit {0}
IsFetchTold es (TaskFull p) = Unit {0}
IsFetchTold es (Del place p) = Unit {0}
IsFetchTold es (Absent place p) = Unit {0}

abbrev pub AreFetchesTold : List Event → List TraceItem → Type 0
AreFetchesTold es [] = Unit {0}
AreFetchesTold es (i ∷ is) = IsFetchTold es i × AreFetchesTold es is

-- each fetch of each task tells the outcome of the task that it fetches
abbrev pub TellsFetches : List Event → Type 0
TellsFetches es = EachAfter (λ past. OnDone (λ task ended. AreFetchesTold past ended.trace)) [] es

-- of the entries of a legal history no cause holds
abbrev pub LegalHasNoCause : Type 0
LegalHasNoCause = (P : Program) (es : List Event) → AreApart P → MayStand P es → IsTraced P es → AreFinished es → HasNoCause P (entries_of P es)

-- events of whose entries no cause holds are legal but for the runs of the tasks, where their keys are of the program, and their fetches
-- tell what the fetched tasks told
abbrev pub NoCauseIsLegal : Type 0
NoCauseIsLegal =
    (P : Program) (es : List Event) → AreApart P → All (IsKeyOf P) (keys_of es) → TellsFetches es → StartWell (entries_of P es) → HasNoCause P (entries_of P es)
    → MayStand P es × IsTraced P es × AreFinished es

-- and so are events whose entries are the first of such a text, as far as they go
abbrev pub NoCauseSoFar : Type 0
NoCauseSoFar =
    (P : Program) (all rest : List Entry) (es : List Event) → AreApart P → All (IsKeyOf P) (keys_of es) → TellsFetches es → StartWell all → HasNoCause P all → entries_of P es ++ rest ≡ all → 0 < length es
    → MayStand P es × IsTraced P es
