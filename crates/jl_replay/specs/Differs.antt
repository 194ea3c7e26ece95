-- The cause that a task did not do what its run does. It is judged where no cause holds that needs no run.
use Rattle.std.specs.Prelude.{ℕ, ◌≡◌, ◌<◌, List, [], ◌∷◌, ◌++◌, length, None, Some}
use Rattle.jl_program.specs.declared.tree.Program.{Program}
use Rattle.jl_calculus.specs.declared.history.Event.{Event}
use Rattle.jl_calculus.specs.declared.history.Event.TheVariants as Ev
use Rattle.jl_calculus.specs.Legal.{EachAfter, HasRun, IsKeyOf, IsLegal, fuel_of, start_of}
use Rattle.jl_calculus.specs.Run.{Question, a_definition, a_deletion, a_spawn, Comes}
use Rattle.jl_report.specs.declared.entry.Entry.{Entry}
use Rattle.jl_report.specs.HistoryText.{entries_of}
use Rattle.jl_replay.specs.Told.{trace_told, steps_before, items_told}

-- led by its trace the run of a task comes, after these events, to this question
abbrev pub ComesAsTold : Program → List Entry → List Event → ℕ → Question → Type 0
ComesAsTold P all es task question =
    (fuel : ℕ) → fuel_of es ≡ Some fuel → Comes P es None fuel (start_of task es) (items_told es (steps_before (length es) (trace_told task all))) question

-- an event is one that the run of its task makes after these: it comes to a definition, a deletion or a spawn, or ends with this record
abbrev pub IsMadeByRun : Program → List Entry → List Event → Event → Type 0
IsMadeByRun P all es (Ev.Def task site) = ComesAsTold P all es task (a_definition site)
IsMadeByRun P all es (Ev.Del task place) = ComesAsTold P all es task (a_deletion place)
IsMadeByRun P all es (Ev.Spawn task child start) = ComesAsTold P all es task (a_spawn start)
IsMadeByRun P all es (Ev.Done task ended) = (ended.trace ≡ items_told es (trace_told task all)) × HasRun P None es task ended
IsMadeByRun P all es (Ev.Begin fuel) = Unit {0}
IsMadeByRun P all es (Ev.Key key) = IsKeyOf P key
IsMadeByRun P all es (Ev.Fill key site first) = Unit {0}

-- events of which the first entries tell, each made by a run
pub record Replays (P : Program) (all : List Entry) (es : List Event) : Type 0 where
  pub rest : List Entry
  pub told : entries_of P es ++ rest ≡ all
  pub made : EachAfter (IsMadeByRun P all) [] es

-- the entry at a place differs from what the runs do: those before it are of events that the runs make, and no event that it may be of
-- is one
pub record IsFirstDifference (P : Program) (all : List Entry) (n : ℕ) : Type 0 where
  pub there : n < length all
  pub before : List Event
  pub count : length before ≡ n
  pub replays : Replays P all before
  pub differs : (e : Event) → Replays P all (before ++ e ∷ []) → ⊥

-- the entries are those of a legal history
abbrev pub AreLegalEntries : Program → List Entry → Type 0
AreLegalEntries P all = (es : List Event) × IsLegal P es × (entries_of P es ≡ all)
