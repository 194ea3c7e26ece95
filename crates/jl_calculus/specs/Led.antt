-- Runs that a trace leads, up to a definition, a deletion or a spawn, whether or not the task that makes them ends.
use Rattle.std.specs.Prelude.{ℕ, ◌≡◌, cond, nat_eq, List, [], ◌∷◌, ◌++◌, ◌+◌, length, slice_get, Option, None, Some}
use Rattle.jl_program.specs.declared.tree.Program.{Program}
use Rattle.jl_program.specs.declared.tree.Start.{Start}
use Rattle.jl_calculus.specs.declared.history.Event.{Event}
use Rattle.jl_calculus.specs.declared.history.Event.TheVariants as Ev
use Rattle.jl_calculus.specs.declared.history.Outcome.{Outcome}
use Rattle.jl_calculus.specs.declared.history.TraceItem.{TraceItem}
use Rattle.jl_calculus.specs.declared.history.TraceItem.TheVariants.{Look, Def, Del, Spawn, Fetch, WorldFull, TaskFull, Absent}
use Rattle.jl_calculus.specs.Kept.{Places}
use Rattle.jl_calculus.specs.Legal.{fuel_of, start_of}
use Rattle.jl_calculus.specs.Run.{Question, a_look, a_definition, a_deletion, a_spawn, a_fetch, setting_of, Run, Comes}

-- the question of a spawn from this start
abbrev pub spawn_asked : Option Start → Option Question
spawn_asked None = None
spawn_asked (Some start) = Some (a_spawn start)

-- the question that an item of a trace answers, where a spawn is from this start: what is full does not tell what there was no room
-- for
abbrev pub asked_by : Option Start → TraceItem → Option Question
asked_by start (Look w p) = Some a_look
asked_by start (Def site p) = Some (a_definition site)
asked_by start (Spawn child p) = spawn_asked start
asked_by start (Fetch task outcome p) = Some (a_fetch task)
asked_by start (WorldFull p) = None
asked_by start (TaskFull p) = None
asked_by start (Del place p) = Some (a_deletion place)
asked_by start (Absent place p) = Some (a_deletion place)

-- how many spawns a trace has
abbrev pub spawn_count : List TraceItem → ℕ
spawn_count [] = 0
spawn_count (Spawn child p ∷ is) = 1 + spawn_count is
spawn_count (Look w p ∷ is) = spawn_count is
spawn_count (Def site p ∷ is) = spawn_count is
spawn_count (Fetch task outcome p ∷ is) = spawn_count is
spawn_count (WorldFull p ∷ is) = spawn_count is
spawn_count (TaskFull p ∷ is) = spawn_count is
spawn_count (Del place p ∷ is) = spawn_count is
spawn_count (Absent place p ∷ is) = spawn_count is

-- the items of a trace before its definition, deletion or spawn at a place
abbrev pub items_before : ℕ → List TraceItem → List TraceItem
items_before p [] = []
items_before p (Def site q ∷ is) = cond (nat_eq q p) [] (Def site q ∷ items_before p is)
items_before p (Spawn child q ∷ is) = cond (nat_eq q p) [] (Spawn child q ∷ items_before p is)
items_before p (Look w q ∷ is) = Look w q ∷ items_before p is
items_before p (Fetch task outcome q ∷ is) = Fetch task outcome q ∷ items_before p is
items_before p (WorldFull q ∷ is) = WorldFull q ∷ items_before p is
items_before p (TaskFull q ∷ is) = TaskFull q ∷ items_before p is
items_before p (Del place q ∷ is) = cond (nat_eq q p) [] (Del place q ∷ items_before p is)
items_before p (Absent place q ∷ is) = Absent place q ∷ items_before p is

-- the run of a task comes to a question after these events, led by what its trace tells before the place that comes next
abbrev pub ComesTo : Program → List Event → ℕ → List TraceItem → Question → Type 0
ComesTo P es task trace question =
    (fuel : ℕ) → fuel_of es ≡ Some fuel → Comes P es None fuel (start_of task es) (items_before (length es) trace) question

-- a definition, a deletion or a spawn that comes after these events is one that the run of its task comes to, led by a trace for each task
abbrev pub IsLedTo : Program → List Event → (ℕ → List TraceItem) → Event → Type 0
IsLedTo P es traces (Ev.Def task site) = ComesTo P es task (traces task) (a_definition site)
IsLedTo P es traces (Ev.Spawn task child start) = ComesTo P es task (traces task) (a_spawn start)
IsLedTo P es traces (Ev.Del task place) = ComesTo P es task (traces task) (a_deletion place)
IsLedTo P es traces (Ev.Begin fuel) = Unit {0}
IsLedTo P es traces (Ev.Key key) = Unit {0}
IsLedTo P es traces (Ev.Fill key site first) = Unit {0}
IsLedTo P es traces (Ev.Done task ended) = Unit {0}

-- ---- the law

-- a run comes, at each item of its trace that tells a question, to this question: a trace that is cut off before the item leads to it;
-- a spawn is from the start that the run has for it
abbrev pub RunsCome : Type 0
RunsCome =
    (P : Program) (es : List Event) (places : Option Places) (fuel : ℕ) (start : Option Start) (before : List TraceItem) (item : TraceItem) (after : List TraceItem) (outcome : Outcome) (output : List ℕ) (made : ℕ) (spawned : List Start) (question : Question)
    → Run (setting_of P es places fuel) start (before ++ item ∷ after) outcome output made spawned → asked_by (slice_get spawned (spawn_count before)) item ≡ Some question
    → Comes P es places fuel start before question
