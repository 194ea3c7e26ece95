-- Events as far as the entries of a text tell them. What the text leaves out stands as something fixed: the values that a task starts
-- with, the outcome of a task, and that of a fetch. So what is asked of events can be asked of a text.
use Rattle.std.specs.Prelude.{ℕ, ◌≡◌, List, [], ◌∷◌}
use Rattle.jl_model.specs.declared.ty.Key.{Key}
use Rattle.jl_model.specs.declared.ty.Ty.TheVariants.{Tuple}
use Rattle.jl_program.specs.declared.fault.Fault.TheVariants as F
use Rattle.jl_program.specs.declared.tree.Program.{Program}
use Rattle.jl_program.specs.declared.tree.Start.{Start}
use Rattle.jl_program.specs.Prelude.{prelude_count}
use Rattle.jl_program.specs.Text.{function_name, type_text}
use Rattle.jl_calculus.specs.declared.history.Event.{Event}
use Rattle.jl_calculus.specs.declared.history.Event.TheVariants as Ev
use Rattle.jl_calculus.specs.declared.history.Outcome.{Outcome}
use Rattle.jl_calculus.specs.declared.history.Outcome.TheVariants as O
use Rattle.jl_calculus.specs.declared.history.Record.{Record}
use Rattle.jl_calculus.specs.declared.history.TraceItem.{TraceItem}
use Rattle.jl_calculus.specs.declared.history.TraceItem.TheVariants as I
use Rattle.jl_calculus.specs.Legal.{IsKeyOf}
use Rattle.jl_report.specs.declared.entry.Step.{Step}
use Rattle.jl_report.specs.declared.entry.Step.TheVariants as S
use Rattle.jl_report.specs.declared.entry.Entry.{Entry}
use Rattle.jl_report.specs.declared.entry.Entry.TheVariants as E

-- what stands for each outcome
abbrev pub untold : Outcome
untold = O.Error F.StackLimit

-- what stands for the start of a spawn: of it the place alone is told
abbrev pub start_at : ℕ → Start
start_at place = record { spawn = place; env = []; bindings = []; world = prelude_count }

-- a step as an item of a trace
abbrev pub item_of : Step → TraceItem
item_of (S.Look w p) = I.Look w p
item_of (S.Def site p) = I.Def site p
item_of (S.Spawn child p) = I.Spawn child p
item_of (S.Fetch task p) = I.Fetch task untold p
item_of (S.WorldFull p) = I.WorldFull p
item_of (S.TaskFull p) = I.TaskFull p
item_of (S.Del place p) = I.Del place p
item_of (S.Absent place p) = I.Absent place p

abbrev pub items_of : List Step → List TraceItem
items_of [] = []
items_of (s ∷ ss) = item_of s ∷ items_of ss

-- the record of the end of a task
abbrev pub record_of : ℕ → List Step → List ℕ → Record
record_of calls trace output = record { trace = items_of trace; outcome = untold; output = output; calls = calls }

-- the texts of a function and of a tuple of types name this key of the program
pub record Names (P : Program) (function tuple : List ℕ) (key : Key) : Type 0 where
  pub proper : IsKeyOf P key
  pub by_function : function_name P key.function ≡ function
  pub by_types : type_text P (Tuple key.types) ≡ tuple

-- the event is what an entry tells of it
abbrev pub Tells : Program → Entry → Event → Type 0
Tells P (E.Begin fuel) e = e ≡ Ev.Begin fuel
Tells P (E.Key number function tuple) e = (key : Key) × Names P function tuple key × (e ≡ Ev.Key key)
Tells P (E.Fill key site first) e = e ≡ Ev.Fill key site first
Tells P (E.Def task site) e = e ≡ Ev.Def task site
Tells P (E.Del task place) e = e ≡ Ev.Del task place
Tells P (E.Spawn task child place) e = e ≡ Ev.Spawn task child (start_at place)
Tells P (E.Done task calls trace output ending) e = e ≡ Ev.Done task (record_of calls trace output)

-- the events are what the entries tell of them, one by one
abbrev pub AllTell : Program → List Entry → List Event → Type 0
AllTell P [] es = es ≡ []
AllTell P (x ∷ xs) [] = ⊥
AllTell P (x ∷ xs) (e ∷ es) = Tells P x e × AllTell P xs es
