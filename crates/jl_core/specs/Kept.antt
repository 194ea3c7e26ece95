-- What the model keeps: a state that is reached by enabled steps, and the words of its rows.
use Rattle.std.specs.Prelude.{ℕ, ◌≡◌, List, map, slice_get, Option, None, Some}
use Rattle.jl_program.specs.declared.tree.Program.{Program}
use Rattle.jl_calculus.specs.declared.history.Event.{Event}
use Rattle.jl_calculus.specs.Core as C
use Rattle.jl_calculus.specs.Kept.{Places}
use Rattle.jl_calculus.specs.Ranges.{rows_of}
use Rattle.jl_calculus.specs.Words.{IsRowWords}
use Rattle.jl_core.specs.declared.state.Core.TheInside.{Inside}
use Rattle.jl_core.specs.declared.state.Opening.{Opening}
use Rattle.jl_core.specs.declared.words.Words.{Words}
use Rattle.jl_core.specs.Reached.{IsReached}
use Rattle.jl_core.specs.State.{State}
use Rattle.jl_core.specs.View.{row_of, task_of}

abbrev pub opened_of : Option Opening → List ℕ → Option C.Opened
opened_of None cut = None
opened_of (Some o) cut = Some (record { task = o.task; change = o.change; cut = cut })

abbrev pub core_of : Inside → C.Core
core_of a = record { events = a.events.items; tasks = map task_of a.tasks.items; opened = opened_of a.opened a.cut.items }

abbrev pub state_of : Inside → State
state_of a = record { program = a.program; room = record { keys = a.keys; rows = a.rows }; core = core_of a }

-- the words of all rows, where some were cut for an open change
pub record AreWords (P : Program) (es : List Event) (cut : List ℕ) (words : List Words) : Type 0 where
  pub rows : map row_of words ≡ rows_of es
  pub each : (r : ℕ) (w : Words) → slice_get words r ≡ Some w → IsRowWords P es cut r w.site w.first w.last w.next

-- a state that is reached, with the words of its rows
pub record Keeps (P : Program) (room : Places) (s : C.Core) (words : List Words) : Type 0 where
  pub reached : IsReached P room s
  pub words_told : AreWords P s.events (C.cut_for s.opened) words

abbrev pub IsKept : Inside → Type 0
IsKept a = Keeps a.program (record { keys = a.keys; rows = a.rows }) (core_of a) a.words.items
