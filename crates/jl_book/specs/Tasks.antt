-- Which tasks of a history have ended, and what the tasks made.
use Rattle.std.specs.Prelude.{ℕ, zero, suc, ◌+◌, ◌≡◌, ◌<◌, List, [], ◌∷◌, length, slice_get, get_or, Option, None, Some}
use Rattle.jl_program.specs.declared.tree.Program.{Program}
use Rattle.jl_calculus.specs.declared.history.Event.{Event}
use Rattle.jl_calculus.specs.declared.history.Event.TheVariants as Ev
use Rattle.jl_calculus.specs.declared.history.Record.{Record}
use Rattle.jl_calculus.specs.Legal.{IsRunning, AreFinished, MayStand}
use Rattle.jl_calculus.specs.Past.{tasks_of, done_of, own_events}

-- 1 for a task without a Done
abbrev pub one_open : Option Record → ℕ
one_open None = 1
one_open (Some ended) = 0

-- how many of the tasks below a number have no Done
abbrev pub open_below : List Event → ℕ → ℕ
open_below es zero = 0
open_below es (suc t) = one_open (done_of t es) + open_below es t

-- how many tasks were started and have no Done
abbrev pub unfinished_of : List Event → ℕ
unfinished_of es = open_below es (tasks_of es)

-- a task is unfinished while it runs
abbrev pub RunningIsUnfinished : Type 0
RunningIsUnfinished = (es : List Event) (t : ℕ) → IsRunning es t → 0 < unfinished_of es

-- where no task is unfinished each task has a Done
abbrev pub NoneIsUnfinished : Type 0
NoneIsUnfinished = (es : List Event) → unfinished_of es ≡ 0 → AreFinished es

-- where the Done of a task stands among the events, if it has ended
abbrev pub IsEndAt : List Event → ℕ → Option ℕ → Type 0
IsEndAt es t None = done_of t es ≡ None
IsEndAt es t (Some p) = (ended : Record) × (slice_get es p ≡ Some (Ev.Done t ended)) × (done_of t es ≡ Some ended)

-- a place for each task, where its Done stands if it has ended
pub record HasEnds (es : List Event) (ends : List (Option ℕ)) : Type 0 where
  pub all : length ends ≡ tasks_of es
  pub each : (t : ℕ) → IsEndAt es t (get_or ends t None)

-- ---- what the tasks made

-- 1 for a definition, a deletion or a spawn
abbrev pub one_made : Event → ℕ
one_made (Ev.Def task site) = 1
one_made (Ev.Del task place) = 1
one_made (Ev.Spawn task child start) = 1
one_made (Ev.Begin fuel) = 0
one_made (Ev.Key key) = 0
one_made (Ev.Fill key site first) = 0
one_made (Ev.Done task ended) = 0

-- how many definitions, deletions and spawns there are
abbrev pub made_in : List Event → ℕ
made_in [] = 0
made_in (e ∷ es) = one_made e + made_in es

-- how many of them are a task's own
abbrev pub share_of : List Event → ℕ → ℕ
share_of es t = length (own_events t 0 es)

-- a share counts where its task has a Done
abbrev pub if_ended : Option Record → ℕ → ℕ
if_ended None n = 0
if_ended (Some ended) n = n

-- the shares of those tasks below a number that have a Done
abbrev pub shares_below : List Event → ℕ → ℕ
shares_below es zero = 0
shares_below es (suc t) = if_ended (done_of t es) (share_of es t) + shares_below es t

-- the shares of all tasks that have ended
abbrev pub gathered_in : List Event → ℕ
gathered_in es = shares_below es (tasks_of es)

-- once all tasks have ended, the shares of the tasks are all definitions, deletions and spawns, each once
abbrev pub EachOnce : Type 0
EachOnce = (P : Program) (es : List Event) → MayStand P es → AreFinished es → gathered_in es ≡ made_in es
