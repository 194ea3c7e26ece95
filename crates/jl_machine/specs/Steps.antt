-- A step of a machine over a lent program is a step of the task that it stands for.
use Rattle.std.specs.Prelude.{◌≡◌, ◌⊎◌, ◌<◌, ℕ, [], ◌∷◌, ◌++◌, List, map, Option, None, Some, slice_get, false}
use Rattle.jl_model.specs.declared.ty.Ty.{Ty}
use Rattle.jl_model.specs.declared.ty.Decl.{Decl}
use Rattle.jl_model.specs.Bindings.{bindings}
use Rattle.jl_model.specs.Signature.{Applicable}
use Rattle.jl_program.specs.declared.prelude.TheConstants.{FIRST_WORLD}
use Rattle.jl_program.specs.declared.tree.Expr.{Expr}
use Rattle.jl_program.specs.declared.tree.Program.{Program}
use Rattle.jl_program.specs.declared.tree.Site.{Site}
use Rattle.jl_program.specs.declared.tree.Start.{Start}
use Rattle.jl_program.specs.declared.value.Value.{Value}
use Rattle.jl_program.specs.declared.value.Value.TheVariants as V
use Rattle.jl_program.specs.Meaning.{value_of}
use Rattle.jl_program.specs.Scope.{all_types, types_of}
use Rattle.jl_program.specs.Valid.{IsValid}
use Rattle.jl_calculus.specs.declared.history.Record.{Record}
use Rattle.jl_calculus.specs.declared.history.TraceItem.{TraceItem}
use Rattle.jl_calculus.specs.declared.history.TraceItem.TheVariants.{Look}
use Rattle.jl_calculus.specs.Run.{open_calls}
use Rattle.jl_calculus.specs.ValidStart.{IsValidStart}
use Rattle.jl_frames.specs.Held.{Held}
use Rattle.jl_task.specs.declared.point.Work.{Work}
use Rattle.jl_task.specs.declared.point.Work.TheVariants as W
use Rattle.jl_task.specs.declared.point.Now.{Now}
use Rattle.jl_task.specs.Weight.{turns_left}
use Rattle.jl_task.specs.Knows.{Knows, Looked, Refused, IsNotDone}
use Rattle.jl_task.specs.Worlds.{IsWorld}
use Rattle.jl_task.specs.Asks.{Job}
use Rattle.jl_task.specs.Fits.{Progress, FitsWith, IsKnowing, Steps, Waits, IsFresh, IsRunOf}
use Rattle.jl_task.specs.Known.{IsKnown, AreFetchesKnown}
use Rattle.jl_machine.specs.declared.now.LentWork.{LentWork}
use Rattle.jl_machine.specs.declared.now.LentWork.TheVariants.{Eval, Give, Leave, Acting, Calling, Items, Defining, Pieces, Ended, Lost}
use Rattle.jl_machine.specs.declared.task.Task.{Task}
use Rattle.jl_machine.specs.declared.task.Machine.{Machine}
use Rattle.jl_machine.specs.declared.task.Next.{Next}
use Rattle.jl_machine.specs.declared.task.Next.TheVariants as N
use Rattle.jl_machine.specs.declared.task.Turn.{Turn}
use Rattle.jl_machine.specs.declared.task.Turn.TheVariants as T
use Rattle.jl_machine.specs.Lent.{now_of, work_of, IsSettled}

-- as far as a task has come
abbrev pub progress_of : Task → Progress
progress_of t = record { fuel = t.fuel; trace = t.trace; calls = t.calls; now = now_of t.now }

-- a task that knows the tasks that it mentions goes on to know them
abbrev pub KnowsOn : Knows → Work → Task → Knows → Work → Task → Type 0
KnowsOn k w t k' w' t' = IsKnowing k w (progress_of t) → IsKnowing k' w' (progress_of t')

pub record LentSteps (k : Knows) (w : Work) (t : Task) (k' : Knows) (work : LentWork) (t' : Task) : Type 0 where
  pub steps : Steps k w (progress_of t) k' (work_of work t'.now) (progress_of t')
  pub knows : KnowsOn k w t k' (work_of work t'.now) t'
  pub settled : IsSettled work t'.now

-- a task that waits for another, which it knows and which has not ended, is as it was
pub record LentWaits (k : Knows) (w : Work) (t : Task) (k' : Knows) (task : ℕ) (t' : Task) : Type 0 where
  pub waits : Waits k w (progress_of t) k'
  pub knows : KnowsOn k w t k' w t
  pub known : IsKnowing k w (progress_of t) → IsKnown k.start t.trace task
  pub running : IsNotDone k' task
  pub same : t' ≡ t

-- a step that asked nobody
pub record Moves (k : Knows) (w : Work) (t : Task) (work : LentWork) (t' : Task) : Type 0 where
  pub step : LentSteps k w t k work t'
  pub trace : t'.trace ≡ t.trace

-- a step that asked nobody, or the task is as it was
abbrev pub MayMove : Knows → Work → Task → Option LentWork → Task → Type 0
MayMove k w t (Some work) t' = Moves k w t work t'
MayMove k w t None t' = t' ≡ t

-- steps that asked nobody, or the task and what comes next are as they were
abbrev pub GoesOn : Knows → LentWork → Task → LentWork → Task → Type 0
GoesOn k work t work' t' = ((work' ≡ work) × (t' ≡ t)) ⊎ Moves k (work_of work t.now) t work' t'

-- what a turn leads to
abbrev pub Goes : Knows → Work → Task → Knows → Next → Task → Type 0
Goes k w t k' (N.Go work) t' = LentSteps k w t k' work t'
Goes k w t k' (N.Wait task) t' = LentWaits k w t k' task t'

-- a look, which stands in the trace
pub record HasLooked (before now : Knows) (w : ℕ) (t t' : Task) : Type 0 where
  pub place : ℕ
  pub looked : Looked before now w place
  pub task : t' ≡ record t { trace = t.trace ++ Look w place ∷ [] }

-- there is something to do
abbrev pub IsWorking : LentWork → Type 0
IsWorking (Eval e) = Unit {0}
IsWorking Give = Unit {0}
IsWorking Leave = Unit {0}
IsWorking (Acting e) = Unit {0}
IsWorking (Calling f w) = Unit {0}
IsWorking (Items fresh xs) = Unit {0}
IsWorking (Defining fresh site xs) = Unit {0}
IsWorking (Pieces line xs) = Unit {0}
IsWorking Ended = ⊥
IsWorking Lost = ⊥

-- the types of the variables of a site's signature, if the site is there, for arguments of these types
abbrev pub variables_at : Program → List Ty → Option Site → List Ty
variables_at P ts None = []
variables_at P ts (Some site) = bindings (types_of P) site.sig ts

-- the signature of a site applies to types, if the site is there
abbrev pub AppliesAt : Program → List Ty → Option Site → Type 0
AppliesAt P ts None = ⊥
AppliesAt P ts (Some site) = Applicable (types_of P) site.sig ts

-- ---- machines

-- the job of a machine with this program and this fuel, which asks this dispatcher
abbrev pub job_with : Program → ℕ → Knows → Job
job_with P fuel k = record { program = P; start = k.start; places = k.places; fuel = fuel }

-- what a machine has to do fits its dispatcher
pub record IsAt (P : Program) (fuel : ℕ) (k : Knows) (work : LentWork) (t : Task) : Type 0 where
  pub fits : FitsWith (job_with P fuel k) k (work_of work t.now) (progress_of t)
  pub knows : IsKnowing k (work_of work t.now) (progress_of t)
  pub settled : IsSettled work t.now

-- a machine that is lost fits each dispatcher
abbrev pub FitsAt : Program → ℕ → Knows → LentWork → Task → Type 0
FitsAt P fuel k Lost t = Unit {0}
FitsAt P fuel k (Eval e) t = IsAt P fuel k (Eval e) t
FitsAt P fuel k Give t = IsAt P fuel k Give t
FitsAt P fuel k Leave t = IsAt P fuel k Leave t
FitsAt P fuel k (Acting e) t = IsAt P fuel k (Acting e) t
FitsAt P fuel k (Calling f w) t = IsAt P fuel k (Calling f w) t
FitsAt P fuel k (Items fresh xs) t = IsAt P fuel k (Items fresh xs) t
FitsAt P fuel k (Defining fresh site xs) t = IsAt P fuel k (Defining fresh site xs) t
FitsAt P fuel k (Pieces line xs) t = IsAt P fuel k (Pieces line xs) t
FitsAt P fuel k Ended t = IsAt P fuel k Ended t

-- what a machine has prepared is of the program's types, if it is not lost
abbrev pub TypesAt : Program → LentWork → List Decl → Type 0
TypesAt P Lost ds = Unit {0}
TypesAt P _ ds = ds ≡ all_types P

-- a machine fits a dispatcher, for this program and this fuel
pub record MachineFits (P : Program) (fuel : ℕ) (k : Knows) (m : Machine) : Type 0 where
  pub task : FitsAt P fuel k m.work m.task
  pub types : TypesAt P m.work m.memo

abbrev pub fuel_of : Machine → ℕ
fuel_of m = m.task.fuel

abbrev pub trace_of : Machine → List TraceItem
trace_of m = m.task.trace

-- the machine has met want of memory, and does nothing more
abbrev pub IsLost : Machine → Type 0
IsLost m = m.work ≡ Lost

-- the machine has ended
abbrev pub IsEnded : Machine → Type 0
IsEnded m = m.work ≡ Ended

-- the turns that a machine has left, at most
abbrev pub turns_of : Program → Machine → ℕ
turns_of P m = turns_left P m.task.fuel m.task.calls (work_of m.work m.task.now) (now_of m.task.now)

-- what a turn says: fewer turns are left, the machine waits as it was, or the task has ended
abbrev pub TurnSays : Program → Machine → Machine → Turn → Type 0
TurnSays P before now T.Again = turns_of P now < turns_of P before
TurnSays P before now (T.NeedFetch task) = now ≡ before
TurnSays P before now T.Done = IsEnded now

-- a task for which a machine waits has not ended among the events that were then seen
abbrev pub WaitsRightly : Knows → Turn → Type 0
WaitsRightly k T.Again = Unit {0}
WaitsRightly k (T.NeedFetch task) = IsNotDone k task
WaitsRightly k T.Done = Unit {0}

-- a machine that goes on to wait for a task knows it, and each task that it fetched so far
pub record KnowsTasks (start : Option Start) (before now : List TraceItem) (turn : Turn) : Type 0 where
  pub waits : (task : ℕ) → turn ≡ T.NeedFetch task → IsKnown start before task
  pub fetches : AreFetchesKnown start now

-- a machine that has done nothing yet, at this point, for these types
pub record IsNewAt (ds : List Decl) (w : Work) (n : Now) (most : ℕ) (m : Machine) : Type 0 where
  pub work : work_of m.work m.task.now ≡ w
  pub now : now_of m.task.now ≡ n
  pub fuel : m.task.fuel ≡ most
  pub trace : m.task.trace ≡ []
  pub calls : m.task.calls ≡ 0
  pub settled : IsSettled m.work m.task.now
  pub types : m.memo ≡ ds

-- nothing is there but a world and what is visible
abbrev pub first_now : ℕ → List Value → List Ty → Now
first_now w env bindings = record { world = w; room = open_calls; env = env; bindings = bindings; stack = []; out = [] }

-- the root of a program
abbrev pub IsNewRoot : Program → ℕ → Machine → Type 0
IsNewRoot P fuel m = IsNewAt (all_types P) (W.Items false P.top V.Nothing) (first_now FIRST_WORLD [] []) fuel m

-- a task from a start, at the expression of its place
pub record IsNewTask (P : Program) (start : Start) (fuel : ℕ) (m : Machine) : Type 0 where
  pub expr : Expr
  pub there : slice_get P.spawns start.spawn ≡ Some expr
  pub new : IsNewAt (all_types P) (W.Eval expr) (first_now start.world (map value_of start.env) start.bindings) fuel m

-- a record is of a machine that ended
pub record HasEnded (r : Record) (m : Machine) : Type 0 where
  pub work : work_of m.work m.task.now ≡ W.Ended r.outcome
  pub trace : m.task.trace ≡ r.trace
  pub out : m.task.now.out ≡ r.output
  pub calls : m.task.calls ≡ r.calls

-- a record is of a task that ended
pub record IsRecordOf (r : Record) (t : Task) : Type 0 where
  pub outcome : t.now.outcome ≡ r.outcome
  pub trace : t.trace ≡ r.trace
  pub out : t.now.out ≡ r.output
  pub calls : t.calls ≡ r.calls

-- a task that has done nothing yet
pub record IsFirst (most w : ℕ) (frames : Held) (t : Task) : Type 0 where
  pub fuel : t.fuel ≡ most
  pub trace : t.trace ≡ []
  pub calls : t.calls ≡ 0
  pub world : t.now.world ≡ w
  pub room : t.now.room ≡ open_calls
  pub frames_are : t.now.frames ≡ frames
  pub out : t.now.out ≡ []

-- ---- laws

-- a new root fits a fresh dispatcher of its program, and so does a new task with the start that the dispatcher tells
abbrev pub RootFits : Knows → Type 0
RootFits k = (P : Program) (fuel : ℕ) (m : Machine) → IsValid P → P ≡ k.program → k.start ≡ None → IsFresh k → IsNewRoot P fuel m → MachineFits P fuel k m

abbrev pub TaskFits : Knows → Type 0
TaskFits k = (P : Program) (start : Start) (fuel : ℕ) (m : Machine) → IsValid P → IsValidStart P start → P ≡ k.program → k.start ≡ Some start → IsWorld start.world k.world → IsFresh k → IsNewTask P start fuel m → MachineFits P fuel k m

-- a machine that has met want of memory fits each dispatcher
abbrev pub LostFits : Knows → Type 0
LostFits k = (P : Program) (fuel : ℕ) (m : Machine) → IsLost m → MachineFits P fuel k m

-- a machine that fits and has ended did a run, which its record tells
abbrev pub EndedRuns : Knows → Type 0
EndedRuns k = (P : Program) (fuel : ℕ) (m : Machine) (r : Record) → MachineFits P fuel k m → HasEnded r m → IsRunOf (job_with P fuel k) k r

-- a machine goes on to fit where its dispatcher learns more between two steps, and neither looks nor makes anything
abbrev pub GrownFits : Knows → Knows → Type 0
GrownFits k k' = Refused k k' → (P : Program) (fuel : ℕ) (m : Machine) → MachineFits P fuel k m → MachineFits P fuel k' m
