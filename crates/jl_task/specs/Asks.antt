-- What a task asks of its dispatcher, which items answer it, and how a run ends.
use Rattle.std.specs.Prelude.{◌≡◌, ℕ, ◌⊎◌, List, [], ◌∷◌, ◌++◌, Option}
use Rattle.jl_program.specs.declared.tree.Program.{Program}
use Rattle.jl_program.specs.declared.tree.Start.{Start}
use Rattle.jl_calculus.specs.declared.history.Event.{Event}
use Rattle.jl_calculus.specs.declared.history.Outcome.{Outcome}
use Rattle.jl_calculus.specs.declared.history.TraceItem.{TraceItem}
use Rattle.jl_calculus.specs.declared.history.TraceItem.TheVariants.{Spawn}
use Rattle.jl_calculus.specs.Kept.{Places}
use Rattle.jl_calculus.specs.Run.{Question, a_spawn, Setting, State, IsEnd, Run, Comes}
use Rattle.jl_task.specs.Knows.{Claim, Knows}
use Rattle.jl_task.specs.Turns.{Point}
use Rattle.jl_task.specs.Point.{Finishes}
use Rattle.jl_task.specs.Questions.{IsAnswerTo, GoesOnFrom}

-- a task to be run: its program, its start, if it is not the root, the places in which its calls are to be kept, if that is asked, and its
-- fuel
pub record Job : Type 0 where
  pub program : Program
  pub start : Option Start
  pub places : Option Places
  pub fuel : ℕ

-- a list of events, and the question at which a run over it may stop, if there is one
pub record Over : Type 0 where
  pub events : List Event
  pub until : Option Question

abbrev pub over : Job → Over → Setting
over j x = record { program = j.program; events = x.events; places = j.places; fuel = j.fuel; until = x.until }

-- how a run ends: its outcome, its output, its calls, and the starts of the tasks that it spawned
pub record Ending : Type 0 where
  pub outcome : Outcome
  pub output : List ℕ
  pub calls : ℕ
  pub starts : List Start

-- what holds of the outcome and the state there
abbrev pub EndsAs : Ending → Outcome → State → Type 0
EndsAs e = IsEnd e.outcome e.output e.calls e.starts

-- a run of this trace, with this end
abbrev pub RunsTo : Job → Over → List TraceItem → Ending → Type 0
RunsTo j x trace e = Run (over j x) j.start trace e.outcome e.output e.calls e.starts

-- the rules finish from this point, after so many calls and these spawns, with this rest of the trace and this end
abbrev pub FinishesTo : Job → Over → Point → ℕ → List Start → List TraceItem → Ending → Type 0
FinishesTo j x p made starts rest e = Finishes (over j x) (EndsAs e) p made starts rest

-- A task with this trace asks this: over each list of events that agrees, each run that has the trace and more goes on with an answer,
-- and a run of the trace comes to the question.
pub record Asks (j : Job) (k : Knows) (trace : List TraceItem) (q : Question) : Type 0 where
  pub goes : (x : Over) → k.agrees x.events → (rest : List TraceItem) (e : Ending) → RunsTo j x (trace ++ rest) e → GoesOnFrom x.until q rest
  pub comes : (es : List Event) → k.agrees es → Comes j.program es j.places j.fuel j.start trace q

-- the start that was asked for joins those of the spawns where an item answers a question with a spawn, and nothing else does
abbrev pub StartsJoin : Question → TraceItem → List Start → List Start → Type 0
StartsJoin (a_spawn start) (Spawn child p) old new = new ≡ old ++ start ∷ []
StartsJoin _ _ old new = new ≡ old

-- what a step adds to a trace: nothing, or an answer to what the task asked; the start of a spawn is the one that was asked for
abbrev pub Tells : Job → Knows → List TraceItem → Knows → List TraceItem → Type 0
Tells j k old k' new = (new ≡ old) ⊎ ((i : TraceItem) × (q : Question) × (new ≡ old ++ i ∷ []) × IsAnswerTo q i × StartsJoin q i k.starts k'.starts × Asks j k old q)

-- what is known of a claim and the trace stays known
abbrev pub Follows : Knows → List TraceItem → Knows → List TraceItem → Type 0
Follows k old k' new = (c : Claim) → k.follows c old → k'.follows c new
