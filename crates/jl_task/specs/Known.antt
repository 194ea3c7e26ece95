-- The tasks that a task knows: those that its start mentions, those that it spawned, and those that what it fetched mentions.
use Rattle.std.specs.Prelude.{ℕ, List, [], ◌∷◌, ◌++◌, Option, None, Some}
use Rattle.std.specs.List.{Contains, flat_map}
use Rattle.jl_program.specs.declared.tree.Start.{Start}
use Rattle.jl_program.specs.declared.value.Value.{Value}
use Rattle.jl_program.specs.Meaning.{datum}
use Rattle.jl_calculus.specs.declared.history.Outcome.{Outcome}
use Rattle.jl_calculus.specs.declared.history.TraceItem.{TraceItem}
use Rattle.jl_calculus.specs.declared.history.TraceItem.TheVariants.{Look, Def, Del, Spawn, Fetch, WorldFull, TaskFull, Absent}
use Rattle.jl_calculus.specs.Core.{tasks_in, in_outcome, in_start}
use Rattle.jl_task.specs.declared.point.Frame.{Frame}
use Rattle.jl_task.specs.declared.point.Frame.TheVariants.{Args, Testing, AfterStmt, Block, AfterItem, Evaluated, Showing, Body}
use Rattle.jl_task.specs.declared.point.Work.{Work}
use Rattle.jl_task.specs.declared.point.Work.TheVariants.{Eval, Give, Leave, Acting, Calling, Stmts, Items, Defining, Pieces, Ended, Lost}
use Rattle.jl_task.specs.Turns.{Point}
use Rattle.jl_task.specs.ValidPoint.{Every}

-- ---- what is known after a trace

-- the tasks that a start mentions, if there is one
abbrev pub given_tasks : Option Start → List ℕ
given_tasks None = []
given_tasks (Some start) = in_start start

-- the tasks that are known by an item: the one that was spawned, or those that a fetched outcome mentions
abbrev pub brought : TraceItem → List ℕ
brought (Look w p) = []
brought (Def site p) = []
brought (Spawn child p) = child ∷ []
brought (Fetch task o p) = in_outcome o
brought (WorldFull p) = []
brought (TaskFull p) = []
brought (Del at_place p) = []
brought (Absent at_place p) = []

-- the tasks that are known after a trace
abbrev pub known_tasks : Option Start → List TraceItem → List ℕ
known_tasks start trace = given_tasks start ++ flat_map brought trace

abbrev pub IsKnown : Option Start → List TraceItem → ℕ → Type 0
IsKnown start trace task = Contains (known_tasks start trace) task

-- a task that an item fetches is one of these
abbrev pub IsFetchOf : List ℕ → TraceItem → Type 0
IsFetchOf known (Look w p) = Unit {0}
IsFetchOf known (Def site p) = Unit {0}
IsFetchOf known (Spawn child p) = Unit {0}
IsFetchOf known (Fetch task o p) = Contains known task
IsFetchOf known (WorldFull p) = Unit {0}
IsFetchOf known (TaskFull p) = Unit {0}
IsFetchOf known (Del at_place p) = Unit {0}
IsFetchOf known (Absent at_place p) = Unit {0}

-- each task that items fetch is one of these, or one that an item before it brought
abbrev pub FetchesOf : List ℕ → List TraceItem → Type 0
FetchesOf known [] = Unit {0}
FetchesOf known (i ∷ is) = IsFetchOf known i × FetchesOf (known ++ brought i) is

-- each task that a trace fetches was known by then
abbrev pub AreFetchesKnown : Option Start → List TraceItem → Type 0
AreFetchesKnown start trace = FetchesOf (given_tasks start) trace

-- the starts of the tasks that were spawned mention known tasks alone
abbrev pub AreStartsKnown : Option Start → List TraceItem → List Start → Type 0
AreStartsKnown start trace starts = Every (λ s. Every (IsKnown start trace) (in_start s)) starts

-- What a task did, by its trace, the starts of the tasks that it spawned, and its outcome: it fetched known tasks alone, and the rest mentions no
-- others.
pub record KnowsItsTasks (start : Option Start) (trace : List TraceItem) (starts : List Start) (outcome : Outcome) : Type 0 where
  pub fetches : AreFetchesKnown start trace
  pub spawns : AreStartsKnown start trace starts
  pub ends : Every (IsKnown start trace) (in_outcome outcome)

-- ---- what a point mentions

module _ (K : ℕ → Type 0) where
  -- each task that a value mentions is one of these
  abbrev pub Mentions : Value → Type 0
  Mentions v = Every K (tasks_in (datum v))

  abbrev pub AllMention : List Value → Type 0
  AllMention vs = Every Mentions vs

  -- the same, of the values that wait
  abbrev pub StackMentions : List Frame → Type 0
  StackMentions [] = Unit {0}
  StackMentions (Args e done xs ∷ S) = AllMention done × StackMentions S
  StackMentions (Testing e ∷ S) = StackMentions S
  StackMentions (AfterStmt x xs ∷ S) = StackMentions S
  StackMentions (Block env ∷ S) = AllMention env × StackMentions S
  StackMentions (AfterItem x fresh w xs ∷ S) = StackMentions S
  StackMentions (Evaluated env bindings ∷ S) = AllMention env × StackMentions S
  StackMentions (Showing text xs line ∷ S) = StackMentions S
  StackMentions (Body w k env bindings ∷ S) = AllMention env × StackMentions S

  -- the same, of those that come next
  abbrev pub WorkMentions : Work → Type 0
  WorkMentions (Eval e) = Unit {0}
  WorkMentions (Give v) = Mentions v
  WorkMentions (Leave v) = Mentions v
  WorkMentions (Acting e vs) = AllMention vs
  WorkMentions (Calling f w vs) = AllMention vs
  WorkMentions (Stmts xs v) = Mentions v
  WorkMentions (Items fresh xs v) = Mentions v
  WorkMentions (Defining site fresh xs) = Unit {0}
  WorkMentions (Pieces text xs line) = Unit {0}
  WorkMentions (Ended o) = Every K (in_outcome o)
  WorkMentions Lost = Unit {0}

  -- the same, of all values of a point
  pub record PointMentions (p : Point) : Type 0 where
    pub env : AllMention p.1.env
    pub stack : StackMentions p.1.stack
    pub work : WorkMentions p.0
