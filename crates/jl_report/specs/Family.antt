-- What the text of a result is made of: what each task printed, and which tasks it started.
use Rattle.std.specs.Prelude.{ℕ, zero, suc, ◌≡◌, ◌<◌, List, [], ◌∷◌, ◌++◌, length, get_or, slice_set, None}
use Rattle.std.specs.List.{flat_map}
use Rattle.jl_calculus.specs.declared.history.Event.{Event}
use Rattle.jl_calculus.specs.declared.history.Event.TheVariants as Ev
use Rattle.jl_calculus.specs.Legal.{EachAfter, output_of}
use Rattle.jl_calculus.specs.Orders.{children_of}
use Rattle.jl_calculus.specs.Past.{tasks_of, done_of}

-- a spawn is of the next task, by one that was started, and an end is that of a task that was started and has none
abbrev pub IsOfTasks : List Event → Event → Type 0
IsOfTasks past (Ev.Spawn task child start) = (task < tasks_of past) × (child ≡ tasks_of past)
IsOfTasks past (Ev.Done task ended) = (task < tasks_of past) × (done_of task past ≡ None)
IsOfTasks past (Ev.Begin fuel) = Unit {0}
IsOfTasks past (Ev.Key key) = Unit {0}
IsOfTasks past (Ev.Fill key site first) = Unit {0}
IsOfTasks past (Ev.Def task site) = Unit {0}
IsOfTasks past (Ev.Del task place) = Unit {0}

abbrev pub AreOfTasks : List Event → Type 0
AreOfTasks es = EachAfter IsOfTasks [] es

-- what each task of the events printed, and its children, by the task's number
pub record IsFamilyOf (es : List Event) (outputs children : List (List ℕ)) : Type 0 where
  pub many_outputs : length outputs ≡ tasks_of es
  pub many_children : length children ≡ tasks_of es
  pub printed : (task : ℕ) → get_or outputs task [] ≡ output_of (done_of task es)
  pub started : (task : ℕ) → get_or children task [] ≡ children_of task es

-- the outputs and the children with one more event
abbrev pub outputs_with : List (List ℕ) → Event → List (List ℕ)
outputs_with outputs (Ev.Spawn task child start) = outputs ++ [] ∷ []
outputs_with outputs (Ev.Done task ended) = slice_set outputs task ended.output
outputs_with outputs (Ev.Begin fuel) = outputs
outputs_with outputs (Ev.Key key) = outputs
outputs_with outputs (Ev.Fill key site first) = outputs
outputs_with outputs (Ev.Def task site) = outputs
outputs_with outputs (Ev.Del task place) = outputs

abbrev pub children_with : List (List ℕ) → Event → List (List ℕ)
children_with children (Ev.Spawn task child start) = slice_set children task (get_or children task [] ++ child ∷ []) ++ [] ∷ []
children_with children (Ev.Done task ended) = children
children_with children (Ev.Begin fuel) = children
children_with children (Ev.Key key) = children
children_with children (Ev.Fill key site first) = children
children_with children (Ev.Def task site) = children
children_with children (Ev.Del task place) = children

-- what a task and those below it printed, in path order, as far as so many generations
abbrev pub printed_below : List (List ℕ) → List (List ℕ) → ℕ → ℕ → List ℕ
printed_below outputs children zero task = []
printed_below outputs children (suc generations) task = get_or outputs task [] ++ flat_map (printed_below outputs children generations) (get_or children task [])

-- the task of a spawn, or of an end, stands among so many
abbrev pub IsWithin : ℕ → ℕ → Event → Type 0
IsWithin outputs children (Ev.Spawn task child start) = task < children
IsWithin outputs children (Ev.Done task ended) = task < outputs
IsWithin outputs children (Ev.Begin fuel) = Unit {0}
IsWithin outputs children (Ev.Key key) = Unit {0}
IsWithin outputs children (Ev.Fill key site first) = Unit {0}
IsWithin outputs children (Ev.Def task site) = Unit {0}
IsWithin outputs children (Ev.Del task place) = Unit {0}
