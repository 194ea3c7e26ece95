-- What is asked of a state where a step is to be made.
use Rattle.std.specs.Prelude.{ℕ, ◌≡◌, ◌≤◌, ◌&&◌, ◌||◌, Bool, true, false, nat_eq, nat_lt, nat_le, List, [], ◌∷◌, length, take, slice_get, Option, None, Some}
use Rattle.jl_model.specs.declared.ty.Key.{Key}
use Rattle.jl_program.specs.declared.choice.Choice.{Choice}
use Rattle.jl_program.specs.declared.choice.Choice.TheVariants as Ch
use Rattle.jl_program.specs.declared.tree.Program.{Program}
use Rattle.jl_program.specs.Prelude.{prelude_count}
use Rattle.jl_calculus.specs.declared.history.Event.{Event}
use Rattle.jl_calculus.specs.declared.history.Event.TheVariants as Ev
use Rattle.jl_calculus.specs.declared.history.TraceItem.{TraceItem}
use Rattle.jl_calculus.specs.declared.history.TraceItem.TheVariants as I
use Rattle.jl_calculus.specs.Core.{TaskState, Core, is_reached}
use Rattle.jl_calculus.specs.Past.{own_items}
use Rattle.jl_calculus.specs.Ranges.{keys_of}
use Rattle.jl_calculus.specs.World.{world_of, Selects}
use Rattle.jl_core.specs.declared.words.Words.{Words}

-- the events that a task has seen
pub record HasSeenThese (s : Core) (task : ℕ) (seen : List Event) : Type 0 where
  pub state : TaskState
  pub at : slice_get s.tasks task ≡ Some state
  pub these : seen ≡ take state.seen s.events

-- events have a key of this number, and a world, which is none of the prelude but its last
abbrev pub has_both : List Event → ℕ → ℕ → Bool
has_both es number w = nat_lt number (length (keys_of es)) && (nat_le prelude_count w && nat_le w (world_of es))

-- some row of a key covers a world, as the words of the rows tell
abbrev pub any_reached : ℕ → ℕ → List Words → Bool
any_reached number w [] = false
any_reached number w (x ∷ xs) = (nat_eq x.key number && is_reached x.first x.last w) || any_reached number w xs

-- a method is chosen for the key of a number in a world
pub record HasMethod (P : Program) (es : List Event) (number w : ℕ) : Type 0 where
  pub key : Key
  pub named : slice_get (keys_of es) number ≡ Some key
  pub choice : (d : ℕ) × Selects P es key.function key.types w (Ch.Method d)

-- a choice is that for the key of a number in a world, which is there
pub record IsChoice (P : Program) (es : List Event) (number w : ℕ) (choice : Choice) : Type 0 where
  pub key : Key
  pub named : slice_get (keys_of es) number ≡ Some key
  pub known : w ≤ world_of es
  pub selects : Selects P es key.function key.types w choice

-- or there is no such key or no such world
abbrev pub IsChoiceOrNone : Program → List Event → ℕ → ℕ → Option Choice → Type 0
IsChoiceOrNone P es number w None = (key : Key) → slice_get (keys_of es) number ≡ Some key → w ≤ world_of es → ⊥
IsChoiceOrNone P es number w (Some choice) = IsChoice P es number w choice

-- ---- the definitions, deletions and spawns of a task

-- an item is a definition, a deletion or a spawn
abbrev pub is_own : TraceItem → Bool
is_own (I.Def site p) = true
is_own (I.Del place p) = true
is_own (I.Spawn child p) = true
is_own (I.Look w p) = false
is_own (I.Fetch task outcome p) = false
is_own (I.WorldFull p) = false
is_own (I.TaskFull p) = false
is_own (I.Absent place p) = false

-- an event is a definition, a deletion or a spawn by a task
abbrev pub is_by : ℕ → Event → Bool
is_by task (Ev.Def by site) = nat_eq by task
is_by task (Ev.Del by place) = nat_eq by task
is_by task (Ev.Spawn by child start) = nat_eq by task
is_by task (Ev.Begin fuel) = false
is_by task (Ev.Key key) = false
is_by task (Ev.Fill key site first) = false
is_by task (Ev.Done by ended) = false

-- what such an event at a place is in the trace of its task
abbrev pub item_of : ℕ → Event → Option TraceItem
item_of p (Ev.Def by site) = Some (I.Def site p)
item_of p (Ev.Del by place) = Some (I.Del place p)
item_of p (Ev.Spawn by child start) = Some (I.Spawn child p)
item_of p (Ev.Begin fuel) = None
item_of p (Ev.Key key) = None
item_of p (Ev.Fill key site first) = None
item_of p (Ev.Done by ended) = None

-- the first definition, deletion or spawn of a trace, and the items after it
abbrev pub IsNextOwn : List TraceItem → TraceItem → List TraceItem → Type 0
IsNextOwn trace item rest = own_items trace ≡ item ∷ own_items rest

-- such an event at a place is the first of these in a trace, and this follows it
abbrev pub FollowsEvent : ℕ → Event → List TraceItem → List TraceItem → Type 0
FollowsEvent p e trace rest = (item : TraceItem) × (item_of p e ≡ Some item) × IsNextOwn trace item rest
