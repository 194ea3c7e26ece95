-- Items that answer the same question, and a trace that departs from what it was led along.
use Rattle.std.specs.Prelude.{◌≡◌, List, [], ◌∷◌, ◌++◌, Option, None, Some, ℕ, slice_get, cond, nat_eq, Bool, true, false}
use Rattle.jl_calculus.specs.declared.history.Seen.{Seen}
use Rattle.jl_calculus.specs.declared.history.TraceItem.{TraceItem}
use Rattle.jl_calculus.specs.declared.history.TraceItem.TheVariants.{Look, Def, Del, Spawn, Fetch, WorldFull, TaskFull, Absent}

-- two items answer the same question: a look, the definition of a site, a spawn, the outcome of a task, the deletion at a place
abbrev pub IsSameQuestion : TraceItem → TraceItem → Type 0
IsSameQuestion (Look w p) (Look v q) = Unit {0}
IsSameQuestion (Def site p) (Def made q) = site ≡ made
IsSameQuestion (Def site p) (WorldFull q) = Unit {0}
IsSameQuestion (WorldFull p) (Def made q) = Unit {0}
IsSameQuestion (WorldFull p) (WorldFull q) = Unit {0}
IsSameQuestion (Spawn child p) (Spawn made q) = Unit {0}
IsSameQuestion (Spawn child p) (TaskFull q) = Unit {0}
IsSameQuestion (TaskFull p) (Spawn made q) = Unit {0}
IsSameQuestion (TaskFull p) (TaskFull q) = Unit {0}
IsSameQuestion (Fetch task o p) (Fetch other u q) = task ≡ other
IsSameQuestion (Del place p) (Del made q) = place ≡ made
IsSameQuestion (Del place p) (Absent made q) = place ≡ made
IsSameQuestion (Del place p) (WorldFull q) = Unit {0}
IsSameQuestion (Absent place p) (Del made q) = place ≡ made
IsSameQuestion (Absent place p) (Absent made q) = place ≡ made
IsSameQuestion (Absent place p) (WorldFull q) = Unit {0}
IsSameQuestion (WorldFull p) (Del made q) = Unit {0}
IsSameQuestion (WorldFull p) (Absent made q) = Unit {0}
IsSameQuestion _ _ = ⊥

-- a trace begins with an answer to the question that an item answers
abbrev pub Begins : TraceItem → List TraceItem → Type 0
Begins i [] = ⊥
Begins i (j ∷ js) = IsSameQuestion i j

-- it is told that there is nothing to delete
abbrev pub is_absence : Option TraceItem → Bool
is_absence (Some (Absent place p)) = true
is_absence _ = false

-- a trace departs from the one that it was led along, before what was left of that one: its next item answers another question than
-- the one that stands next, and does not tell that there is nothing to delete
pub record Departs (left whole trace : List TraceItem) : Type 0 where
  pub before : List TraceItem
  pub item : TraceItem
  pub after : List TraceItem
  pub there : trace ≡ before ++ item ∷ after
  pub followed : before ++ left ≡ whole
  pub apart : Begins item left → ⊥
  pub told : is_absence (Some item) ≡ false

-- the item that stands next; none where the task goes on alone
abbrev pub next_item : Bool → List TraceItem → ℕ → Option TraceItem
next_item true is told = None
next_item false is told = slice_get is told

-- the look that stands next
abbrev pub look_of : Option TraceItem → Option Seen
look_of (Some (Look w p)) = Some (record { world = w; length = p })
look_of _ = None

-- the place at which the world is full, where that stands next
abbrev pub world_full_of : Option TraceItem → Option ℕ
world_full_of (Some (WorldFull p)) = Some p
world_full_of _ = None

-- the place at which there is no room for a task, where that stands next
abbrev pub task_full_of : Option TraceItem → Option ℕ
task_full_of (Some (TaskFull p)) = Some p
task_full_of _ = None

-- the place at which there is nothing to delete at this place of the program, where that stands next
abbrev pub absent_of : ℕ → Option TraceItem → Option ℕ
absent_of of (Some (Absent place p)) = cond (nat_eq place of) (Some p) None
absent_of of _ = None

-- a fetch of this task does not stand next
abbrev pub IsNoFetch : Option TraceItem → ℕ → Type 0
IsNoFetch (Some (Fetch task outcome p)) of = task ≡ of → ⊥
IsNoFetch _ of = Unit {0}
