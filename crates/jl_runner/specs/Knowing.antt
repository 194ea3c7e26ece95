-- What a task of a run on threads knows, as its machine asks it.
use Rattle.std.specs.Prelude.{◌≡◌, ℕ, ◌≤◌, List, [], length, Option, None, Some}
use Rattle.std.proofs.Common.{sym, append-nil}
use Rattle.jl_model.specs.declared.ty.Key.{Key}
use Rattle.jl_program.specs.declared.choice.Choice.{Choice}
use Rattle.jl_program.specs.declared.choice.Choice.TheVariants as C
use Rattle.jl_program.specs.declared.tree.Program.{Program}
use Rattle.jl_program.specs.declared.tree.Start.{Start}
use Rattle.jl_calculus.specs.declared.history.Event.{Event}
use Rattle.jl_calculus.specs.Learnt.{IsNamed}
use Rattle.jl_calculus.specs.Past.{IsTrueOf}
use Rattle.jl_calculus.specs.Ranges.{keys_of}
use Rattle.jl_calculus.specs.ValidStart.{IsValidStart}
use Rattle.jl_calculus.specs.World.{change_at, site_of, world_of}
use Rattle.jl_world.specs.declared.about.About.{About}
use Rattle.jl_world.specs.declared.view.TaskView.{TaskView}
use Rattle.jl_world.specs.Views.{Begins}
use Rattle.jl_task.specs.Knows.{Knows}
use Rattle.jl_task.specs.Worlds.{IsWorld}
use Rattle.jl_runner.specs.declared.known.Knowing.{Knowing}
use Rattle.jl_book.specs.Passes.{task_in, first_of, HasStarted}
use Rattle.jl_methods.specs.Filters.{IsDefinition}
use Rattle.jl_rows.specs.Plans.{places_of}
use Rattle.jl_runner.specs.Keys.{AreNamed}

-- A task agrees with each list of events that begins with those that it has seen, and has learnt the items that are true of each of these.
abbrev pub knows_at : About → TaskView → ℕ → ℕ → Knows
knows_at about v first site = record {
  program = about.program.value;
  task = task_in v;
  start = v.start;
  first = first;
  world = world_of v.seen;
  seen = length v.seen;
  agrees = Begins v.seen;
  events = v.seen;
  agreed = ([], sym (append-nil v.seen));
  learnt = λ i. (es : List Event) → Begins v.seen es → IsTrueOf about.program.value es (task_in v) i;
  own = v.own;
  starts = v.starts;
  looks = v.looks;
  places = Some (places_of about);
  site = λ d. site;
  follows = λ c is. Unit {0};
}

abbrev pub knows_of : About → Knowing → Knows
knows_of about k = knows_at about k.view k.first k.site

-- a key has this number among the events, or all places for keys are in use
abbrev pub IsNumberOf : About → List Event → Key → Option ℕ → Type 0
IsNumberOf about es key None = about.keys ≤ length (keys_of es)
IsNumberOf about es key (Some number) = IsNamed es number key

-- a method that was chosen is that of a definition
abbrev pub IsOfDefinition : List Event → Choice → Type 0
IsOfDefinition es (C.Method d) = IsDefinition (change_at es d)
IsOfDefinition es C.None = Unit {0}
IsOfDefinition es (C.Ambiguous a b) = Unit {0}

-- the site that is told for a definition that was chosen is its own
abbrev pub IsSiteOf : List Event → Choice → ℕ → Type 0
IsSiteOf es (C.Method d) site = site ≡ site_of es d
IsSiteOf es C.None site = Unit {0}
IsSiteOf es (C.Ambiguous a b) site = Unit {0}

-- Where the trace of a task begins: that is told by its spawn, which it has seen; the root has none.
pub record IsBegun (v : TaskView) (first : ℕ) : Type 0 where
  pub started : HasStarted v.seen (task_in v) v.start
  pub first_is : first_of (task_in v) v.seen ≡ first

-- the keys that it has met have their numbers, and its trace begins there
pub record IsKnowing (v : TaskView) (keys : List (Key × ℕ)) (first : ℕ) : Type 0 where
  pub named : AreNamed v.seen keys
  pub begun : IsBegun v first

-- the start of a task is valid, in a world that it has seen; the root has none
abbrev pub IsStartOf : Program → List Event → Option Start → Type 0
IsStartOf P es None = Unit {0}
IsStartOf P es (Some start) = IsValidStart P start × IsWorld start.world (world_of es)

-- a task that has done nothing yet
pub record IsNew (about : About) (v : TaskView) (start : Option Start) : Type 0 where
  pub start_is : v.start ≡ start
  pub valid : IsStartOf about.program.value v.seen start
  pub own : v.own ≡ []
  pub starts : v.starts ≡ []
  pub looks : v.looks ≡ 0
  pub begun : IsBegun v (length v.seen)
