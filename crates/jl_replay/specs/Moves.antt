-- A task that is led on by one entry.
use Rattle.std.specs.Prelude.{ℕ, ◌≡◌, ◌+◌, ◌-◌, Bool, true, false, List, [], ◌∷◌, ◌++◌, drop, take, length, slice_get}
use Rattle.jl_program.specs.declared.tree.Program.{Program}
use Rattle.jl_program.specs.declared.tree.Start.{Start}
use Rattle.jl_calculus.specs.declared.history.Event.{Event}
use Rattle.jl_calculus.specs.declared.history.Event.TheVariants as Ev
use Rattle.jl_calculus.specs.declared.history.TraceItem.{TraceItem}
use Rattle.jl_calculus.specs.declared.history.TraceItem.TheVariants as I
use Rattle.jl_calculus.specs.Past.{tasks_of}
use Rattle.jl_calculus.specs.Run.{a_spawn}
use Rattle.jl_machine.specs.Steps.{MachineFits, IsLost, IsNewTask, fuel_of, trace_of}
use Rattle.jl_lead.specs.Coming.{ComesTo, TellsDefinition, TellsDeletion, TellsSpawn}
use Rattle.jl_lead.specs.Known.{IsSpawnOf}
use Rattle.jl_lead.specs.Leads.{GoesOn, IsPlaced, led_knows}
use Rattle.jl_lead.specs.Stretch.{IsStretch}
use Rattle.jl_report.specs.declared.entry.Step.{Step}
use Rattle.jl_replay.specs.declared.running.Running.{Running}
use Rattle.jl_replay.specs.Told.{stretch, items_told}

-- what the trace tells up to the next definition, deletion or spawn, where so many steps were followed
abbrev pub told_so_far : List Event → List Step → ℕ → List TraceItem
told_so_far es trace told = items_told es (take told trace ++ stretch (drop told trace))

-- a task's machine fits the events, however it is led on
pub record IsFitting (P : Program) (es : List Event) (task : ℕ) (r : Running) : Type 0 where
  pub fits : (items : List TraceItem) (told : ℕ) (alone : Bool) → MachineFits P (fuel_of r.machine) (led_knows P es task items told r.seen r.looks alone) r.machine
  pub going : IsLost r.machine → ⊥

-- a task may be led along what its trace tells up to the next definition, deletion or spawn
pub record MayGoOn (P : Program) (es : List Event) (task : ℕ) (trace : List Step) (r : Running) : Type 0 where
  pub fitting : IsFitting P es task r
  pub placed : IsPlaced es task r.seen
  pub followed : trace_of r.machine ≡ items_told es (take r.told trace)
  pub stretch_is : IsStretch P es r.seen (items_told es (stretch (drop r.told trace)))

-- it was led over that, and over a definition, a deletion or a spawn that it made then
pub record HasMoved (P : Program) (es now : List Event) (task : ℕ) (trace : List Step) (r r' : Running) (item : TraceItem) : Type 0 where
  pub fitting : IsFitting P now task r'
  pub fuel : fuel_of r'.machine ≡ fuel_of r.machine
  pub seen : r'.seen ≡ length now
  pub told : r'.told ≡ r.told + length (stretch (drop r.told trace)) + 1
  pub trace_is : trace_of r'.machine ≡ told_so_far es trace r.told ++ item ∷ []

-- it has made a definition of this site
pub record HasMadeDefinition (P : Program) (es : List Event) (task : ℕ) (trace : List Step) (r : Running) (site : ℕ) (past : Program × List Event) (r' : Running) : Type 0 where
  pub program : past.0 ≡ P
  pub events : past.1 ≡ es ++ Ev.Def task site ∷ []
  pub moved : HasMoved P es past.1 task trace r r' (I.Def site (length es))

-- what is told of a definition: whether the run of its task comes to it, which has made it then
abbrev pub FollowsDefinition : Program → List Event → ℕ → List Step → Running → ℕ → Bool → Program × List Event → Running → Type 0
FollowsDefinition P es task trace r site true past r' =
    TellsDefinition P es task (fuel_of r.machine) (told_so_far es trace r.told) site true × HasMadeDefinition P es task trace r site past r'
FollowsDefinition P es task trace r site false past r' = TellsDefinition P es task (fuel_of r.machine) (told_so_far es trace r.told) site false

-- it has made the deletion at this place
pub record HasMadeDeletion (P : Program) (es : List Event) (task : ℕ) (trace : List Step) (r : Running) (place : ℕ) (past : Program × List Event) (r' : Running) : Type 0 where
  pub program : past.0 ≡ P
  pub events : past.1 ≡ es ++ Ev.Del task place ∷ []
  pub moved : HasMoved P es past.1 task trace r r' (I.Del place (length es))

-- what is told of a deletion: whether the run of its task comes to it, which has made it then
abbrev pub FollowsDeletion : Program → List Event → ℕ → List Step → Running → ℕ → Bool → Program × List Event → Running → Type 0
FollowsDeletion P es task trace r place true past r' =
    TellsDeletion P es task (fuel_of r.machine) (told_so_far es trace r.told) place true × HasMadeDeletion P es task trace r place past r'
FollowsDeletion P es task trace r place false past r' = TellsDeletion P es task (fuel_of r.machine) (told_so_far es trace r.told) place false

-- it has started the next task, from the start that each run has there
pub record HasMadeTask (P : Program) (es : List Event) (task : ℕ) (trace : List Step) (r : Running) (place : ℕ) (past : Program × List Event) (r' : Running) : Type 0 where
  pub program : past.0 ≡ P
  pub start : Start
  pub events : past.1 ≡ es ++ Ev.Spawn task (tasks_of es) start ∷ []
  pub at : start.spawn ≡ place
  pub moved : HasMoved P es past.1 task trace r r' (I.Spawn (tasks_of es) (length es))
  pub only : (xs : List Event) → GoesOn es xs → (s : Start) → ComesTo P es task xs (fuel_of r.machine) (told_so_far es trace r.told) (a_spawn s) → s ≡ start

-- what is told of a spawn at this place of the program
abbrev pub FollowsSpawn : Program → List Event → ℕ → List Step → Running → ℕ → Bool → Program × List Event → Running → Type 0
FollowsSpawn P es task trace r place true past r' =
    TellsSpawn P es task (fuel_of r.machine) (told_so_far es trace r.told) place true × HasMadeTask P es task trace r place past r'
FollowsSpawn P es task trace r place false past r' = TellsSpawn P es task (fuel_of r.machine) (told_so_far es trace r.told) place false

-- a task begins from this start, having seen so many events
pub record IsNewFrom (P : Program) (start : Start) (fuel seen : ℕ) (r : Running) : Type 0 where
  pub machine : IsNewTask P start fuel r.machine
  pub told : r.told ≡ 0
  pub seen_is : r.seen ≡ seen
  pub looks : r.looks ≡ 0

-- a task begins that the last of so many events spawned
pub record HasBegun (P : Program) (es : List Event) (seen fuel : ℕ) (r : Running) : Type 0 where
  pub start : Start
  pub spawned : IsSpawnOf start (slice_get es (seen - 1))
  pub new : IsNewFrom P start fuel seen r
