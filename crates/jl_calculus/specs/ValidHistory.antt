-- When faults, outcomes and records are valid for a program: they name only things of the program, and their values are valid.
use Rattle.std.specs.Prelude.{ℕ, ◌<◌, IsTrue, All, List, [], ◌∷◌, length}
use Rattle.jl_model.specs.declared.ty.Ty.{Ty}
use Rattle.jl_model.specs.Valid.{is_known}
use Rattle.jl_program.specs.declared.fault.Fault.{Fault}
use Rattle.jl_program.specs.declared.fault.Fault.TheVariants as F
use Rattle.jl_program.specs.declared.tree.Program.{Program}
use Rattle.jl_program.specs.declared.value.Value.{Value}
use Rattle.jl_program.specs.Meaning.{datum}
use Rattle.jl_program.specs.Scope.{all_types}
use Rattle.jl_program.specs.ValidValue.{IsValid}
use Rattle.jl_calculus.specs.declared.history.Event.{Event}
use Rattle.jl_calculus.specs.declared.history.Event.TheVariants as Ev
use Rattle.jl_calculus.specs.declared.history.Outcome.{Outcome}
use Rattle.jl_calculus.specs.declared.history.Outcome.TheVariants as O
use Rattle.jl_calculus.specs.declared.history.TraceItem.{TraceItem}
use Rattle.jl_calculus.specs.declared.history.TraceItem.TheVariants.{Look, Def, Del, Spawn, Fetch, WorldFull, TaskFull, Absent}
use Rattle.jl_calculus.specs.declared.history.Record.{Record}
use Rattle.jl_calculus.specs.Legal.{IsKeyOf}
use Rattle.jl_calculus.specs.ValidStart.{IsValidStart}

module _ (P : Program) where
  -- a type has only nominal types of the program; that of a constructor whose arguments are inferred has none written
  abbrev pub IsTypeOf : Ty → Type 0
  IsTypeOf t = IsTrue (is_known (length (all_types P)) t)

  abbrev pub AreTypesOf : List Ty → Type 0
  AreTypesOf ts = All IsTypeOf ts

  -- a function of the program
  abbrev pub IsFunctionOf : ℕ → Type 0
  IsFunctionOf f = f < length P.functions

  -- a fault names only things of the program
  abbrev pub IsValidFault : Fault → Type 0
  IsValidFault (F.NoMethod f ts w) = IsFunctionOf f × AreTypesOf ts
  IsValidFault (F.Ambiguous f ts a b) = IsFunctionOf f × AreTypesOf ts
  IsValidFault (F.NoConstructor t ts) = IsTypeOf t × AreTypesOf ts
  IsValidFault F.DivideError = Unit {0}
  IsValidFault (F.FieldType t name got) = IsTypeOf t × IsTypeOf got
  IsValidFault (F.BadParameter t) = IsTypeOf t
  IsValidFault (F.NoField t name) = IsTypeOf t
  IsValidFault (F.NoIndex t n) = IsTypeOf t
  IsValidFault (F.NotBool t) = IsTypeOf t
  IsValidFault (F.NotTask t) = IsTypeOf t
  IsValidFault (F.TaskFailed task) = Unit {0}
  IsValidFault (F.NoSuchMethod f) = IsFunctionOf f
  IsValidFault (F.FuelSpent fuel) = Unit {0}
  IsValidFault F.StackLimit = Unit {0}
  IsValidFault F.WorldLimit = Unit {0}
  IsValidFault F.TaskLimit = Unit {0}
  IsValidFault F.TypeLimit = Unit {0}
  IsValidFault F.ValueLimit = Unit {0}

  -- a value is valid for the types of the program
  abbrev pub IsValidValue : Value → Type 0
  IsValidValue v = IsValid (all_types P) (datum v)

  abbrev pub IsValidOutcome : Outcome → Type 0
  IsValidOutcome (O.Value v) = IsValidValue v
  IsValidOutcome (O.Error e) = IsValidFault e

  -- a definition in a trace is of a site of the program, a deletion of one of its places, and a fetched outcome is valid
  abbrev pub IsValidItem : TraceItem → Type 0
  IsValidItem (Look w p) = Unit {0}
  IsValidItem (Def site p) = site < length P.sites
  IsValidItem (Spawn child p) = Unit {0}
  IsValidItem (Fetch task outcome p) = IsValidOutcome outcome
  IsValidItem (WorldFull p) = Unit {0}
  IsValidItem (TaskFull p) = Unit {0}
  IsValidItem (Del place p) = place < length P.deletes
  IsValidItem (Absent place p) = place < length P.deletes

  abbrev pub AreValidItems : List TraceItem → Type 0
  AreValidItems [] = Unit {0}
  AreValidItems (i ∷ is) = IsValidItem i × AreValidItems is

  pub record IsValidRecord (r : Record) : Type 0 where
    pub items : AreValidItems r.trace
    pub outcome : IsValidOutcome r.outcome

  -- the keys, sites, starts and records of the events are of the program and valid
  abbrev pub IsValidEvent : Event → Type 0
  IsValidEvent (Ev.Begin fuel) = Unit {0}
  IsValidEvent (Ev.Key key) = IsKeyOf P key
  IsValidEvent (Ev.Fill key site first) = site < length P.sites
  IsValidEvent (Ev.Def task site) = site < length P.sites
  IsValidEvent (Ev.Del task place) = place < length P.deletes
  IsValidEvent (Ev.Spawn task child start) = IsValidStart P start
  IsValidEvent (Ev.Done task ended) = IsValidRecord ended

  abbrev pub AreValidEvents : List Event → Type 0
  AreValidEvents [] = Unit {0}
  AreValidEvents (e ∷ es) = IsValidEvent e × AreValidEvents es
