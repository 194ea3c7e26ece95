-- The laws of the questions that the rules ask: each has at most one answer. That there is one is said in `AnswerLaws`.
use Rattle.std.specs.Prelude.{ℕ, ◌≡◌, ◌↔◌, Bool, List, Option, None}
use Rattle.std.specs.List.{Contains}
use Rattle.jl_model.specs.declared.ty.Ty.{Ty}
use Rattle.jl_model.specs.declared.ty.Decl.{Decl}
use Rattle.jl_model.specs.declared.ty.Written.{Written}
use Rattle.jl_model.specs.Refusals.{Declared}
use Rattle.jl_model.specs.SigRefusals.{BoundBroken}
use Rattle.jl_program.specs.declared.choice.Choice.{Choice}
use Rattle.jl_program.specs.declared.datum.Datum.{Datum}
use Rattle.jl_program.specs.declared.tree.Program.{Program}
use Rattle.jl_program.specs.declared.tree.Start.{Start}
use Rattle.jl_program.specs.declared.value.Value.{Value}
use Rattle.jl_program.specs.Meaning.{datum, value_of}
use Rattle.jl_calculus.specs.declared.history.Event.{Event}
use Rattle.jl_calculus.specs.declared.history.Outcome.{Outcome}
use Rattle.jl_calculus.specs.declared.history.TraceItem.{TraceItem}
use Rattle.jl_calculus.specs.Answers.{IsSingle}
use Rattle.jl_calculus.specs.Kept.{Places}
use Rattle.jl_calculus.specs.Operations.{make_tuple, make_written, make_inferred, test_type, test_order, test_same}
use Rattle.jl_calculus.specs.Run.{setting_of, Run}
use Rattle.jl_calculus.specs.Statics.{nominals_of, IsBroken}
use Rattle.jl_calculus.specs.World.{Selects}

-- the choice for a call in a world
abbrev pub OneChoice : Type 0
OneChoice = (P : Program) (es : List Event) (f : ℕ) (ts : List Ty) (w : ℕ) (c d : Choice) → Selects P es f ts w c → Selects P es f ts w d → c ≡ d

-- what a tuple is made of these values
abbrev pub OneTuple : Type 0
OneTuple = (ds : List Decl) (vs : List Value) → IsSingle (make_tuple ds vs)

-- the struct of a written type
abbrev pub OneWritten : Type 0
OneWritten = (ds : List Decl) → Declared ds → (statics : List Ty) (t : Written) (vs : List Value) → IsSingle (make_written ds statics t vs)

-- the struct whose type is inferred
abbrev pub OneInferred : Type 0
OneInferred = (ds : List Decl) (name : ℕ) (vs : List Value) → IsSingle (make_inferred ds name vs)

-- one of these types is broken
abbrev pub HasBroken : List Decl → List Ty → Type 0
HasBroken ds ts = (t : Ty) × Contains ts t × IsBroken ds t

-- a signature breaks a declared bound exactly where one of the nominal types in it is broken
abbrev pub BrokenIsBad : Type 0
BrokenIsBad = (ds : List Decl) (s : Written) → BoundBroken ds s ↔ HasBroken ds (nominals_of s)

-- `isa`
abbrev pub OneTest : Type 0
OneTest = (ds : List Decl) → Declared ds → (statics : List Ty) (v : Value) (t : Written) → IsSingle (test_type ds statics v t)

-- `<:`
abbrev pub OneOrder : Type 0
OneOrder = (ds : List Decl) → Declared ds → (statics : List Ty) (t u : Written) → IsSingle (test_order ds statics t u)

-- `===` and `!==`
abbrev pub OneIdentity : Type 0
OneIdentity = (negated : Bool) (u v : Value) → IsSingle (test_same negated u v)

-- a value and what a contract sees of it give one another
abbrev pub OneValue : Type 0
OneValue = ((v : Value) → value_of (datum v) ≡ v) × ((d : Datum) → datum (value_of d) ≡ d)

-- a run whose calls are kept for some places is a run that asks nothing of places
abbrev pub RunsWithoutPlaces : Type 0
RunsWithoutPlaces =
    (P : Program) (es : List Event) (places : Option Places) (fuel : ℕ) (start : Option Start) (trace : List TraceItem) (outcome : Outcome) (output : List ℕ) (made : ℕ) (spawned : List Start)
    → Run (setting_of P es places fuel) start trace outcome output made spawned → Run (setting_of P es None fuel) start trace outcome output made spawned
