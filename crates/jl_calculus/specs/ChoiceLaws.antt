-- Laws of the choice. Each is the contract of a function of the module `choice_laws`.
use Rattle.std.specs.Prelude.{ℕ, ◌≡◌, ◌↔◌, List}
use Rattle.std.specs.List.{Contains}
use Rattle.jl_model.specs.declared.ty.Ty.{Ty}
use Rattle.jl_model.specs.Choice.{Method, Applies, IsBest, ChoosesNone}
use Rattle.jl_model.specs.Subtype.{Table}
use Rattle.jl_program.specs.declared.choice.Choice.{Choice}
use Rattle.jl_program.specs.declared.tree.Program.{Program}
use Rattle.jl_program.specs.Chooses.{Chooses}
use Rattle.jl_program.specs.Scope.{types_of}
use Rattle.jl_calculus.specs.declared.history.Def.{Def}
use Rattle.jl_calculus.specs.declared.history.Event.{Event}
use Rattle.jl_calculus.specs.Definitions.{methods_of, AppliesTo, IsStanding}
use Rattle.jl_calculus.specs.World.{Selects}

-- where no method applies there is no candidate
abbrev pub NoneApplies : Type 0
NoneApplies = (n : Table) (ms : List Method) (ts : List Ty) → ((m : Method) → Applies n ms ts m → ⊥) ↔ ChoosesNone n ms ts

-- at most one method is the best
abbrev pub OneBest : Type 0
OneBest = (n : Table) (ms : List Method) (ts : List Ty) (m o : Method) → IsBest n ms ts m → IsBest n ms ts o → m.number ≡ o.number

-- there is at most one choice
abbrev pub OneChosen : Type 0
OneChosen = (n : Table) (ms : List Method) (ts : List Ty) (c d : Choice) → Chooses n ms ts c → Chooses n ms ts d → c ≡ d

-- these are exactly the methods that apply
abbrev pub AreApplicable : Table → List Method → List Ty → List Method → Type 0
AreApplicable n all ts some = (m : Method) → Contains some m ↔ Applies n all ts m

-- the choice among the methods that apply is the choice among all
abbrev pub ApplicableChoose : Type 0
ApplicableChoose =
    (n : Table) (all some : List Method) (ts : List Ty) → AreApplicable n all ts some → (c : Choice) → Chooses n some ts c ↔ Chooses n all ts c

-- these are exactly the definitions of a function that stand in a world and apply
abbrev pub AreThoseThatApply : Program → List Event → ℕ → List Ty → ℕ → List Def → Type 0
AreThoseThatApply P es f ts w ds = (d : Def) → Contains ds d ↔ (IsStanding P es f w d × AppliesTo P ts d)

-- the choice among the definitions of a function that stand in a world and apply is the choice in that world
abbrev pub ThoseThatApplySelect : Type 0
ThoseThatApplySelect =
    (P : Program) (es : List Event) (f : ℕ) (ts : List Ty) (w : ℕ) (ds : List Def) → AreThoseThatApply P es f ts w ds
    → (c : Choice) → Chooses (types_of P) (methods_of P ds) ts c ↔ Selects P es f ts w c
