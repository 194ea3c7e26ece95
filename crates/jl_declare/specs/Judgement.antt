-- What is answered for a declaration (Julia manual, Types).
use Rattle.std.specs.Prelude.{◌≡◌, Bool, not, if◌then◌else◌, List, [], ◌∷◌, Option, Some, None, ℕ}
use Rattle.jl_model.specs.declared.ty.Decl.{Decl}
use Rattle.jl_model.specs.Kept.{IsKept}
use Rattle.jl_model.specs.Refusals.{IsAllowed, table_with}
use Rattle.jl_norm.specs.declared.fault.DeclareFault.{DeclareFault}
use Rattle.jl_norm.specs.declared.fault.DeclareFault.TheVariants as D
use Rattle.jl_norm.specs.Refused.{Refused}
use Rattle.jl_program.specs.Names.{is_among}
use Rattle.jl_names.specs.Numbers.{names_of}
use Rattle.jl_written.specs.declared.fault.Fault.{Fault}
use Rattle.jl_written.specs.declared.fault.StaticKind.{StaticKind}
use Rattle.jl_written.specs.declared.fault.StaticKind.TheVariants as kind
use Rattle.jl_declare.specs.declared.judged.Judged.{Judged}
use Rattle.jl_declare.specs.declared.judged.Judged.TheVariants as J
use Rattle.jl_declare.specs.declared.read.ReadDecl.{ReadDecl}

-- the name of a refusal among the static faults; want of memory is none
abbrev pub kind_of : DeclareFault → Option StaticKind
kind_of D.DuplicateType = Some kind.DuplicateType
kind_of D.UnknownType = Some kind.UnknownType
kind_of D.WrongParameterCount = Some kind.WrongParameterCount
kind_of D.SuperNotAbstract = Some kind.SuperNotAbstract
kind_of D.VariablePlace = Some kind.VariablePlace
kind_of D.TypeLimit = Some kind.TypeLimit
kind_of D.BoundsCrossed = Some kind.BoundsCrossed
kind_of D.BoundBroken = Some kind.BoundBroken
kind_of D.TooMany = Some kind.TooMany
kind_of D.DuplicateField = Some kind.DuplicateField
kind_of D.Memory = None

-- Behind allowed declarations ds, d is allowed and kept as e; or it is refused by the first of its refusals.
pub data IsJudged (ds : List Decl) (d : Decl) : Judged → Type 0 where
  kept : (e : Decl) → IsAllowed ds d → IsKept (table_with ds d) d e → IsJudged ds d (J.Kept e)
  refused : (f : DeclareFault) (k : StaticKind) → kind_of f ≡ Some k → Refused f ds d → IsJudged ds d (J.Refused k)

-- What is told without a look into the table, where all declarations before are allowed or not: the name alone tells the
-- first refusal, and the text the third. The others are asked only where each name means something and all declarations
-- before are allowed.
abbrev pub tell_alone : List Decl → Bool → ReadDecl → Option Judged
tell_alone ds all_allowed r =
    if is_among r.decl.name (names_of ds) then Some (J.Refused kind.DuplicateType)
    else (if r.reading.unknown then Some J.Unjudged
    else (if not r.whole then Some (J.Refused kind.WrongParameterCount)
    else (if all_allowed then None else Some J.Unjudged)))

-- what is told, or else what the declarations before tell
abbrev pub IsAnswer : List Decl → Decl → Option Judged → Judged → Type 0
IsAnswer ds d None j = IsJudged ds d j
IsAnswer ds d (Some t) j = j ≡ t

-- what the table gets of it
abbrev pub kept_in : Judged → List Decl
kept_in (J.Kept e) = e ∷ []
kept_in (J.Refused k) = []
kept_in J.Unjudged = []

-- a declaration that is kept stands as it is kept, and every other as it is read or outlined
abbrev pub keep_shown : Judged → Decl → Decl
keep_shown (J.Kept e) d = e
keep_shown (J.Refused k) d = d
keep_shown J.Unjudged d = d

-- a refusal stands at the declared name
abbrev pub refusal_at : ℕ → Judged → Option Fault
refusal_at at (J.Kept e) = None
refusal_at at (J.Refused k) = Some (record { at = at; kind = k })
refusal_at at J.Unjudged = None
