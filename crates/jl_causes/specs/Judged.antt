-- What the functions of the first round answer about one entry.
use Rattle.std.specs.Prelude.{ℕ, ◌≡◌, false, List, Option, None, Some}
use Rattle.jl_model.specs.declared.ty.Key.{Key}
use Rattle.jl_program.specs.declared.tree.Program.{Program}
use Rattle.jl_calculus.specs.declared.history.Event.{Event}
use Rattle.jl_report.specs.declared.entry.Entry.{Entry}
use Rattle.jl_report.specs.declared.entry.Entry.TheVariants as E
use Rattle.jl_causes.specs.declared.cause.Cause.{Cause}
use Rattle.jl_causes.specs.declared.judge.Judge.{Judge}
use Rattle.jl_causes.specs.Sketch.{Names}
use Rattle.jl_causes.specs.Causes.{is_begin, IsClean, IsFirstAt}
use Rattle.jl_causes.specs.State.{IsJudgeOf}

-- no cause holds of the entry, or this is the first in the table that does
abbrev pub IsJudged : Program → List Entry → List Event → Entry → Option Cause → Type 0
IsJudged P all es x None = IsClean P all es x
IsJudged P all es x (Some cause) = IsFirstAt P all es x cause

-- the one key of the program that these texts name, or none where there is none
abbrev pub IsReadAs : Program → List ℕ → List ℕ → Option Key → Type 0
IsReadAs P function tuple None = (key : Key) → Names P function tuple key → ⊥
IsReadAs P function tuple (Some key) = Names P function tuple key × ((other : Key) → Names P function tuple other → other ≡ key)

-- the key of an entry, where it is one of a key
abbrev pub IsKeyIn : Program → Entry → Option Key → Type 0
IsKeyIn P (E.Key number function tuple) key = IsReadAs P function tuple key
IsKeyIn P (E.Begin fuel) key = Unit {0}
IsKeyIn P (E.Fill number site first) key = Unit {0}
IsKeyIn P (E.Def task site) key = Unit {0}
IsKeyIn P (E.Del task place) key = Unit {0}
IsKeyIn P (E.Spawn task child place) key = Unit {0}
IsKeyIn P (E.Done task calls trace output ending) key = Unit {0}

-- the judge knows events after which no cause holds of the entry, which is not a beginning
pub record MayNote (P : Program) (all : List Entry) (es : List Event) (j : Judge) (x : Entry) (key : Option Key) : Type 0 where
  pub knows : IsJudgeOf P all es j
  pub clean : IsClean P all es x
  pub named : IsKeyIn P x key
  pub later : is_begin x ≡ false
