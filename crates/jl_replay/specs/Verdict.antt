-- What is judged of a text.
use Rattle.std.specs.Prelude.{ℕ, ◌≡◌, ◌⊎◌, List, length}
use Rattle.jl_program.specs.declared.tree.Program.{Program}
use Rattle.jl_calculus.specs.declared.history.Event.{Event}
use Rattle.jl_calculus.specs.Legal.{IsLegal}
use Rattle.jl_report.specs.declared.entry.Entry.{Entry}
use Rattle.jl_report.specs.HistoryText.{entries_of, entries_text, has_places, history_text}
use Rattle.jl_history.specs.Form.{AreEntries, IsFirstBad}
use Rattle.jl_causes.specs.declared.cause.Cause.{Cause}
use Rattle.jl_causes.specs.declared.cause.Cause.TheVariants.{RunDiffers}
use Rattle.jl_causes.specs.Causes.{HasNoCause, IsFirstCause}
use Rattle.jl_replay.specs.declared.verdict.Verdict.{Verdict}
use Rattle.jl_replay.specs.declared.verdict.Verdict.TheVariants as V
use Rattle.jl_replay.specs.Differs.{IsFirstDifference, AreLegalEntries}

-- a legal history of so many events has this text
pub record IsLegalText (P : Program) (text : List ℕ) (n : ℕ) : Type 0 where
  pub events : List Event
  pub legal : IsLegal P events
  pub is_text : text ≡ history_text P events
  pub many : length events ≡ n

-- no legal history has it
abbrev pub IsNoLegalText : Program → List ℕ → Type 0
IsNoLegalText P text = (n : ℕ) → IsLegalText P text n → ⊥

-- a cause holds of the entry at a place, and none of an earlier one: one that needs no run, or, where no such cause holds of any entry,
-- that a task did not do what its run does
abbrev pub IsCause : Program → List Entry → ℕ → Cause → Type 0
IsCause P all n cause = IsFirstCause P all n cause ⊎ ((cause ≡ RunDiffers) × HasNoCause P all × IsFirstDifference P all n)

-- the text is not of this form, and that of no legal history: the first line that is not
pub record IsBadText (P : Program) (text : List ℕ) (line : ℕ) : Type 0 where
  pub first : IsFirstBad (has_places P) line text
  pub illegal : IsNoLegalText P text

-- the text is of this form, and that of no legal history: the first event that has a cause, and the first of its causes
pub record IsIllegalText (P : Program) (text : List ℕ) (n : ℕ) (cause : Cause) : Type 0 where
  pub all : List Entry
  pub form : AreEntries (has_places P) all
  pub is_text : text ≡ entries_text (has_places P) all
  pub holds : IsCause P all n cause
  pub illegal : IsNoLegalText P text

-- what is judged of a text
abbrev pub IsVerdict : Program → List ℕ → Verdict → Type 0
IsVerdict P text (V.Legal n) = IsLegalText P text n
IsVerdict P text (V.BadText line) = IsBadText P text line
IsVerdict P text (V.Illegal n cause) = IsIllegalText P text n cause

-- what is judged of entries
abbrev pub AreJudgedSo : Program → List Entry → Verdict → Type 0
AreJudgedSo P all (V.Legal n) = AreLegalEntries P all × (length all ≡ n)
AreJudgedSo P all (V.BadText line) = ⊥
AreJudgedSo P all (V.Illegal n cause) = IsCause P all n cause × (AreLegalEntries P all → ⊥)

-- the entries of each legal history with this text may stand in a text
abbrev pub AreRead : Program → List ℕ → Type 0
AreRead P text = (es : List Event) → IsLegal P es → text ≡ history_text P es → AreEntries (has_places P) (entries_of P es)
