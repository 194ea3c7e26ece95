-- What is due, told by its status.
use Rattle.std.specs.Prelude.{ℕ, ◌≡◌, ◌≤◌, ◌<◌, ◌⊎◌, List, length, Option, None, Some}
use Rattle.jl_calculus.specs.declared.history.History.{History}
use Rattle.jl_model.specs.declared.ty.Key.{Key}
use Rattle.jl_program.specs.declared.tree.Program.{Program}
use Rattle.jl_reflect.specs.Asked.{MeansKey}
use Rattle.jl_queue.specs.declared.setup.Setup.{Setup}
use Rattle.jl_command.specs.declared.commands.Command.{Command}
use Rattle.jl_command.specs.declared.commands.Command.TheVariants as C
use Rattle.jl_work.specs.declared.work.Question.{Question}
use Rattle.jl_work.specs.declared.work.Work.{Work}
use Rattle.jl_history.specs.declared.history.TheConstants.{MOST_HISTORY_BYTES}
use Rattle.jl_replay.specs.declared.verdict.Verdict.{Verdict}
use Rattle.jl_replay.specs.declared.verdict.Verdict.TheVariants as V
use Rattle.jl_replay.specs.Verdict.{IsVerdict, IsLegalText}
use Rattle.jl_work.specs.Place.{too_long_line}
use Rattle.jl_work.specs.Work.{setup_of}
use Rattle.jl_work.specs.Owed.{AreProgram, IsProgram, IsFaultLine, IsHistoryIn, IsUnanswered, ok_line}
use Rattle.jl_cli.specs.Split.{separator_at}
use Rattle.jl_cli.specs.Verdicts.{verdict_line}
use Rattle.jl_cli.specs.Work.{script_of, work_of}
use Rattle.jl_cli.specs.Due.{HasHistory, no_history_line}

-- what `check` owes: the counts of a program, or the line of a fault, and no history
abbrev pub ChecksTo : List ℕ → ℕ → Option History → List ℕ → Type 0
ChecksTo bytes status history text = (history ≡ None) × (((P : Program) × AreProgram bytes P × (status ≡ 0) × (text ≡ ok_line P)) ⊎ ((status ≡ 3) × IsFaultLine bytes text))

-- the history is one that the run of the program of this command's script may have
pub record IsHistoryOf (c : Command) (bytes : List ℕ) (h : History) : Type 0 where
  pub work : Work
  pub setup : Setup
  pub does : work_of c ≡ Some work
  pub runs : setup_of work ≡ Some setup
  pub program : Program
  pub are : AreProgram (script_of c bytes) program
  pub is : IsHistoryIn program setup h

-- the input of a command has the parts that it wants: a script alone, or a script with a history that are not too long
abbrev pub HasParts : Command → List ℕ → Type 0
HasParts (C.Run threads fuel) bytes = Unit {0}
HasParts (C.Trace threads fuel) bytes = Unit {0}
HasParts C.Check bytes = Unit {0}
HasParts C.Replay bytes = HasHistory bytes
HasParts (C.Gen n threads fuel) bytes = Unit {0}
HasParts (C.Which name ty threads fuel) bytes = Unit {0}
HasParts (C.Ambiguous threads fuel) bytes = Unit {0}

-- it has them, and the script is a program
abbrev pub HasProgram : Command → List ℕ → Type 0
HasProgram c bytes = HasParts c bytes × IsProgram (script_of c bytes)

-- the line tells why the input of `replay` has no parts: it is too long, or has no history
abbrev pub TellsNoParts : List ℕ → List ℕ → Type 0
TellsNoParts bytes line = ((MOST_HISTORY_BYTES < length bytes) × (line ≡ too_long_line)) ⊎ ((length bytes ≤ MOST_HISTORY_BYTES) × (separator_at bytes ≡ None) × (line ≡ no_history_line))

-- the line tells why there is nothing to do: a command's script is no program, or the input of `replay` has no parts
abbrev pub IsRefusalLine : Command → List ℕ → List ℕ → Type 0
IsRefusalLine c bytes line = (HasParts c bytes × IsFaultLine (script_of c bytes) line) ⊎ ((c ≡ C.Replay) × TellsNoParts bytes line)

-- ---- what `which` is asked about

-- the script is a program, and the question is about it
pub record IsAnswerable (script : List ℕ) (question : Question) : Type 0 where
  pub program : Program
  pub are : AreProgram script program
  pub key : Key
  pub means : MeansKey program question.name question.ty key

-- the script is a program, and the question is not about it
pub record IsBeside (script : List ℕ) (question : Question) : Type 0 where
  pub program : Program
  pub are : AreProgram script program
  pub none_means : IsUnanswered program question

-- the command asks a question
abbrev pub AsksOf : Command → Question → Type 0
AsksOf c question = (threads : ℕ) × (fuel : ℕ) × (c ≡ C.Which question.name question.ty threads fuel)

-- ---- what `replay` judges

-- the input of `replay` is a program with a history
pub record IsJudgedOver (bytes : List ℕ) (P : Program) : Type 0 where
  pub has : HasHistory bytes
  pub are : AreProgram (script_of C.Replay bytes) P

-- what was judged illegal: the line has the verdict, which is not that it is legal, and the history is none that is legal
pub record IsToldIllegal (P : Program) (history line : List ℕ) : Type 0 where
  pub verdict : Verdict
  pub is : IsVerdict P history verdict
  pub told : line ≡ verdict_line verdict
  pub illegal : (n : ℕ) → IsLegalText P history n → ⊥

-- what was judged legal: the line has how many events there are, and the history is one that is legal
pub record IsToldLegal (P : Program) (history line : List ℕ) : Type 0 where
  pub many : ℕ
  pub is : IsLegalText P history many
  pub told : line ≡ verdict_line (V.Legal many)
