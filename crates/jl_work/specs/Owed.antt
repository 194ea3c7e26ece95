-- What work on a script owes: the bytes are a program or have a fault, and what a run or a check of it comes to.
use Rattle.std.specs.Prelude.{ℕ, ◌≡◌, codes, decimal, List, ◌++◌, length, drop, Option, None, Some, Ok, Err}
use Rattle.jl_calculus.specs.declared.history.History.{History}
use Rattle.jl_program.specs.declared.tree.Program.{Program}
use Rattle.jl_calculus.specs.Legal.{IsLegal, IsCached, fuel_of, status_of}
use Rattle.jl_program.specs.Prelude.{prelude_count}
use Rattle.jl_grammar.specs.declared.tree.Script.{Script}
use Rattle.jl_reader.specs.declared.fault.SyntaxFault.{SyntaxFault}
use Rattle.jl_reader.specs.Answers.{Reads}
use Rattle.jl_written.specs.declared.fault.StaticKind.{StaticKind}
use Rattle.jl_resolve.specs.Program.{IsProgramOf, IsFaultOf}
use Rattle.jl_token.specs.declared.token.Token.{Token}
use Rattle.jl_token.specs.declared.token.TokenFault.{TokenFault}
use Rattle.jl_token.specs.Grammar.{ReadsSource}
use Rattle.jl_queue.specs.declared.setup.Setup.{Setup}
use Rattle.jl_reflect.specs.Asked.{IsUnknown}
use Rattle.jl_work.specs.declared.work.Work.{Work}
use Rattle.jl_work.specs.declared.work.Work.TheVariants as W
use Rattle.jl_work.specs.declared.work.Question.{Question}
use Rattle.jl_work.specs.declared.work.Telling.{Telling}
use Rattle.jl_work.specs.Place.{token_line, syntax_line, fault_line, kind_name}
use Rattle.jl_work.specs.Told.{IsTold, TellsSpans}

-- the line of a question about no function or no types of the program
abbrev pub unknown_line : List ℕ
unknown_line = codes "ERROR: QueryUnknown\n"

-- how many types a program declares, and how many definition sites it has beyond those of the prelude
abbrev pub ok_line : Program → List ℕ
ok_line P = codes "ok: " ++ (decimal (length P.decls) ++ (codes " types, " ++ (decimal (length (drop prelude_count P.sites)) ++ codes " definitions\n")))

-- the bytes are this script of the language
abbrev pub AreScript : List ℕ → Script → Type 0
AreScript bytes s = (ts : List Token) × ReadsSource bytes (Ok ts) × Reads ts (Ok s)

-- the bytes are a script that means this program
abbrev pub AreProgram : List ℕ → Program → Type 0
AreProgram bytes P = (s : Script) × AreScript bytes s × IsProgramOf s P

-- the bytes are a script that is a program
abbrev pub IsProgram : List ℕ → Type 0
IsProgram bytes = (P : Program) × AreProgram bytes P

-- the line that tells why bytes are no program
pub data IsFaultLine : List ℕ → List ℕ → Type 0 where
  -- they have no tokens: they are too many, or the fault stands at a place of them
  no_tokens : (bytes : List ℕ) (f : TokenFault) → ReadsSource bytes (Err f) → IsFaultLine bytes (token_line bytes f)
  -- their tokens are no script of the language
  no_script : (bytes : List ℕ) (ts : List Token) (f : SyntaxFault) → ReadsSource bytes (Ok ts) → Reads ts (Err f) → IsFaultLine bytes (syntax_line bytes f)
  -- the script that they are is no program
  no_program : (bytes : List ℕ) (s : Script) (at : ℕ) (kind : StaticKind) → AreScript bytes s → IsFaultOf s at kind → IsFaultLine bytes (fault_line bytes at (kind_name kind))

-- a history that a run of a program in a setup may have: it is legal, begins with the fuel, and is cached for the keys and the rows
pub record IsHistoryIn (P : Program) (setup : Setup) (h : History) : Type 0 where
  pub legal : IsLegal P h.events
  pub begun : fuel_of h.events ≡ Some setup.fuel
  pub cached : IsCached P (record { keys = setup.keys; rows = setup.rows }) h.events

-- the status, the history and the text that work on a program comes to
pub data IsResult : Work → Program → ℕ → Option History → List ℕ → Type 0 where
  -- it is only checked: its counts
  counted : (P : Program) → IsResult W.Check P 0 None (ok_line P)
  -- it is run: what is told of a history that the run may have, and the status by the root's outcome
  ran : (setup : Setup) (telling : Telling) (P : Program) (h : History) (text : List ℕ) → IsHistoryIn P setup h → IsTold telling P h.events text
      → IsResult (W.Run setup telling) P (status_of h.events) (Some h) text
  -- the same, with the answer to a question
  answered : (setup : Setup) (question : Question) (P : Program) (h : History) (text : List ℕ) → IsHistoryIn P setup h → TellsSpans P h.events question text
      → IsResult (W.Which setup question) P (status_of h.events) (Some h) text

-- a question asks about no function or no types of a program
abbrev pub IsUnanswered : Program → Question → Type 0
IsUnanswered P question = IsUnknown P question.name question.ty

-- the same of work on a script
pub data IsOwed : Work → List ℕ → ℕ → Option History → List ℕ → Type 0 where
  -- it is no program
  refused : (work : Work) (script line : List ℕ) → IsFaultLine script line → IsOwed work script 3 None line
  -- it is one
  worked : (work : Work) (script : List ℕ) (P : Program) (status : ℕ) (history : Option History) (text : List ℕ) → AreProgram script P → IsResult work P status history text → IsOwed work script status history text
  -- it is one, which the question is not about: it is not run
  unanswered : (setup : Setup) (question : Question) (script : List ℕ) (P : Program) → AreProgram script P → IsUnanswered P question → IsOwed (W.Which setup question) script 8 None unknown_line
