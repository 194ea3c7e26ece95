-- What a call of the program owes for its words and for the bytes that it read.
use Rattle.std.specs.Prelude.{ℕ, ◌≡◌, ◌<◌, ◌≤◌, codes, List, [], length, take, Option, None, Some, IsSome}
use Rattle.jl_calculus.specs.declared.history.History.{History}
use Rattle.jl_program.specs.declared.tree.Program.{Program}
use Rattle.jl_io.specs.Moved.{Gives, Takes, NothingLeft}
use Rattle.jl_history.specs.declared.history.TheConstants.{MOST_HISTORY_BYTES}
use Rattle.jl_replay.specs.declared.verdict.Verdict.{Verdict}
use Rattle.jl_replay.specs.Verdict.{IsVerdict}
use Rattle.jl_command.specs.declared.commands.Command.{Command}
use Rattle.jl_command.specs.declared.commands.Command.TheVariants.{Replay}
use Rattle.jl_work.specs.declared.work.Work.{Work}
use Rattle.jl_work.specs.Place.{too_long_line}
use Rattle.jl_work.specs.Owed.{AreProgram, IsFaultLine, IsOwed}
use Rattle.jl_cli.specs.Split.{separator_at, history_in}
use Rattle.jl_cli.specs.Verdicts.{verdict_line, verdict_status}
use Rattle.jl_cli.specs.Work.{most_taken, most_read, script_of, work_of}

-- the line that tells the commands
unfoldable pub usage_line : List ℕ
usage_line = codes "usage: jl run|trace|ambiguous [--threads N] [--fuel N] | jl check|replay | jl gen N [--threads N] [--fuel N] | jl which NAME TYPE [--threads N] [--fuel N]\n"

-- the line of an input without a history
abbrev pub no_history_line : List ℕ
no_history_line = codes "ERROR: NoHistory\n"

-- the status and the text of a verdict on the text of a history
abbrev pub IsVerdictTold : Program → List ℕ → ℕ → List ℕ → Type 0
IsVerdictTold P history status text = (verdict : Verdict) × IsVerdict P history verdict × (status ≡ verdict_status verdict) × (text ≡ verdict_line verdict)

-- the status and the text that the judgement of a history of a script comes to
pub data IsJudged : List ℕ → List ℕ → ℕ → List ℕ → Type 0 where
  -- the script is no program
  unjudged : (script history line : List ℕ) → IsFaultLine script line → IsJudged script history 3 line
  -- it is one
  judged : (script history : List ℕ) (P : Program) (status : ℕ) (text : List ℕ) → AreProgram script P → IsVerdictTold P history status text → IsJudged script history status text

-- the input of `replay` is not too long, and has a history
pub record HasHistory (bytes : List ℕ) : Type 0 where
  pub short : length bytes ≤ MOST_HISTORY_BYTES
  pub there : IsSome (separator_at bytes)

-- the status and the text of `replay`, for the bytes that were read
pub data IsReplayed : List ℕ → ℕ → List ℕ → Type 0 where
  -- they are too many
  too_long : (bytes : List ℕ) → MOST_HISTORY_BYTES < length bytes → IsReplayed bytes 3 too_long_line
  -- no line of them begins a history
  no_history : (bytes : List ℕ) → length bytes ≤ MOST_HISTORY_BYTES → separator_at bytes ≡ None → IsReplayed bytes 3 no_history_line
  -- they are a script and, from the first such line on, a history
  parted : (bytes : List ℕ) (status : ℕ) (text : List ℕ) → HasHistory bytes → IsJudged (script_of Replay bytes) (history_in bytes) status text → IsReplayed bytes status text

-- the same for what the words ask for, a command or none, and for the bytes that were read
pub data IsDue : Option Command → List ℕ → ℕ → Option History → List ℕ → Type 0 where
  -- the words are no command: nothing is read
  usage : IsDue None [] 2 None usage_line
  -- `replay`, which hands out no history
  replayed : (bytes : List ℕ) (status : ℕ) (text : List ℕ) → IsReplayed bytes status text → IsDue (Some Replay) bytes status None text
  -- a command that does something with a script alone
  owed : (c : Command) (work : Work) (bytes : List ℕ) (status : ℕ) (history : Option History) (text : List ℕ) → work_of c ≡ Some work → IsOwed work (script_of c bytes) status history text
      → IsDue (Some c) bytes status history text

-- What the words ask for, the bytes that were read, the bytes that were written, and that the count of faults of the source and
-- of the sink rose in this call.
module _ (asked : Option Command) (bytes written : List ℕ) (source_rose sink_rose : Type 0) where
  -- the status and the history that a call answers
  pub data IsAnswer : ℕ → Option History → Type 0 where
    -- all that is due was written
    whole : (status : ℕ) (history : Option History) → IsDue asked bytes status history written → IsAnswer status history
    -- the source failed, of a command that reads one: nothing was written
    not_read : 0 < most_read asked → written ≡ [] → source_rose → IsAnswer 4 None
    -- the sink failed: a first part of the text due was written
    not_written : (status : ℕ) (history : Option History) (text : List ℕ) (count : ℕ) → IsDue asked bytes status history text → written ≡ take count text → sink_rose → IsAnswer 5 history
    -- memory was refused before anything was written; to find that a source is too long, and to tell it, takes none
    no_memory : length bytes ≤ most_taken asked → written ≡ [] → IsAnswer 6 None
    -- the sink wanted memory: a first part of the text due was written
    no_memory_written : (status : ℕ) (history : Option History) (text : List ℕ) (count : ℕ) → IsDue asked bytes status history text → written ≡ take count text → IsAnswer 6 history

-- What a call did, where a source tells what it had left before and after and a sink what it held before and after.
pub record HasRun (asked : Option Command) (left left' held held' : Option (List ℕ)) (source_rose sink_rose : Type 0) (status : ℕ) (history : Option History) : Type 0 where
  -- the bytes that were read, and those that were written
  pub bytes : List ℕ
  pub written : List ℕ
  pub read : Gives left bytes left'
  pub wrote : Takes held written held'
  -- no more is read than the command asks for
  pub limited : length bytes ≤ most_read asked
  -- all that the source had was read, or as much as the command asks for, unless reading failed, or memory was refused before anything was due
  pub all_read : (status ≡ 4 → ⊥) → (status ≡ 6 → written ≡ [] → history ≡ None → ⊥) → length bytes < most_read asked → NothingLeft left'
  pub answer : IsAnswer asked bytes written source_rose sink_rose status history
