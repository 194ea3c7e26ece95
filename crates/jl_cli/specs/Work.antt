-- What each command asks for: how much is read, which script it is about, and what is done with it.
use Rattle.std.specs.Prelude.{ℕ, ◌+◌, List, Option, None, Some}
use Rattle.jl_model.specs.declared.limits.TheConstants.{MOST_SOURCE_BYTES}
use Rattle.jl_history.specs.declared.history.TheConstants.{MOST_HISTORY_BYTES}
use Rattle.jl_gen.specs.Script.{script_text}
use Rattle.jl_command.specs.declared.commands.Command.{Command}
use Rattle.jl_command.specs.declared.commands.Command.TheVariants as C
use Rattle.jl_work.specs.declared.work.Work.{Work}
use Rattle.jl_work.specs.declared.work.Work.TheVariants as W
use Rattle.jl_work.specs.declared.work.Telling.TheVariants as T
use Rattle.jl_work.specs.Work.{whole_setup}
use Rattle.jl_cli.specs.Split.{script_in}

-- how many bytes are taken at most: a source, where it is a script; as many as a history may have, where it is a script with a history;
-- and none of anything else
abbrev pub most_taken : Option Command → ℕ
most_taken None = 0
most_taken (Some (C.Run threads fuel)) = MOST_SOURCE_BYTES
most_taken (Some (C.Trace threads fuel)) = MOST_SOURCE_BYTES
most_taken (Some C.Check) = MOST_SOURCE_BYTES
most_taken (Some C.Replay) = MOST_HISTORY_BYTES
most_taken (Some (C.Gen n threads fuel)) = 0
most_taken (Some (C.Which name ty threads fuel)) = MOST_SOURCE_BYTES
most_taken (Some (C.Ambiguous threads fuel)) = MOST_SOURCE_BYTES

-- how many bytes are read at most: one more, where anything is read
abbrev pub most_read : Option Command → ℕ
most_read None = 0
most_read (Some (C.Run threads fuel)) = MOST_SOURCE_BYTES + 1
most_read (Some (C.Trace threads fuel)) = MOST_SOURCE_BYTES + 1
most_read (Some C.Check) = MOST_SOURCE_BYTES + 1
most_read (Some C.Replay) = MOST_HISTORY_BYTES + 1
most_read (Some (C.Gen n threads fuel)) = 0
most_read (Some (C.Which name ty threads fuel)) = MOST_SOURCE_BYTES + 1
most_read (Some (C.Ambiguous threads fuel)) = MOST_SOURCE_BYTES + 1

-- the script of a command, where these bytes were read: these, those before the history, or the generated script of a number
abbrev pub script_of : Command → List ℕ → List ℕ
script_of (C.Run threads fuel) bytes = bytes
script_of (C.Trace threads fuel) bytes = bytes
script_of C.Check bytes = bytes
script_of C.Replay bytes = script_in bytes
script_of (C.Gen n threads fuel) bytes = script_text n
script_of (C.Which name ty threads fuel) bytes = bytes
script_of (C.Ambiguous threads fuel) bytes = bytes

-- what a command does with its script alone: it runs it, with a question or without, or only checks it; `replay` judges a history by it
abbrev pub work_of : Command → Option Work
work_of (C.Run threads fuel) = Some (W.Run (whole_setup threads fuel) T.Text)
work_of (C.Trace threads fuel) = Some (W.Run (whole_setup threads fuel) T.Trace)
work_of C.Check = Some W.Check
work_of C.Replay = None
work_of (C.Gen n threads fuel) = Some (W.Run (whole_setup threads fuel) (T.Summary n))
work_of (C.Which name ty threads fuel) = Some (W.Which (whole_setup threads fuel) (record { name = name; ty = ty }))
work_of (C.Ambiguous threads fuel) = Some (W.Run (whole_setup threads fuel) T.Pairs)
