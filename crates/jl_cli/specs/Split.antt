-- Where the history begins in the input of `replay`.
use Rattle.std.specs.Prelude.{ℕ, true, false, List, [], ◌∷◌, Option}
use Rattle.jl_report.specs.HistoryText.{first_line}
use Rattle.jl_work.specs.Split.{separator_among, part_before, part_from}

-- the lines that part a history from the script before it, whatever the script
abbrev pub separators : List (List ℕ)
separators = first_line false ∷ first_line true ∷ []

-- the place of the first line that is exactly one of them
abbrev pub separator_at : List ℕ → Option ℕ
separator_at bytes = separator_among separators bytes

-- the script before that line, and the history from it on
abbrev pub script_in : List ℕ → List ℕ
script_in bytes = part_before (separator_at bytes) bytes

abbrev pub history_in : List ℕ → List ℕ
history_in bytes = part_from (separator_at bytes) bytes
