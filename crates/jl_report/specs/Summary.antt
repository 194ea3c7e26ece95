-- The summary of the run of a generated script.
use Rattle.std.specs.Prelude.{ℕ, ◌-◌, codes, decimal, List, ◌++◌, drop, length}
use Rattle.jl_program.specs.declared.tree.Program.{Program}
use Rattle.jl_program.specs.Prelude.{prelude_count}
use Rattle.jl_calculus.specs.declared.history.Event.{Event}
use Rattle.jl_calculus.specs.Legal.{text_of, status_of}
use Rattle.jl_calculus.specs.Past.{tasks_of}
use Rattle.jl_calculus.specs.World.{world_of}

-- a line of a number between two texts
abbrev pub count_line : List ℕ → ℕ → List ℕ → List ℕ
count_line before n after = before ++ (decimal n ++ after)

-- how many tasks were spawned: all but the root
abbrev pub spawned : List Event → ℕ
spawned es = tasks_of es - 1

-- what the program of a generated script has: its number, the types that it declares, and its definition sites
abbrev pub program_lines : ℕ → Program → List ℕ
program_lines n P =
    count_line (codes "generated ") n (codes "\n")
    ++ (count_line (codes "types ") (length P.decls) (codes "\n")
    ++ count_line (codes "definitions ") (length (drop prelude_count P.sites)) (codes "\n"))

-- what its run did: the tasks spawned, the world at the end, the length of the text, and the status
abbrev pub run_lines : List Event → ℕ → ℕ → List ℕ
run_lines es bytes status =
    count_line (codes "tasks ") (spawned es) (codes "\n")
    ++ (count_line (codes "world ") (world_of es) (codes "\n")
    ++ (count_line (codes "output ") bytes (codes " bytes\n")
    ++ count_line (codes "status ") status (codes "\n")))

abbrev pub summary_text : ℕ → Program → List Event → List ℕ
summary_text n P es = program_lines n P ++ run_lines es (length (text_of P es)) (status_of es)
