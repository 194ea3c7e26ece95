use Rattle.jl_world.specs.Names.{table_of, about_of}
use Rattle.jl_runner.proofs.run.run_tasks.Given as goal

-- the words that were just made
abbrev pub ghosts-run_named : goal.ghosts-run_named
ghosts-run_named g a = record { table = table_of a.blank; about = about_of a.blank }
