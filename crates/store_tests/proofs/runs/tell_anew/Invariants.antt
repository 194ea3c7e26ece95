use Rattle.jl_world.specs.Names.{table_of, about_of}
use Rattle.store_tests.proofs.runs.tell_anew.Given as goal

-- the words that were just made
abbrev pub ghosts-tell : goal.ghosts-tell
ghosts-tell a = record { table = table_of a.blank; about = about_of a.blank }
