use Rattle.jl_world.specs.Names.{table_of, about_of}
use Rattle.store_tests.proofs.ends.run_anew.Given as goal

-- the words that were just made
abbrev pub ghosts-run_both : goal.ghosts-run_both
ghosts-run_both a = record { table = table_of a.blank; about = about_of a.blank }
