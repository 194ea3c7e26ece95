use Rattle.jl_world.specs.Names.{table_of, about_of}
use Rattle.store_tests.proofs.word_tests.look.Given as goal

-- the words that were just made
abbrev pub ghosts-look_after_a_definition : goal.ghosts-look_after_a_definition
ghosts-look_after_a_definition a = record { table = table_of a.blank; about = about_of a.blank }
