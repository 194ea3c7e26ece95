use Rattle.jl_world.specs.Names.{table_of, about_of}
use Rattle.store_tests.proofs.word_tests.search.Given as goal

-- the words that were just made
abbrev pub ghosts-search_beside_definitions : goal.ghosts-search_beside_definitions
ghosts-search_beside_definitions g a = record { table = table_of a.blank; about = about_of a.blank }
