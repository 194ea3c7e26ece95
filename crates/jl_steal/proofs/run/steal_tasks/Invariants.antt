use Rattle.jl_world.specs.Names.{table_of, about_of}
use Rattle.jl_steal.proofs.run.steal_tasks.Given as goal

-- the words that were just made
abbrev pub ghosts-steal_named : goal.ghosts-steal_named
ghosts-steal_named g a = record { table = table_of a.blank; about = about_of a.blank }
