use Rattle.jl_world.proofs.world.World.give.Given as goal

-- the task that is asked for
abbrev pub ghosts-give_as : goal.ghosts-give_as
ghosts-give_as g a = record { task = a.task }
