use Rattle.jl_world.proofs.world.World.store_head.Given as goal

-- the event that the store makes
abbrev pub ghosts-grow : goal.ghosts-grow
ghosts-grow g a = record { event = a.event.now }
