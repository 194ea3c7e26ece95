use Rattle.jl_lead.proofs.led.Led.turn_to.Goals as goal

pub invariant_of-self : goal.invariant_of-self
invariant_of-self c = record { placed = c.requires.placed; left = c.requires.stretch }
