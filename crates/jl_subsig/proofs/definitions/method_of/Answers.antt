use Rattle.jl_subsig.proofs.definitions.method_of.Goals as goal

pub returns-clause-sound : goal.returns-clause-sound
returns-clause-sound c = record { kept = c.sig.ensures.kept }
