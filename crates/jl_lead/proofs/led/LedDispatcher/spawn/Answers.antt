use Rattle.jl_lead.proofs.led.LedDispatcher.spawn.Goals as goal

pub returns-clause-grew : goal.returns-clause-grew
returns-clause-grew c = let a = c.answer_spawn.ensures in a.grew

pub returns-clause-spawned : goal.returns-clause-spawned
returns-clause-spawned c = let a = c.answer_spawn.ensures in a.spawned

pub returns-clause-refused : goal.returns-clause-refused
returns-clause-refused c = let a = c.answer_spawn.ensures in a.refused

pub returns-clause-full : goal.returns-clause-full
returns-clause-full c = let a = c.answer_spawn.ensures in a.full

pub returns-clause-limit : goal.returns-clause-limit
returns-clause-limit c = let a = c.answer_spawn.ensures in a.limit
