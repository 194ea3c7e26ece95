use Rattle.jl_lead.proofs.led.LedDispatcher.define.Goals as goal

pub returns-clause-grew : goal.returns-clause-grew
returns-clause-grew c = let a = c.answer_definition.ensures in a.grew

pub returns-clause-defined : goal.returns-clause-defined
returns-clause-defined c = let a = c.answer_definition.ensures in a.defined

pub returns-clause-world : goal.returns-clause-world
returns-clause-world c = let a = c.answer_definition.ensures in a.world

pub returns-clause-refused : goal.returns-clause-refused
returns-clause-refused c = let a = c.answer_definition.ensures in a.refused

pub returns-clause-full : goal.returns-clause-full
returns-clause-full c = let a = c.answer_definition.ensures in a.full

pub returns-clause-limit : goal.returns-clause-limit
returns-clause-limit c = let a = c.answer_definition.ensures in a.limit
