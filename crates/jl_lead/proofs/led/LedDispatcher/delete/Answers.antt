use Rattle.jl_lead.proofs.led.LedDispatcher.delete.Goals as goal

pub returns-clause-grew : goal.returns-clause-grew
returns-clause-grew c = let a = c.answer_deletion.ensures in a.grew

pub returns-clause-deleted : goal.returns-clause-deleted
returns-clause-deleted c = let a = c.answer_deletion.ensures in a.deleted

pub returns-clause-world : goal.returns-clause-world
returns-clause-world c = let a = c.answer_deletion.ensures in a.world

pub returns-clause-refused : goal.returns-clause-refused
returns-clause-refused c = let a = c.answer_deletion.ensures in a.refused

pub returns-clause-full : goal.returns-clause-full
returns-clause-full c = let a = c.answer_deletion.ensures in a.full

pub returns-clause-limit : goal.returns-clause-limit
returns-clause-limit c = let a = c.answer_deletion.ensures in a.limit

pub returns-clause-absent : goal.returns-clause-absent
returns-clause-absent c = let a = c.answer_deletion.ensures in a.absent
