use Rattle.jl_lead.proofs.led.LedDispatcher.fetched.Goals as goal

pub returns-clause-grew : goal.returns-clause-grew
returns-clause-grew c = let a = c.answer_fetch.ensures in a.grew

pub returns-clause-fetched : goal.returns-clause-fetched
returns-clause-fetched c = let a = c.answer_fetch.ensures in a.fetched

pub returns-clause-valid : goal.returns-clause-valid
returns-clause-valid c = let a = c.answer_fetch.ensures in a.valid

pub returns-clause-refused : goal.returns-clause-refused
returns-clause-refused c = let a = c.answer_fetch.ensures in a.refused

pub returns-clause-not_yet : goal.returns-clause-not_yet
returns-clause-not_yet c = λ e. (let a = c.answer_fetch.ensures in absurd (a.never e))
