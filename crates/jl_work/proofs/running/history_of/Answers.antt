use Rattle.jl_work.proofs.running.history_of.Goals as goal

pub returns : goal.returns
returns g c = record { legal = c.in_ok-history.ensures.legal; begun = c.in_ok-history.ensures.begun; cached = c.in_ok-history.ensures.cached }
