use Rattle.jl_core.proofs.TraceLemmas.{AreOwnFrom}
use Rattle.jl_core.proofs.trace.has_own_events.Given as goal

abbrev pub invariant-loop-i : goal.invariant-loop-i
invariant-loop-i l = AreOwnFrom l.events l.task l.trace l.rest l.i
