use Rattle.std.proofs.Common.{◌-◌, length}
use Rattle.jl_subsig.proofs.StandingLemmas.{NoneFrom}
use Rattle.jl_subsig.proofs.standing.has_standing.Given as goal

abbrev pub invariant-loop-past : goal.invariant-loop-past
invariant-loop-past l = NoneFrom l.ready l.dels l.place l.defs (length l.defs - l.past)
