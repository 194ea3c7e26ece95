use Rattle.std.proofs.Common.{◌≡◌}
use Rattle.jl_cache.proofs.Tried.{Tried}
use Rattle.jl_cache.proofs.cache.Cache.find.Given as goal

-- the seat stays as the load of the head left it, and the rows up to the link were tried
abbrev pub invariant-loop-link : goal.invariant-loop-link
invariant-loop-link g l = (l.seat ≡ l.initial.seat) × Tried g.N.Naming.about.program.value l.initial.seat.seen l.key l.world l.link

abbrev pub decreases-loop-link : goal.decreases-loop-link
decreases-loop-link g l = l.link
