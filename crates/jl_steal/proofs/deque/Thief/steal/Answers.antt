use Rattle.jl_steal.proofs.Keeps.{steals}
use Rattle.jl_steal.proofs.deque.Thief.steal.Goals as goal

pub steal_as-requires-clause-takes : goal.steal_as-requires-clause-takes
steal_as-requires-clause-takes g c = steals _ _ c.self.invariant.1
