use Rattle.std.proofs.Common.{subst, sym}
use Rattle.crossbeam_deque.specs.Tasks.{Takes}
use Rattle.crossbeam_deque.specs.Handles.{worker_view}
use Rattle.jl_steal.specs.Deques.{InOrder, Pops}
use Rattle.jl_steal.proofs.Keeps.{pops}
use Rattle.jl_steal.proofs.deque.Local.pop.Goals as goal

-- src/deque.rt:110:9
pub pop_as-requires-clause-fifo : goal.pop_as-requires-clause-fifo
pop_as-requires-clause-fifo g c = λ _. let v = worker_view c.self.inside.worker in
    subst (λ port. Takes InOrder port v 1 (Pops v)) (sym c.self.invariant.1) (pops v)
