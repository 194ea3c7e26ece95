use Rattle.jl_steal.proofs.Keeps.{begins}
use Rattle.jl_steal.proofs.deque.Local.new.Goals as goal

pub fifo_as-requires : goal.fifo_as-requires
fifo_as-requires g c = begins
