use Rattle.jl_steal.proofs.Keeps.{admits}
use Rattle.jl_steal.proofs.deque.Local.thief.Goals as goal

pub pass-pass-requires : goal.pass-pass-requires
pass-pass-requires g c = admits
