use Rattle.std.proofs.Common.{sym, ◌∙◌, arith}
use Rattle.jl_world.proofs.Moves.{looks_as}
use Rattle.jl_world.proofs.world.World.look.Goals as goal

pub load-found-requires : goal.load-found-requires
load-found-requires g c =
    let i = c.seat.invariant in
    let w = c.args.self.now in
    (i.0 ∙ sym w.named.0, omega (arith, w.sized, w.places), looks_as _ _ _ _ _ w.named.1 i.1)
