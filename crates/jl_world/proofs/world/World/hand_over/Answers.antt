use Rattle.std.proofs.Common.{sym, ◌∙◌, arith}
use Rattle.jl_world.proofs.Passing.{hands_as}
use Rattle.jl_world.proofs.world.World.hand_over.Goals as goal

pub split_seat-other-requires : goal.split_seat-other-requires
split_seat-other-requires g c =
    let i = c.seat.invariant in
    (i.0 ∙ sym c.args.self.now.named.0, omega (arith, c.args.self.now.sized, c.args.self.now.places), hands_as _ _ _ i.1)
