use Rattle.std.proofs.Common.{sym, ◌∙◌, arith}
use Rattle.jl_world.proofs.Passing.{copies_as}
use Rattle.jl_world.proofs.world.World.child.Goals as goal

pub split_seat-other-requires : goal.split_seat-other-requires
split_seat-other-requires g c =
    let i = c.seat.invariant in
    (i.0 ∙ sym c.args.self.now.named.0, omega (arith, c.args.self.now.sized, c.args.self.now.places), copies_as _ _ _ i.1)
