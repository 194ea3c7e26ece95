use Rattle.std.proofs.Common.{sym, ◌∙◌, arith}
use Rattle.jl_world.proofs.Passing.{gives_as}
use Rattle.jl_world.proofs.world.World.give_as.Goals as goal

pub split_seat-other-requires : goal.split_seat-other-requires
split_seat-other-requires g c =
    let i = c.book.invariant in
    (i.0 ∙ sym c.args.self.now.named.0, omega (arith, c.args.self.now.sized, c.args.self.now.places), gives_as _ _ _ g.T.Asked.task i.1 (rw (c.book.view_is, c.requires.task) c.requires.held))
