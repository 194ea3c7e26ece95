use Rattle.std.proofs.Common.{length, ap, sym, ◌∙◌, arith}
use Rattle.jl_calculus.specs.Ranges.{keys_of}
use Rattle.jl_world.proofs.Moves.{heads_as}
use Rattle.jl_world.proofs.world.World.load_head.Goals as goal

pub load-found-requires : goal.load-found-requires
load-found-requires g c =
    let i = c.seat.invariant in
    let w = c.args.self.now in
    let keys = ap (λ v. length (keys_of v.seen)) c.seat.view_is in (
      i.0 ∙ sym w.named.0,
      omega (arith, w.sized, w.places, i.3.0, keys, c.requires),
      heads_as _ _ _ _ c.args.key _ w.named.1 i.1 (omega (arith, i.3.0, keys, c.requires)),
    )
