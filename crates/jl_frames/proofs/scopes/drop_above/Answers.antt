use Rattle.std.proofs.Common.{arith}
use Rattle.jl_frames.proofs.MoveLemmas.{first_left}
use Rattle.jl_frames.proofs.scopes.drop_above.Goals as goal

pub loop-place-preserved : goal.loop-place-preserved
loop-place-preserved c =
    let m = c.drop_last.ensures.left in
    let i = c.loop-place.invariant in
    let less = c.drop_last.ensures.less in (
      first_left c.args.values.now.items c.loop-place.values.items c.drop_last.new.values.items m.0 i.0 m.1,
      omega (arith, less, i.1),
      omega (arith, i.2),
    )
