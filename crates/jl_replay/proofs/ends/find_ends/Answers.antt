use Rattle.std.proofs.Common.{arith}
use Rattle.jl_replay.proofs.EndTable.{passed}
use Rattle.jl_replay.proofs.ends.find_ends.Goals as goal

pub loop-n-preserved : goal.loop-n-preserved
loop-n-preserved c =
    let i = c.loop-n.invariant in (
      omega (arith, i.0),
      passed c.args.entries.now c.loop-n.ends.items c.note_end.new.ends.items c.loop-n.n c.index-entries-n.result (omega (arith, c.loop-n-test.true)) i.0 c.index-entries-n.is i.1 c.note_end.ensures,
    )
