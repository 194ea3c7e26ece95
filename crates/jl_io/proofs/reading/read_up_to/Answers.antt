-- Where a turn fails it takes nothing, so what was taken is what was read before, which is less than was asked for.
use Rattle.std.proofs.Common.{◌<◌, length, arith}
use Rattle.std.proofs.lemmas.Grind.{common_steps}
use Rattle.jl_io.proofs.MovedLemmas.{on-error}
use Rattle.jl_io.proofs.reading.read_up_to.Goals as goal

pub returns-in_err-spare-clause-taken : goal.returns-in_err-spare-clause-taken
returns-in_err-spare-clause-taken g c =
    let short : length c.loop-piece.bytes.items < c.args.most = grind (arith, common_steps, c.loop-piece-test.true) in
    (c.loop-piece.bytes.items, c.loop-piece.invariant.1, c.loop-piece.invariant.2, on-error c.from_residual.result _ short)

pub returns-in_err-count-clause-taken : goal.returns-in_err-count-clause-taken
returns-in_err-count-clause-taken g c =
    let short : length c.loop-piece.bytes.items < c.args.most = grind (arith, common_steps, c.loop-piece-test.true) in
    (c.loop-piece.bytes.items, c.loop-piece.invariant.1, rw c.in_err-count.ensures.kept c.loop-piece.invariant.2, on-error c.from_residual-in_err-count.result _ short)
