use Rattle.std.proofs.Common.{◌∙◌, arith}
use Rattle.jl_methods.specs.Room.{HasRoomAt}
use Rattle.jl_methods.proofs.EachLemmas.{more_have, all_have}
use Rattle.jl_methods.proofs.lists.Lists.reserve_each.Goals as goal

pub loop-number-preserved : goal.loop-number-preserved
loop-number-preserved g c = (
  c.reserve.ensures.kept ∙ c.loop-number.invariant.0,
  more_have (HasRoomAt c.loop-number.self) (HasRoomAt c.reserve.new.self) c.args.numbers.now c.loop-number.number-index c.loop-number-test.true c.reserve.ensures.other c.loop-number.invariant.1 (c.in_ok-reserve.ensures.room),
)

pub returns-clause-room : goal.returns-clause-room
returns-clause-room g c =
    all_have (HasRoomAt c.loop-number.self) c.args.numbers.now c.loop-number.number-index (omega (arith, c.loop-number-test.false)) c.loop-number.invariant.1
