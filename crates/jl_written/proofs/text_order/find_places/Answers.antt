use Rattle.std.proofs.Common.{◌<◌, arith, length}
use Rattle.jl_written.proofs.OrderLemmas.{one_more_place}
use Rattle.jl_written.proofs.text_order.find_places.Goals as goal

pub loop-place-preserved : goal.loop-place-preserved
loop-place-preserved c =
    let below = c.loop-place-test.true in
    let size = c.len-place-end.ensures in
    let within : c.loop-place.place < length c.args.reading.now.vars = omega (arith, below, size) in
    one_more_place c.args.reading.now.vars c.loop-place.places.items c.push.new.self.items c.loop-place.place c.in_ok-to_u32.field-0
    c.loop-place.invariant within c.in_ok-to_u32.ensures.number c.in_ok-push.ensures.items
