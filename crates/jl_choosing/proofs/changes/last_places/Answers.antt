use Rattle.std.proofs.Common.{arith}
use Rattle.jl_choosing.proofs.LatestLemmas.{places_next, places_whole}
use Rattle.jl_choosing.proofs.changes.last_places.Goals as goal

pub loop-i-preserved : goal.loop-i-preserved
loop-i-preserved c = (places_next c.args.defs.now c.loop-i.places.items c.put_place.new.places.items c.loop-i.i c.in_ok-put_place.ensures c.loop-i.invariant.0, omega (arith, c.loop-i-test.true))

pub returns : goal.returns
returns c = places_whole c.args.defs.now c.loop-i.places.items c.loop-i.i c.loop-i-test.false c.loop-i.invariant.1 c.loop-i.invariant.0
