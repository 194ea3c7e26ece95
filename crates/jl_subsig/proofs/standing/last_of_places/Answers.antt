use Rattle.std.proofs.Common.{refl}
use Rattle.jl_subsig.specs.Standing.{AreLastOfPlaces, last_end}
use Rattle.jl_subsig.proofs.PickLemmas.{goes_whole}
use Rattle.jl_subsig.proofs.StandingLemmas.{goes_repeated, goes_last}
use Rattle.jl_subsig.proofs.standing.last_of_places.Goals as goal

pub loop-i-preserved-then-is_repeated : goal.loop-i-preserved-then-is_repeated
loop-i-preserved-then-is_repeated c = goes_repeated c.args.dels.now c.loop-i.those.items c.loop-i.i c.loop-i-test.true c.loop-i.invariant (c.if-is_repeated.ensures refl)

pub loop-i-preserved : goal.loop-i-preserved
loop-i-preserved c = goes_last c.args.dels.now c.loop-i.those.items c.loop-i.i c.loop-i-test.true c.loop-i.invariant c.push.new.self.items c.in_ok-push.ensures.items

pub returns : goal.returns
returns c = goes_whole AreLastOfPlaces c.args.dels.now c.loop-i.those.items c.loop-i.i c.loop-i-test.false last_end c.loop-i.invariant
