use Rattle.std.proofs.Common.{arith}
use Rattle.jl_world.proofs.Growth.{keys_grow, worlds_grow}
use Rattle.store_tests.proofs.readers.search.Goals as goal

pub find-newest-requires-clause-key : goal.find-newest-requires-clause-key
find-newest-requires-clause-key g c = omega (arith, c.requires, keys_grow _ _ c.look-seen.ensures.seen.0)

pub find-newest-requires-clause-world : goal.find-newest-requires-clause-world
find-newest-requires-clause-world g c = (omega (arith, c.look-seen.ensures.world), omega (arith, c.look-seen.ensures.world))

pub find-earlier-requires-clause-key : goal.find-earlier-requires-clause-key
find-earlier-requires-clause-key g c = omega (arith, c.requires, keys_grow _ _ c.look-seen.ensures.seen.0, keys_grow _ _ c.find-newest.ensures.seen)

pub find-earlier-requires-clause-world : goal.find-earlier-requires-clause-world
find-earlier-requires-clause-world g c = (
  omega (arith, c.if-seen-le-FIRST.false),
  omega (arith, c.look-seen.ensures.world, worlds_grow _ _ c.find-newest.ensures.seen),
)
