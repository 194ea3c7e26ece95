use Rattle.std.proofs.Common.{arith}
use Rattle.jl_world.proofs.Growth.{keys_grow}
use Rattle.store_tests.proofs.readers.search_often.Goals as goal

pub loop-preserved : goal.loop-preserved
loop-preserved g c = omega (arith, c.loop.invariant, keys_grow _ _ c.search.ensures.seen)
