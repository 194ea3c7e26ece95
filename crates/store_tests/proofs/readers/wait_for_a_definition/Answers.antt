use Rattle.std.proofs.Common.{arith}
use Rattle.jl_world.proofs.Growth.{keys_grow}
use Rattle.store_tests.proofs.readers.wait_for_a_definition.Goals as goal

pub loop-preserved : goal.loop-preserved
loop-preserved g c = omega (arith, c.loop.invariant, keys_grow _ _ c.look-seen.ensures.seen.0)

pub returns-then-seen-gt-FIRST : goal.returns-then-seen-gt-FIRST
returns-then-seen-gt-FIRST g c = omega (arith, c.loop.invariant, keys_grow _ _ c.look-seen.ensures.seen.0)
