use Rattle.std.proofs.Common.{◌≡◌, length}
use Rattle.store_tests.specs.Simple.{AreSimple}
use Rattle.store_tests.proofs.keys.make_types.Given as goal

abbrev pub invariant-loop : goal.invariant-loop
invariant-loop l = AreSimple l.types.items × (length l.types.items ≡ l.counter)
