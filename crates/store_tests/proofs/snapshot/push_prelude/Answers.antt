use Rattle.store_tests.proofs.SiteLemmas.{prelude_there}
use Rattle.store_tests.proofs.snapshot.push_prelude.Goals as goal

pub site-requires : goal.site-requires
site-requires g c = prelude_there c.args.book.now c.loop-world.world c.loop-world-test.true
