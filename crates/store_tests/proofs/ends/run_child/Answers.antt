use Rattle.store_tests.proofs.ChildLemmas.{root_fetched}
use Rattle.store_tests.proofs.ends.run_child.Goals as goal

pub returns : goal.returns
returns g c told = root_fetched g.N.Naming.about.fuel _ _ _ _ _ c.in-Ok.ensures.book c.in-Ok.ensures.root c.fetch_child-before.ensures.root (c.end_child-ended.ensures c.if-not-ended.false) c.fetch_child-after.ensures.root
