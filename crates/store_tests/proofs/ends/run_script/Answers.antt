use Rattle.std.proofs.Common.{subst, sym}
use Rattle.store_tests.specs.Child.{IsChild}
use Rattle.store_tests.proofs.ChildLemmas.{child_is}
use Rattle.store_tests.proofs.ends.run_script.Goals as goal

pub run_anew-history-requires : goal.run_anew-history-requires
run_anew-history-requires c = subst IsChild (sym c.in_ok-ready.ensures) child_is
