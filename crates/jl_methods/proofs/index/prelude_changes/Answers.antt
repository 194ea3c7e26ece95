use Rattle.jl_methods.proofs.PreludeLemmas.{changes_step}
use Rattle.jl_methods.proofs.index.prelude_changes.Goals as goal

pub loop-site-preserved : goal.loop-site-preserved
loop-site-preserved c =
    changes_step c.loop-site.site c.loop-site.changes.items c.push.new.self.items c.loop-site-test.true c.loop-site.invariant c.in_ok-push.ensures.items
