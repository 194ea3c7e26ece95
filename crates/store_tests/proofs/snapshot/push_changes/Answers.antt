use Rattle.std.proofs.Common.{◌+◌, subst}
use Rattle.jl_calculus.specs.World.{change_at}
use Rattle.jl_methods.specs.Filters.{IsDefinition}
use Rattle.store_tests.proofs.SiteLemmas.{definition_there}
use Rattle.store_tests.proofs.snapshot.push_changes.Goals as goal

pub site-requires : goal.site-requires
site-requires g c =
    subst (λ es. IsDefinition (change_at es (c.loop-event.world + 1))) c.requires
    (definition_there c.args.events.now c.loop-event.event-index c.event-item.result c.in-Def.task c.in-Def.site c.loop-event.world c.loop-event-test.true c.event-item.is c.in-Def.is
    c.loop-event.invariant.counted)
