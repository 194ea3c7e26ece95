use Rattle.std.proofs.Common.{◌∙◌, ap, subst}
use Rattle.jl_choosing.specs.ByFunction.{in_world, AreLatest}
use Rattle.jl_choosing.proofs.LatestLemmas.{world_all_seen, world_some}
use Rattle.jl_choosing.proofs.changes.Methods.in_world.Goals as goal

pub returns-then-last_world-world : goal.returns-then-last_world-world
returns-then-last_world-world c =
    let m = c.self.inside in
    subst (λ ds. AreLatest (in_world c.args.world ds) c.as_slice.result.now) c.self.view_is
    (world_all_seen c.args.world c.last_world.result m.all.items m.latest.items c.deref.result.now c.as_slice.result.now c.self.invariant.0 c.deref.ensures.value c.as_slice.ensures.value c.last_world.ensures.last
    c.if-last_world-world.true)

pub returns : goal.returns
returns c =
    let m = c.self.inside in
    subst (λ ds. AreLatest (in_world c.args.world ds) c.before-2.result.now) c.self.view_is
    (world_some c.args.world m.all.items m.latest.items c.before-2.result.now c.self.invariant.0
    (c.before-2.ensures ∙ ap (in_world c.args.world) c.deref-2.ensures.value))
