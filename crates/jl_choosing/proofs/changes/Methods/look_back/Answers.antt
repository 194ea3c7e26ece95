use Rattle.std.proofs.Common.{◌∙◌, ap, sym, subst}
use Rattle.jl_choosing.specs.ByFunction.{in_world, Rising}
use Rattle.jl_choosing.proofs.LatestLemmas.{world_rising}
use Rattle.jl_choosing.proofs.changes.Methods.look_back.Goals as goal

pub latest_of-requires : goal.latest_of-requires
latest_of-requires c =
    let m = c.self.inside in
    subst (Rising 0) (sym (c.before-2.ensures ∙ ap (in_world c.args.world) c.deref.ensures.value)) (world_rising 0 c.args.world m.all.items c.self.invariant.0.rising)
