use Rattle.std.proofs.Common.{[], subst, arith}
use Rattle.jl_choosing.specs.ByFunction.{in_world, AreLatest}
use Rattle.jl_choosing.proofs.LatestLemmas.{latest_self}
use Rattle.jl_choosing.proofs.changes.latest_defs.Goals as goal

pub returns-in-Some : goal.returns-in-Some
returns-in-Some c = subst (λ ds. AreLatest (in_world c.args.world ds) c.in_world.result.now) (c.in-Some.ensures.lookup.4 (omega arith) []) c.in_world.ensures

pub returns-in-None : goal.returns-in-None
returns-in-None c = subst (λ ds. AreLatest (in_world c.args.world ds) []) (c.in-None.ensures.lookup.4 (omega arith) []) (latest_self [] tt)
