use Rattle.std.proofs.Common.{refl}
use Rattle.jl_causes.proofs.SiteLemmas.{learnt}
use Rattle.jl_causes.proofs.standing.Standing.learn.Goals as goal

pub returns : goal.returns
returns c = λ cs h. learnt c.args.ready.now cs c.args.self.now _ c.args.place c.in_ok-those.those c.in_ok-those.ensures refl refl refl h
