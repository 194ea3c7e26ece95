use Rattle.std.proofs.Common.{◌∙◌, [], ap, subst, take, get_or}
use Rattle.jl_calculus.specs.Definitions.{dels_from}
use Rattle.jl_choosing.specs.ByFunction.{AreLatestDels}
use Rattle.jl_choosing.proofs.changes.Changes.dels_of.Goals as goal

pub returns : goal.returns
returns c =
    let d = c.self.inside in
    subst (λ v. AreLatestDels (dels_from v.0 c.args.function 1 (take c.args.world v.1)) c.latest_dels.result.now) c.self.view_is
    (c.latest_dels.ensures d.ready.now c.args.function d.changes.items (ap (λ rows. get_or rows c.args.function []) c.deref.ensures.value ∙ c.self.invariant.1.each c.args.function))
