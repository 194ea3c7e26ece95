use Rattle.std.proofs.Common.{◌∙◌, [], ap, sym, take, get_or}
use Rattle.jl_calculus.specs.Definitions.{defs_from}
use Rattle.jl_choosing.proofs.FunctionLemmas.{row_in_world}
use Rattle.jl_choosing.proofs.LatestLemmas.{latest_same}
use Rattle.jl_choosing.proofs.changes.Changes.defs_of.Goals as goal

pub returns : goal.returns
returns c =
    let d = c.self.inside in
    latest_same _ _ c.latest_defs.result.now
    (row_in_world d.ready.now d.changes.items d.methods.items c.args.function c.args.world (get_or c.deref.result.now c.args.function []) c.self.invariant.0 (ap (λ rows. get_or rows c.args.function []) (sym c.deref.ensures.value))
    ∙ ap (λ v. defs_from v.0 c.args.function 1 (take c.args.world v.1)) c.self.view_is)
    c.latest_defs.ensures
