use Rattle.std.proofs.Common.{◌∙◌, sym, ap, map}
use Rattle.jl_model.specs.declared.ty.Ty.TheViews.{out-Ty}
use Rattle.jl_model.specs.Found.{find_outer, first, raised}
use Rattle.jl_subsig.specs.Side.{held}
use Rattle.jl_search.proofs.FindLemmas.{outer-find-tuple}
use Rattle.jl_search.proofs.SearchLemmas.{first-none}
use Rattle.jl_subsig.proofs.AncestorSteps.{no_parts}
use Rattle.jl_subsig.proofs.find.+outer.Goals as goal

pub in_outer-returns-in-None : goal.in_outer-returns-in-None
in_outer-returns-in-None t c =
    let g = held c.args.left.now c.args.row.now in
    let v = c.args.variable in
    sym (ap (λ u. find_outer g v u c.args.ty.now) c.in-Tuple.is ∙ outer-find-tuple g v c.args.ty.now c.in-Tuple.patterns
    ∙ ap (first (map (find_outer g v) c.in-Tuple.patterns)) (no_parts (raised g (out-Ty c.args.ty.now)) c.in-None.ensures) ∙ first-none (map (find_outer g v) c.in-Tuple.patterns))
