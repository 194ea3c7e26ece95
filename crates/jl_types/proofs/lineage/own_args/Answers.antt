use Rattle.std.proofs.Common.{◌∙◌, sym, ap, ◌+◌, ◌++◌, ◌∷◌, [], drop, append_assoc}
use Rattle.jl_model.specs.declared.ty.Ty.TheVariants as W
use Rattle.jl_model.specs.Ancestors.{vars_from}
use Rattle.jl_types.proofs.TableLemmas.{vars-at}
use Rattle.jl_types.proofs.lineage.own_args.Goals as goal

pub loop-i-preserved : goal.loop-i-preserved
loop-i-preserved c =
    let i = c.loop-i.i in
    let ps = c.args.params.now in
    let old = c.loop-i.items.items in
    rw c.in_ok-push.ensures.items
    (append_assoc old (W.Var i ∷ []) (vars_from (i + 1) (drop (i + 1) ps)) ∙ ap (λ z. old ++ z) (sym (vars-at ps i c.loop-i-test.true)) ∙ c.loop-i.invariant)
