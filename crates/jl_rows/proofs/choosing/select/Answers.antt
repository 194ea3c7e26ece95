use Rattle.std.proofs.Common.{sym, subst}
use Rattle.jl_calculus.specs.declared.history.Change.TheVariants as Ch
use Rattle.jl_methods.specs.Links.{AreApplying}
use Rattle.jl_rows.proofs.choosing.select.Goals as goal

pub choose_among-requires-clause-applying : goal.choose_among-requires-clause-applying
choose_among-requires-clause-applying c =
    let P = c.args.ready.now in
    let k = c.args.key.now in
    (k, c.requires.key, subst (AreApplying P Ch.Def k) (sym c.as_slice.ensures.value) c.in_ok-sites.ensures, subst (AreApplying P Ch.Del k) (sym c.as_slice-2.ensures.value) c.in_ok-places.ensures)

pub returns : goal.returns
returns c =
    let P = c.args.ready.now in
    let k = c.args.key.now in
    λ es h.
    c.in_ok-choice.ensures es k h c.requires.key (subst (AreApplying P Ch.Def k) (sym c.as_slice.ensures.value) c.in_ok-sites.ensures) (subst (AreApplying P Ch.Del k) (sym c.as_slice-2.ensures.value) c.in_ok-places.ensures)
