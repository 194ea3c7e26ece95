use Rattle.std.proofs.Common.{◌∙◌, sym, subst}
use Rattle.jl_ambig.specs.declared.asking.Known.{Known}
use Rattle.jl_ambig.specs.Asked.{IsKnown}
use Rattle.jl_ambig.proofs.asking.find_known.Goals as goal

pub returns-then-are_same : goal.returns-then-are_same
returns-then-are_same c = λ P dels h.
    let e = c.are_same.ensures c.if-are_same.true in
    subst (λ ds. IsKnown P dels ds c.entry-item.result.choice) (sym c.as_slice.ensures.value ∙ e)
    (subst (λ (k : Known). IsKnown P dels k.those.items k.choice) (sym c.entry-item.is) (h c.loop-entry.entry-index c.entry-item.result c.loop-entry-test.true))
