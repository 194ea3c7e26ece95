use Rattle.std.proofs.Common.{◌∙◌, sym, subst}
use Rattle.jl_model.specs.Ancestors.{table_of}
use Rattle.jl_model.specs.AllRows.{Above}
use Rattle.jl_model.specs.Rows.{alts}
use Rattle.jl_sig.specs.Built.{AreAligned}
use Rattle.jl_sig.proofs.PickLemmas.{kept_aligned, all_above}
use Rattle.jl_sig.proofs.variables.picks_of.Goals as goal

pub above-requires-clause-aligned : goal.above-requires-clause-aligned
above-requires-clause-aligned c =
    let ds = c.args.table.now in
    let t = c.args.bound.now.high in
    subst (λ z. AreAligned ds z c.as_slice-2.result.now) (sym (c.as_slice.ensures.value ∙ c.in_ok-alternatives.ensures))
    (subst (AreAligned ds (alts t)) (sym (c.as_slice-2.ensures.value ∙ c.in_ok-kept.ensures)) (kept_aligned ds c.valid.ensures t c.in_ok-high.high (c.requires.high (sym c.is_bottom.ensures ∙ c.if-is_bottom.false)).known c.in_ok-high.ensures))

pub returns-then-is_bottom : goal.returns-then-is_bottom
returns-then-is_bottom c =
    let n = table_of c.args.table.now in
    let b = c.args.bound.now in
    subst (Above n b.low (alts b.high)) (sym (c.in_ok-picks.ensures ∙ c.in_ok-alternatives.ensures)) (all_above n b.low (sym c.is_bottom.ensures ∙ c.if-is_bottom.true) (alts b.high))
