use Rattle.std.proofs.Common.{◌≡◌, ◌∙◌, ◌<◌, ◌≤◌, ℕ, ap, arith, not, true, false, MatchOption, Option, None, Some}
use Rattle.std.specs.Option.{is_some}
use Rattle.jl_model.specs.Counts.{raw}
use Rattle.jl_sig.proofs.SearchLemmas.{some_later}
use Rattle.jl_sig.proofs.limits.have_wide.Goals as goal

narrow : (o : Option ℕ) (w k : ℕ) → MatchOption o (256 < w) (λ n. (w ≤ 256) × (n ≡ k)) → is_some o ≡ true → 256 < w → ⊥
narrow None w k m s h = let f : false ≡ true = s in cc
narrow (Some n) w k m s h = omega (arith, m.0)

pub loop-ty-preserved : goal.loop-ty-preserved
loop-ty-preserved c = λ h.
    let t = c.ty-item.result in
    some_later (λ t. 256 < (raw t).widest) c.args.types.now c.loop-ty.ty-index t c.loop-ty-test.true c.ty-item.is
    (narrow c.alternatives_within.result (raw t).widest (raw t).count c.alternatives_within.ensures (c.is_none.ensures ∙ ap not c.if-is_none.false)) (c.loop-ty.invariant h)
