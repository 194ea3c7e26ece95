use Rattle.std.proofs.Common.{◌≡◌, ◌∙◌, sym, ap, subst, arith, ℕ, ◌+◌, ◌-◌, ◌<◌, ◌↔◌, IsTrue, false, List, drop, length, get_or}
use Rattle.std.proofs.lemmas.List.{length-set}
use Rattle.jl_model.specs.declared.ty.Bound.{Bound}
use Rattle.jl_model.specs.Rows.{width, Occurs}
use Rattle.jl_search.specs.Occurring.{is_flagged, flags}
use Rattle.jl_search.proofs.FlagLemmas.{next_flags, told}
use Rattle.jl_search.proofs.occurs.occurring.Goals as goal

pub loop-step-preserved : goal.loop-step-preserved
loop-step-preserved c =
    let bs = c.args.bounds.now in
    let fs = c.loop-step.flags.items in
    let m : ℕ = length bs in
    let i : ℕ = m - 1 - c.loop-step.step in
    let small : i < m = omega (arith, c.loop-step-test.true) in
    let h = subst (λ z. c.is_flagged-flag.result ≡ is_flagged m c.args.parts.now i (drop (i + 1) bs) (drop (i + 1) z)) c.as_slice.ensures.value c.is_flagged-flag.ensures in
    record {
      long = length-set fs i c.is_flagged-flag.result ∙ c.loop-step.invariant.long;
      from = λ v e. next_flags m c.args.parts.now bs fs i v c.is_flagged-flag.result c.loop-step.invariant.long small (omega (arith, e)) h (c.loop-step.invariant.from (i + 1) (omega (arith, c.loop-step-test.true)));
    }

pub returns-clause-told : goal.returns-clause-told
returns-clause-told c s e o v l =
    let bs = c.args.bounds.now in
    let fs = c.loop-step.flags.items in
    let f : fs ≡ flags (length bs) c.args.parts.now 0 bs = c.loop-step.invariant.from 0 (omega (arith, c.loop-step-test.false, c.loop-step.auto.step-end)) in
    let g : flags (width s) c.args.parts.now 0 s.vars ≡ fs = ap (λ (z : List Bound). flags (length z) c.args.parts.now 0 z) e ∙ sym f in
    subst (λ z. IsTrue (get_or z v false) ↔ Occurs s v c.args.parts.now) g (told s o c.args.parts.now v l)
