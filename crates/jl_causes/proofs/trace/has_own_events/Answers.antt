use Rattle.std.proofs.Common.{◌≡◌, arith, get_or, rules, sym}
use Rattle.jl_calculus.specs.Past.{own_events}
use Rattle.jl_report.specs.declared.entry.Step.TheVariants as S
use Rattle.jl_causes.proofs.TruthLemmas.{own_goal, own_step}
use Rattle.jl_causes.proofs.trace.has_own_events.Goals as goal

pub returns : goal.returns
returns c = λ es calls output t.
    own_goal c.own-own.result.now c.args.trace.now c.loop-step.next c.loop-step.step-index (own_events c.args.task 0 es) (omega (arith, c.loop-step-test.false)) c.loop-step.invariant.within c.loop-step.invariant.rest (c.own-own.ensures es t)

pub loop-step-preserved : goal.loop-step-preserved
loop-step-preserved c =
    let alike : get_or c.own-own.result.now c.loop-step.next (S.Look 0 0) ≡ get_or c.args.trace.now c.loop-step.step-index (S.Look 0 0) = search rules in
    own_step c.own-own.result.now c.args.trace.now c.loop-step.next c.loop-step.step-index _ _ c.if-next-own.false c.loop-step-test.true (sym (c.if-not-is_own.ensures)) alike c.loop-step.invariant.rest
