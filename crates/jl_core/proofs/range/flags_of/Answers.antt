use Rattle.std.proofs.Common.{sym, subst, take, ◌+◌}
use Rattle.jl_core.specs.Flags.{IsTouching, AreFlags}
use Rattle.jl_core.proofs.PickedLemmas.{flags_more}
use Rattle.jl_core.proofs.range.flags_of.Goals as goal

pub loop-change-preserved : goal.loop-change-preserved
loop-change-preserved c =
    subst (AreFlags (IsTouching c.args.ready.now c.args.key.now) (take (c.loop-change.change-index + 1) c.args.made.now)) (sym c.in_ok-push.ensures.items)
    (flags_more (IsTouching c.args.ready.now c.args.key.now) c.args.made.now c.loop-change.change-index _ c.loop-change.flags.items c.in_ok-touches.field-0 c.loop-change.invariant c.loop-change-test.true c.in_ok-touches.ensures)
