use Rattle.std.proofs.Common.{sym, subst, take, ◌+◌}
use Rattle.jl_core.specs.Flags.{IsOfFunction, AreFlags}
use Rattle.jl_core.proofs.PickedLemmas.{flags_more}
use Rattle.jl_core.proofs.standing.function_flags.Goals as goal

pub loop-change-preserved : goal.loop-change-preserved
loop-change-preserved c =
    subst (AreFlags (IsOfFunction c.args.program.now c.args.function) (take (c.loop-change.change-index + 1) c.args.made.now)) (sym c.in_ok-push.ensures.items)
    (flags_more (IsOfFunction c.args.program.now c.args.function) c.args.made.now c.loop-change.change-index _ c.loop-change.flags.items c.is_of_function.result c.loop-change.invariant c.loop-change-test.true c.is_of_function.ensures)
