use Rattle.std.proofs.Common.{ap, length}
use Rattle.jl_subsig.proofs.SideLemmas.{left_parts}
use Rattle.jl_subsig.proofs.ValueSteps.{hit_item, walk_on}
use Rattle.jl_subsig.proofs.values.hits_of.Goals as goal

pub hit_of-requires-clause-types : goal.hit_of-requires-clause-types
hit_of-requires-clause-types c = left_parts c.args.table.now c.valid.ensures c.args.left.now c.args.row.now c.requires.left

pub above_of-requires-clause-hit : goal.above_of-requires-clause-hit
above_of-requires-clause-hit c =
    hit_item c.args.table.now c.valid.ensures c.args.left.now c.args.row.now c.requires.left c.args.right.now c.args.other.now c.requires.right (length c.bounds-width.result.now) c.loop-step.step c.loop-step.hits.items c.loop-step.above.items c.as_slice.result.now c.in_ok-hit.hit c.loop-step-test.true c.loop-step.invariant c.as_slice.ensures.value
    c.in_ok-hit.ensures

pub loop-step-preserved : goal.loop-step-preserved
loop-step-preserved c =
    walk_on c.args.table.now c.valid.ensures c.args.left.now c.args.row.now c.requires.left c.args.right.now c.args.other.now c.requires.right (length c.bounds-width.result.now) c.loop-step.step c.loop-step.hits.items c.loop-step.above.items c.as_slice.result.now c.in_ok-hit.hit c.in_ok-above.field-0 (ap length c.bounds-width.ensures) c.loop-step-test.true
    c.loop-step.invariant c.as_slice.ensures.value c.in_ok-hit.ensures c.in_ok-above.ensures
