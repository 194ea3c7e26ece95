use Rattle.std.proofs.Common.{◌-◌, ◌<◌, arith, false, get_or, length, []}
use Rattle.jl_model.specs.Ancestors.{table_of}
use Rattle.jl_model.specs.Rows.{width}
use Rattle.jl_model.specs.Subtype.{opaque}
use Rattle.jl_search.proofs.WalkLemmas.{walk_step}
use Rattle.jl_match.specs.KeptRow.{row_of}
use Rattle.jl_match.proofs.HitSteps.{hit_is, hit_plain, walked_before, walked_after}
use Rattle.jl_match.proofs.hits.hits_of.Goals as goal

pub above_bound-requires-clause-hit : goal.above_bound-requires-clause-hit
above_bound-requires-clause-hit c =
    let m = length c.args.diagonals.now in
    let v = m - 1 - c.loop-step.step in
    let n = table_of c.args.table.now in
    let s = c.args.signature.now in
    let r = row_of c.args.parts.now [] in
    let w = walked_before n s r c.args.types.now m c.loop-step.step c.loop-step.hits.items c.loop-step.above.items c.loop-step-test.true c.loop-step.invariant in
    let l : v < width s = omega (arith, c.loop-step-test.true, c.requires.diagonals.long) in
    hit_plain c.args.table.now c.valid.ensures s r c.args.types.now c.loop-step.hits.items c.loop-step.above.items c.requires.types v c.in_ok-hit.hit (get_or c.args.diagonals.now v false)
    c.as_slice-found.result.now c.as_slice-found.ensures.value w (c.requires.diagonals.kinds v l) c.in_ok-hit.ensures

pub loop-step-preserved : goal.loop-step-preserved
loop-step-preserved c =
    let m = length c.args.diagonals.now in
    let v = m - 1 - c.loop-step.step in
    let n = table_of c.args.table.now in
    let s = c.args.signature.now in
    let r = row_of c.args.parts.now [] in
    let w = walked_before n s r c.args.types.now m c.loop-step.step c.loop-step.hits.items c.loop-step.above.items c.loop-step-test.true c.loop-step.invariant in
    let l : v < width s = omega (arith, c.loop-step-test.true, c.requires.diagonals.long) in
    let e = hit_is c.args.table.now c.valid.ensures s r c.args.types.now c.loop-step.hits.items c.loop-step.above.items c.requires.types v c.in_ok-hit.hit (get_or c.args.diagonals.now v false)
    c.as_slice-found.result.now c.as_slice-found.ensures.value w (c.requires.diagonals.kinds v l) c.in_ok-hit.ensures in
    walked_after n s r c.args.types.now m c.loop-step.step _ _ (walk_step n opaque s r c.args.types.now v c.loop-step.hits.items c.loop-step.above.items c.in_ok-hit.hit c.in_ok-below.below l w e c.in_ok-below.ensures)
