use Rattle.std.proofs.Common.{◌≡◌, ◌∙◌, ap, arith, length}
use Rattle.jl_model.specs.Rows.{width}
use Rattle.jl_sig.specs.SigParts.{kept_of}
use Rattle.jl_subsig.proofs.ValueSteps.{hits_long, fill_on, filled_found}
use Rattle.jl_subsig.proofs.values.values_in_bounds.Goals as goal

pub fill-requires-clause-few : goal.fill-requires-clause-few
fill-requires-clause-few c =
    let e : length c.as_slice.result.now ≡ length c.loop-hit.values.items = ap length c.as_slice.ensures.value in
    let k : length c.as_slice-hit-items.result.now ≡ width (kept_of c.args.right.now) = hits_long c.args.table.now c.valid.ensures c.args.left.now c.args.row.now c.requires.left c.args.right.now c.args.other.now c.requires.right c.as_slice-hit-items.result.now (c.as_slice-hit-items.ensures.value ∙ c.in_ok-hits.ensures) in
    let i = c.loop-hit.invariant.long in
    let l = c.loop-hit-test.true in omega (arith, e, k, i, l)

pub loop-hit-preserved : goal.loop-hit-preserved
loop-hit-preserved c = record {
  so_far = fill_on c.args.table.now c.valid.ensures c.args.left.now c.args.row.now c.requires.left c.args.right.now c.args.other.now c.requires.right c.loop-hit.values.items c.as_slice.result.now c.push.new.self.items c.as_slice-hit-items.result.now c.loop-hit.hit-index c.hit-item.result c.in_ok-value.value c.loop-hit.invariant.long
      c.loop-hit-test.true c.hit-item.is c.as_slice.ensures.value c.in_ok-value.ensures c.in_ok-push.ensures.items c.loop-hit.invariant.so_far;
  long = grind (arith, c.in_ok-push.ensures.items, c.loop-hit.invariant.long);
}

pub returns-clause-long : goal.returns-clause-long
returns-clause-long c =
    let k : length c.as_slice-hit-items.result.now ≡ width (kept_of c.args.right.now) = hits_long c.args.table.now c.valid.ensures c.args.left.now c.args.row.now c.requires.left c.args.right.now c.args.other.now c.requires.right c.as_slice-hit-items.result.now (c.as_slice-hit-items.ensures.value ∙ c.in_ok-hits.ensures) in
    let i = c.loop-hit.invariant.long in
    let l = c.loop-hit-test.false in
    let m = c.loop-hit.auto.hit-index-end in omega (arith, k, i, l, m)

pub returns-clause-found : goal.returns-clause-found
returns-clause-found c =
    let i = c.loop-hit.invariant.long in
    let l = c.loop-hit-test.false in
    filled_found c.args.table.now c.valid.ensures c.args.left.now c.args.row.now c.requires.left c.args.right.now c.args.other.now c.requires.right c.loop-hit.values.items c.as_slice-hit-items.result.now (c.as_slice-hit-items.ensures.value ∙ c.in_ok-hits.ensures) (omega (arith, i, l)) c.loop-hit.invariant.so_far
