use Rattle.std.proofs.Common.{arith, length, min}
use Rattle.jl_model.specs.Rows.{choices}
use Rattle.jl_sig.proofs.ExpansionLemmas.{lists_step}
use Rattle.jl_sig.proofs.expansion.product_of_lengths.Goals as goal

pub loop-list-preserved : goal.loop-list-preserved
loop-list-preserved c = record {
  range = omega (arith, c.min-count.ensures);
  rest = lists_step c.args.lists.now c.loop-list.list-index c.list-item.result c.loop-list.count c.len.result c.min.result c.min-count.result (min (length (choices c.args.lists.now)) 257) c.loop-list-test.true c.list-item.is c.len.ensures c.min.ensures c.min-count.ensures c.loop-list.invariant.rest;
}
