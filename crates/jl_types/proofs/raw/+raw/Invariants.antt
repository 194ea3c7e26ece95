use Rattle.std.proofs.Common.{◌≡◌, ◌+◌, ◌*◌, ◌≤◌, min, max, drop}
use Rattle.jl_model.specs.Counts.{total, product, greatest}
use Rattle.jl_types.proofs.RawLemmas.{counts, widths}
use Rattle.jl_types.proofs.raw.+raw.Given as goal

abbrev pub invariant-sum_within-loop-part : goal.invariant-sum_within-loop-part
invariant-sum_within-loop-part l = record {
  range : l.sum ≤ 257;
  rest : min (l.sum + total (counts (drop l.part-index l.parts))) 257 ≡ min (total (counts l.parts)) 257;
  widest : greatest (widths l.parts) ≤ max 256 (greatest (widths (drop l.part-index l.parts)));
}

abbrev pub invariant-product_within-loop-part : goal.invariant-product_within-loop-part
invariant-product_within-loop-part l = record {
  range : l.count ≤ 257;
  rest : min (l.count * product (counts (drop l.part-index l.parts))) 257 ≡ min (product (counts l.parts)) 257;
  widest : greatest (widths l.parts) ≤ max 256 (greatest (widths (drop l.part-index l.parts)));
}
