use Rattle.std.proofs.Common.{◌≡◌, ◌∙◌, sym, ap, ◌*◌, ◌+◌, min, max, drop, arith}
use Rattle.jl_model.specs.Counts.{product, greatest, raw}
use Rattle.jl_types.proofs.RawLemmas.{counts, widths, counts-suc, widths-suc, cap-product}
use Rattle.jl_types.proofs.raw.+raw.Goals as goal

pub product_within-loop-part-preserved : goal.product_within-loop-part-preserved
product_within-loop-part-preserved t c =
    let ts = c.args.parts.now in
    let i = c.loop-part.part-index in
    let p = c.part-item.result in
    let s = counts-suc ts i p c.loop-part-test.true c.part-item.is in
    let w = widths-suc ts i p c.loop-part-test.true c.part-item.is in
    let e = c.in_ok-alternatives_within.ensures in
    let rest = product (counts (drop (i + 1) ts)) in
    let n : c.min-count.result ≡ min (c.loop-part.count * (raw p).count) 257 = c.min-count.ensures ∙ ap (λ z. min (c.loop-part.count * z) 257) e.1 in
    let h : min (c.loop-part.count * ((raw p).count * rest)) 257 ≡ min (product (counts ts)) 257 = ap (λ z. min (c.loop-part.count * product z) 257) (sym s) ∙ c.loop-part.invariant.rest in
    let g : greatest (widths (drop i ts)) ≡ max (raw p).widest (greatest (widths (drop (i + 1) ts))) = ap greatest w in
    record {
      range = omega (arith, c.min-count.ensures);
      rest = cap-product c.loop-part.count (raw p).count c.min-count.result rest (min (product (counts ts)) 257) n h;
      widest = omega (arith, g, e.0, c.loop-part.invariant.widest);
    }
