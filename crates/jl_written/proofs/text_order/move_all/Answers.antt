use Rattle.std.proofs.Common.{◌∙◌, sym, ap, ◌≤◌, arith, le_refl, min}
use Rattle.jl_written.proofs.OrderLemmas.{at_start, move_step, move_end}
use Rattle.jl_written.proofs.text_order.move_all.Goals as goal

pub loop-at-init : goal.loop-at-init
loop-at-init c = (sym (at_start c.args.swap.now 0 c.args.places.now.items), le_refl c.args.swap.now.start)

pub loop-at-preserved : goal.loop-at-preserved
loop-at-preserved c =
    let stop = c.min-stop.ensures ∙ ap (λ n. min c.args.swap.now.stop n) (c.len.ensures ∙ c.args.places.now.ok.0) in
    move_step c.args.swap.now c.args.places.now.items c.loop-at.places.items c.loop-at.at c.index.result.now c.place_after.result c.min-stop.result
    c.loop-at.invariant c.loop-at-test.true stop c.index.ensures c.place_after.ensures

pub returns : goal.returns
returns c =
    let past = c.loop-at-test.false in
    let l : c.min-stop.result ≤ c.loop-at.at = omega (arith, past) in
    let stop = c.min-stop.ensures ∙ ap (λ n. min c.args.swap.now.stop n) (c.len.ensures ∙ c.args.places.now.ok.0) in
    move_end c.args.swap.now c.args.places.now.items c.loop-at.places.items c.loop-at.at c.min-stop.result c.loop-at.invariant l stop
