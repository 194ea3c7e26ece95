use Rattle.jl_judge.proofs.JudgedLemmas.{as_form, forms_below}
use Rattle.jl_judge.proofs.order.is_below.Goals as goal

pub returns : goal.returns
returns c =
    let ds = c.args.table.now in
    let low = as_form ds c.args.low.now c.in_ok-lower.field-0 c.in-Some.lower c.in_ok-lower.ensures c.in-Some.is in
    let high = as_form ds c.args.high.now c.in_ok-upper.field-0 c.in-Some-2.upper c.in_ok-upper.ensures c.in-Some-2.is in
    forms_below ds c.args.low.now c.in-Some.lower c.args.high.now c.in-Some-2.upper c.ground_sub.result c.valid.ensures low high c.ground_sub.ensures
