use Rattle.std.proofs.Common.{arith}
use Rattle.jl_lead.proofs.Whole.{some_tasks}
use Rattle.jl_lead.proofs.led.Led.new.Goals as goal

pub invariant_of-result : goal.invariant_of-result
invariant_of-result c =
    let p = c.args.past in
    record { placed = record { started = some_tasks p.1; seen_some = (let e = c.len-seen.ensures in omega (arith, e)) }; left = λ l. c.len-seen.ensures }
