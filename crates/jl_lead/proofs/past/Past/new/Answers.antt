use Rattle.jl_lead.proofs.KnownFacts.{new_known}
use Rattle.jl_lead.proofs.past.Past.new.Goals as goal

pub invariant_of-result : goal.invariant_of-result
invariant_of-result c = new_known c.args.ready.now c.in_ok-changes.changes c.new.result.items c.new-2.result.items c.in_ok-changes.ensures c.new.ensures.items c.new-2.ensures.items
