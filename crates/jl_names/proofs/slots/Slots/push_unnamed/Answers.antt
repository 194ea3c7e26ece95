use Rattle.jl_names.proofs.NumberLemmas.{unnamed_push}
use Rattle.jl_names.proofs.slots.Slots.push_unnamed.Goals as goal

pub invariant_of-self-2 : goal.invariant_of-self-2
invariant_of-self-2 c = unnamed_push c.self.inside.numbers c.self.inside.names.items c.push.new.self.items c.self.invariant c.in_ok-push.ensures.items
