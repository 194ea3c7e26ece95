use Rattle.jl_names.proofs.StackLemmas.{popped, popped_bare}
use Rattle.jl_names.proofs.stack.NameStack.pop.Goals as goal

pub invariant_of-self : goal.invariant_of-self
invariant_of-self c =
    popped c.self.inside.names.items c.pop.new.self.items c.in-Some.last c.self.inside.places c.self.invariant c.in-Some.ensures.items
    c.renumber.new.self c.as_slice.result.now c.in-Some-hides.place c.in-Some-hides.is c.as_slice.ensures c.renumber.ensures

pub invariant_of-self-in-Some : goal.invariant_of-self-in-Some
invariant_of-self-in-Some c =
    popped_bare c.self.inside.names.items c.pop.new.self.items c.in-Some.last c.self.inside.places c.self.invariant c.in-Some.ensures.items c.in_default-hides.is
