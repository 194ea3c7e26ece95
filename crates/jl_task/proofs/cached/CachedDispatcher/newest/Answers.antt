use Rattle.jl_task.proofs.NumberLemmas.{remembered_more}
use Rattle.jl_task.proofs.cached.CachedDispatcher.newest.Goals as goal

pub invariant_of-self : goal.invariant_of-self
invariant_of-self g c = remembered_more _ _ c.self.inside.table.items c.self.inside.numbers.items c.newest.ensures.grew c.self.invariant
