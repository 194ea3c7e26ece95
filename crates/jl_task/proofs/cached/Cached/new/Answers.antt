use Rattle.jl_task.proofs.NumberLemmas.{nothing_remembered}
use Rattle.jl_task.proofs.cached.Cached.new.Goals as goal

pub invariant_of-result : goal.invariant_of-result
invariant_of-result g c = nothing_remembered _ _ _ c.in_ok-table.ensures c.in_ok-numbers.ensures
