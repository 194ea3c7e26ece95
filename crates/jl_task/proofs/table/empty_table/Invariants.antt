use Rattle.jl_task.specs.Kept.{NoneKept}
use Rattle.jl_task.proofs.table.empty_table.Given as goal

abbrev pub invariant-loop : goal.invariant-loop
invariant-loop l = NoneKept l.table.items
