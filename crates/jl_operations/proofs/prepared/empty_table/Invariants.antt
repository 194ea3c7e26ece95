use Rattle.jl_operations.specs.Memo.{NonePrepared}
use Rattle.jl_operations.proofs.prepared.empty_table.Given as goal

abbrev pub invariant-loop : goal.invariant-loop
invariant-loop l = NonePrepared l.table.items
