use Rattle.jl_task.specs.Numbers.{NoNumbers}
use Rattle.jl_task.proofs.numbers.no_numbers.Given as goal

abbrev pub invariant-loop : goal.invariant-loop
invariant-loop l = NoNumbers l.numbers.items
