use Rattle.std.proofs.Common.{◌≡◌, ◌++◌}
use Rattle.jl_print.specs.Printed.{argument_terminals, variable_terminals}
use Rattle.jl_print.proofs.PrintedRest.{rest}
use Rattle.jl_print.proofs.print_types.+types.Given as goal

abbrev pub invariant-put_arguments-loop-i : goal.invariant-put_arguments-loop-i
invariant-put_arguments-loop-i l = l.out ++ rest argument_terminals l.arguments l.i ≡ l.initial.out ++ rest argument_terminals l.arguments 0

abbrev pub invariant-put_variables-loop-i : goal.invariant-put_variables-loop-i
invariant-put_variables-loop-i l = l.out ++ rest variable_terminals l.variables l.i ≡ l.initial.out ++ rest variable_terminals l.variables 0
