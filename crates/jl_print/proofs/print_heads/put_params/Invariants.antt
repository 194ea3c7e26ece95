use Rattle.std.proofs.Common.{◌≡◌, ◌++◌}
use Rattle.jl_print.specs.Printed.{param_terminals}
use Rattle.jl_print.proofs.PrintedRest.{rest}
use Rattle.jl_print.proofs.print_heads.put_params.Given as goal

abbrev pub invariant-loop-i : goal.invariant-loop-i
invariant-loop-i l = l.out ++ rest param_terminals l.params l.i ≡ l.initial.out ++ rest param_terminals l.params 0
