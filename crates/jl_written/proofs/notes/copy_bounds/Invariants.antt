use Rattle.std.proofs.Common.{◌≡◌, ◌++◌, drop}
use Rattle.jl_written.proofs.notes.copy_bounds.Given as goal

abbrev pub invariant-loop-var : goal.invariant-loop-var
invariant-loop-var l = l.bounds.items ++ drop l.var-index l.vars ≡ l.vars
