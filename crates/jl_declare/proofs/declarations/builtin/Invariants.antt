use Rattle.std.proofs.Common.{◌≡◌, ◌++◌, drop}
use Rattle.jl_declare.proofs.declarations.builtin.Given as goal

abbrev pub invariant-loop-number : goal.invariant-loop-number
invariant-loop-number l = (l.decls ++ drop l.number l.table) ≡ l.table
