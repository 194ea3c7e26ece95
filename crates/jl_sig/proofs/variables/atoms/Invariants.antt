use Rattle.std.proofs.Common.{◌≡◌, ◌++◌, drop}
use Rattle.jl_model.specs.Rows.{atoms}
use Rattle.jl_sig.proofs.variables.atoms.Given as goal

abbrev pub invariant-loop-i : goal.invariant-loop-i
invariant-loop-i l = (l.atoms.items ++ atoms l.written l.variable l.i (drop l.i l.alternatives)) ≡ atoms l.written l.variable 0 l.alternatives
