use Rattle.std.proofs.Common.{◌≡◌, ◌++◌, map, drop}
use Rattle.jl_model.specs.Rows.{kind}
use Rattle.jl_model.specs.AllRows.{each_var}
use Rattle.jl_sig.specs.KindIn.{kind_in}
use Rattle.jl_sig.proofs.variables.kinds.Given as goal

abbrev pub invariant-loop-variable : goal.invariant-loop-variable
invariant-loop-variable l = (map kind_in l.kinds.items ++ each_var (kind l.written) l.variable (drop l.variable l.written.vars)) ≡ each_var (kind l.written) 0 l.written.vars
