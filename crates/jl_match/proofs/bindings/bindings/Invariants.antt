use Rattle.std.proofs.Common.{◌≡◌, ◌++◌, drop}
use Rattle.jl_model.specs.Ancestors.{table_of}
use Rattle.jl_model.specs.AllRows.{each_var}
use Rattle.jl_model.specs.Bindings.{binding, bindings}
use Rattle.jl_match.proofs.bindings.bindings.Given as goal

abbrev pub invariant-loop-variable : goal.invariant-loop-variable
invariant-loop-variable l = (l.found.items ++ each_var (binding (table_of l.table) l.written l.types) l.variable (drop l.variable l.written.vars)) ≡ bindings (table_of l.table) l.written l.types
