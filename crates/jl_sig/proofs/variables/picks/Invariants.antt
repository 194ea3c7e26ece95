use Rattle.std.proofs.Common.{◌≡◌, length}
use Rattle.jl_model.specs.Ancestors.{table_of}
use Rattle.jl_sig.specs.Built.{ArePicked}
use Rattle.jl_sig.proofs.variables.picks.Given as goal

abbrev pub invariant-loop-variable : goal.invariant-loop-variable
invariant-loop-variable l = record {
  many : length l.picks.items ≡ l.variable;
  picked : ArePicked (table_of l.table) l.written l.variable l.picks.items;
}
