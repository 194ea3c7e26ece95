use Rattle.std.proofs.Common.{◌≡◌, ◌++◌, drop}
use Rattle.jl_model.specs.AllRows.{each_var, slot}
use Rattle.jl_sig.specs.Built.{picked}
use Rattle.jl_sig.proofs.rows.slots.Given as goal

abbrev pub invariant-loop-variable : goal.invariant-loop-variable
invariant-loop-variable l = (l.lists.items ++ each_var (slot l.written (picked l.picks) l.row) l.variable (drop l.variable l.written.vars)) ≡ each_var (slot l.written (picked l.picks) l.row) 0 l.written.vars
