use Rattle.std.proofs.Common.{◌≡◌, ◌++◌, drop}
use Rattle.jl_model.specs.AllRows.{each_var}
use Rattle.jl_sig.specs.Built.{place_in}
use Rattle.jl_sig.proofs.variables.places.Given as goal

abbrev pub invariant-loop-variable : goal.invariant-loop-variable
invariant-loop-variable l = (l.places.items ++ each_var (place_in l.written l.picks) l.variable (drop l.variable l.written.vars)) ≡ each_var (place_in l.written l.picks) 0 l.written.vars
