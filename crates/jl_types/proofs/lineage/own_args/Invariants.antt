use Rattle.std.proofs.Common.{◌≡◌, ◌++◌, drop}
use Rattle.jl_model.specs.Ancestors.{vars_from}
use Rattle.jl_types.proofs.lineage.own_args.Given as goal

abbrev pub invariant-loop-i : goal.invariant-loop-i
invariant-loop-i l = (l.items.items ++ vars_from l.i (drop l.i l.params)) ≡ vars_from 0 l.params
