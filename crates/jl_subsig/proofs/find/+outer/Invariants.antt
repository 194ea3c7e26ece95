use Rattle.std.proofs.Common.{◌≡◌, map, drop}
use Rattle.jl_model.specs.Found.{find_outer, first}
use Rattle.jl_subsig.specs.Side.{held}
use Rattle.jl_subsig.proofs.find.+outer.Given as goal

abbrev pub invariant-first_outer-loop-i : goal.invariant-first_outer-loop-i
invariant-first_outer-loop-i l = first (map (find_outer (held l.left l.row) l.variable) l.patterns) l.types ≡ first (map (find_outer (held l.left l.row) l.variable) (drop l.i l.patterns)) (drop l.i l.types)
