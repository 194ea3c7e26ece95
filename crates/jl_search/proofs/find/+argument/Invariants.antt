use Rattle.std.proofs.Common.{◌≡◌, map, drop}
use Rattle.jl_model.specs.Found.{find_arg, first}
use Rattle.jl_search.proofs.find.+argument.Given as goal

abbrev pub invariant-first_argument-loop-i : goal.invariant-first_argument-loop-i
invariant-first_argument-loop-i l = first (map (find_arg l.variable) l.patterns) l.types ≡ first (map (find_arg l.variable) (drop l.i l.patterns)) (drop l.i l.types)
