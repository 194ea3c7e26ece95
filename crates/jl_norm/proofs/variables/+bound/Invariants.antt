use Rattle.std.proofs.Common.{◌≡◌, drop}
use Rattle.std.specs.List.{list_all}
use Rattle.jl_norm.specs.Variables.{has_variables_below}
use Rattle.jl_norm.proofs.variables.+bound.Given as goal

abbrev pub invariant-have_variables_below-loop-ty : goal.invariant-have_variables_below-loop-ty
invariant-have_variables_below-loop-ty l = list_all (has_variables_below l.count) l.types ≡ list_all (has_variables_below l.count) (drop l.ty-index l.types)
