use Rattle.std.proofs.Common.{◌≡◌, drop}
use Rattle.std.specs.List.{list_all}
use Rattle.jl_search.specs.Absent.{lacks}
use Rattle.jl_search.proofs.occurs.+lacks.Given as goal

abbrev pub invariant-all_lack-loop-ty : goal.invariant-all_lack-loop-ty
invariant-all_lack-loop-ty l = list_all (lacks l.width l.variable) l.types ≡ list_all (lacks l.width l.variable) (drop l.ty-index l.types)
