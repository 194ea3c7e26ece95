use Rattle.std.proofs.Common.{◌≡◌, drop}
use Rattle.std.specs.List.{list_all}
use Rattle.jl_model.specs.Valid.{is_counted}
use Rattle.jl_match.proofs.names.+counted.Given as goal

abbrev pub invariant-are_counted-loop-ty : goal.invariant-are_counted-loop-ty
invariant-are_counted-loop-ty l = list_all (is_counted l.table) l.types ≡ list_all (is_counted l.table) (drop l.ty-index l.types)
