use Rattle.std.proofs.Common.{◌≡◌, drop}
use Rattle.std.specs.List.{list_all}
use Rattle.jl_model.specs.Valid.{is_closed}
use Rattle.jl_types.proofs.closed.+closed.Given as goal

abbrev pub invariant-are_closed-loop-ty : goal.invariant-are_closed-loop-ty
invariant-are_closed-loop-ty l = list_all is_closed l.types ≡ list_all is_closed (drop l.ty-index l.types)
