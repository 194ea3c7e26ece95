use Rattle.std.proofs.Common.{◌≡◌, drop}
use Rattle.std.specs.List.{list_all}
use Rattle.jl_model.specs.Refusals.{is_placed}
use Rattle.jl_norm.proofs.places.+placed.Given as goal

abbrev pub invariant-are_placed-loop-ty : goal.invariant-are_placed-loop-ty
invariant-are_placed-loop-ty l = list_all (is_placed l.own) l.types ≡ list_all (is_placed l.own) (drop l.ty-index l.types)
