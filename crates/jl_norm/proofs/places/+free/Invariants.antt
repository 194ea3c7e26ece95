use Rattle.std.proofs.Common.{◌≡◌, drop}
use Rattle.std.specs.List.{list_all}
use Rattle.jl_model.specs.Refusals.{is_free_of}
use Rattle.jl_norm.proofs.places.+free.Given as goal

abbrev pub invariant-are_free-loop-ty : goal.invariant-are_free-loop-ty
invariant-are_free-loop-ty l = list_all (is_free_of l.own) l.types ≡ list_all (is_free_of l.own) (drop l.ty-index l.types)
