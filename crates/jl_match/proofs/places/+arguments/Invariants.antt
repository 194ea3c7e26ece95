use Rattle.std.proofs.Common.{◌≡◌, drop}
use Rattle.std.specs.List.{list_all}
use Rattle.jl_model.specs.SigRefusals.{is_argument}
use Rattle.jl_match.proofs.places.+arguments.Given as goal

abbrev pub invariant-are_arguments-loop-ty : goal.invariant-are_arguments-loop-ty
invariant-are_arguments-loop-ty l = list_all is_argument l.types ≡ list_all is_argument (drop l.ty-index l.types)
