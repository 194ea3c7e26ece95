use Rattle.std.proofs.Common.{◌≡◌, drop}
use Rattle.std.specs.List.{list_all}
use Rattle.jl_model.specs.SigRefusals.{is_component}
use Rattle.jl_match.proofs.places.+components.Given as goal

abbrev pub invariant-are_components-loop-ty : goal.invariant-are_components-loop-ty
invariant-are_components-loop-ty l = list_all is_component l.types ≡ list_all is_component (drop l.ty-index l.types)
