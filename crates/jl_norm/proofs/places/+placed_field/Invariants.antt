use Rattle.std.proofs.Common.{◌≡◌, drop}
use Rattle.std.specs.List.{list_all}
use Rattle.jl_model.specs.Refusals.{is_placed_field}
use Rattle.jl_norm.proofs.places.+placed_field.Given as goal

abbrev pub invariant-are_field_parts_placed-loop-ty : goal.invariant-are_field_parts_placed-loop-ty
invariant-are_field_parts_placed-loop-ty l = list_all (is_placed_field l.own) l.types ≡ list_all (is_placed_field l.own) (drop l.ty-index l.types)
