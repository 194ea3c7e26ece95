use Rattle.std.proofs.Common.{◌≡◌, drop}
use Rattle.std.specs.List.{list_all}
use Rattle.jl_model.specs.Refusals.{is_placed_field}
use Rattle.jl_model.specs.Kept.{field_types}
use Rattle.jl_norm.proofs.places.are_fields_placed.Given as goal

abbrev pub invariant-loop-field : goal.invariant-loop-field
invariant-loop-field l = list_all (is_placed_field l.own) (field_types l.fields) ≡ list_all (is_placed_field l.own) (field_types (drop l.field-index l.fields))
