use Rattle.std.proofs.Common.{◌≡◌, drop}
use Rattle.std.specs.List.{list_all}
use Rattle.jl_model.specs.Valid.{is_known}
use Rattle.jl_model.specs.Kept.{field_types}
use Rattle.jl_norm.proofs.known.are_fields_known.Given as goal

abbrev pub invariant-loop-field : goal.invariant-loop-field
invariant-loop-field l = list_all (is_known l.count) (field_types l.fields) ≡ list_all (is_known l.count) (field_types (drop l.field-index l.fields))
