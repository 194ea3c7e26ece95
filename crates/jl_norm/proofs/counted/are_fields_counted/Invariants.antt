use Rattle.std.proofs.Common.{◌≡◌, ◌++◌, ◌∷◌, [], drop}
use Rattle.std.specs.List.{list_all}
use Rattle.jl_model.specs.Valid.{is_counted}
use Rattle.jl_model.specs.Kept.{field_types}
use Rattle.jl_norm.proofs.counted.are_fields_counted.Given as goal

abbrev pub invariant-loop-field : goal.invariant-loop-field
invariant-loop-field l = list_all (is_counted (l.table ++ l.decl ∷ [])) (field_types l.fields) ≡ list_all (is_counted (l.table ++ l.decl ∷ [])) (field_types (drop l.field-index l.fields))
