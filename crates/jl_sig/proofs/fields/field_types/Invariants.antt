use Rattle.std.proofs.Common.{◌≡◌, ◌++◌, drop}
use Rattle.jl_model.specs.Kept.{field_types}
use Rattle.jl_sig.proofs.fields.field_types.Given as goal

abbrev pub invariant-loop-field : goal.invariant-loop-field
invariant-loop-field l = (l.types.items ++ field_types (drop l.field-index l.fields)) ≡ field_types l.fields
