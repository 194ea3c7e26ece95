use Rattle.std.proofs.Common.{drop}
use Rattle.jl_model.specs.Kept.{field_types}
use Rattle.jl_model.specs.Refusals.{AllWithinLimits}
use Rattle.jl_norm.proofs.sizes.are_fields_within.Given as goal

abbrev pub invariant-loop-field : goal.invariant-loop-field
invariant-loop-field l = record {
  whole : AllWithinLimits (field_types (drop l.field-index l.fields)) → AllWithinLimits (field_types l.fields);
  rest : AllWithinLimits (field_types l.fields) → AllWithinLimits (field_types (drop l.field-index l.fields));
}
