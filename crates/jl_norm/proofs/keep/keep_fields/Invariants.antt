use Rattle.std.proofs.Common.{◌≡◌, ◌++◌, drop, map, List}
use Rattle.jl_model.specs.declared.ty.Field.{Field}
use Rattle.jl_model.specs.declared.ty.Decl.{Decl}
use Rattle.jl_model.specs.Kept.{AllSettled, field_types}
use Rattle.jl_model.specs.Refusals.{table_with}
use Rattle.jl_norm.proofs.keep.keep_fields.Given as goal

abbrev pub invariant-loop-field : goal.invariant-loop-field
invariant-loop-field l = record {
  names : (gs : List Field) → map (λ f. f.name) gs ≡ map (λ f. f.name) (drop l.field-index l.fields) → map (λ f. f.name) (l.kept.items ++ gs) ≡ map (λ f. f.name) l.fields;
  types : (d : Decl) (gs : List Field) → AllSettled (table_with l.table d) (field_types (drop l.field-index l.fields)) (field_types gs) → AllSettled (table_with l.table d) (field_types l.fields) (field_types (l.kept.items ++ gs));
}
