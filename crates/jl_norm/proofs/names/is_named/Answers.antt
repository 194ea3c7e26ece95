use Rattle.std.proofs.Common.{◌∙◌}
use Rattle.std.proofs.lemmas.Slice.Eq.{slice_eq-Decides}
use Rattle.std.proofs.lemmas.Bool.Decides.{Decides-eqb, not_from_Decides}
use Rattle.jl_model.specs.declared.ty.Field.{Field}
use Rattle.jl_norm.proofs.NameLemmas.{passed}
use Rattle.jl_norm.proofs.names.is_named.Goals as goal

pub loop-field-preserved : goal.loop-field-preserved
loop-field-preserved c =
    let other = not_from_Decides c.eq.result (slice_eq-Decides Decides-eqb c.as_slice.result.now c.args.name.now c.eq.result c.eq.ensures) c.if-eq.false in
    λ h. passed (λ (f : Field). f.name) c.args.fields.now c.loop-field.field-index c.field-item.result c.args.name.now c.loop-field-test.true c.field-item.is (λ e. other (c.as_slice.ensures ∙ e)) (c.loop-field.invariant h)
