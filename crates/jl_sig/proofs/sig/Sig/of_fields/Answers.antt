use Rattle.std.proofs.Common.{◌∙◌, sym, ap, subst, Err}
use Rattle.jl_model.specs.SigRefusals.{TypeLimit, BoundsCrossed}
use Rattle.jl_sig.specs.Prepared.{IsWellPlaced}
use Rattle.jl_sig.proofs.FieldLemmas.{fields_placed, fields_ordered}
use Rattle.jl_sig.proofs.SigLemmas.{in_order}
use Rattle.jl_sig.proofs.sig.Sig.of_fields.Goals as goal

pub prepare-requires : goal.prepare-requires
prepare-requires c = subst (IsWellPlaced c.args.table.now) (sym c.in_ok-written.ensures) (fields_placed c.args.table.now c.valid.ensures c.args.name c.requires)

pub returns-in-Ok-clause-kept : goal.returns-in-Ok-clause-kept
returns-in-Ok-clause-kept c =
    let ds = c.args.table.now in
    in_order ds c.in_ok-written.written c.in-Ok.prepared c.in-Ok.ensures.kept (subst (λ s. BoundsCrossed ds s → ⊥) (sym c.in_ok-written.ensures) (fields_ordered ds c.valid.ensures c.args.name))

pub returns-in-Ok-clause-small : goal.returns-in-Ok-clause-small
returns-in-Ok-clause-small c = subst (λ s. TypeLimit c.args.table.now s → ⊥) c.in_ok-written.ensures c.in-Ok.ensures.kept.small

pub returns-in-Err-TypeLimit-clause-refused : goal.returns-in-Err-TypeLimit-clause-refused
returns-in-Err-TypeLimit-clause-refused c =
    subst (TypeLimit c.args.table.now) c.in_ok-written.ensures (c.prepare.ensures.limit (c.in-Err-TypeLimit.is ∙ ap (λ z. Err z) c.in-Err-TypeLimit.field-0-is))
