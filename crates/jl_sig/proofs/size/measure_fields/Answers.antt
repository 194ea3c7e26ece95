use Rattle.std.proofs.Common.{◌∙◌, sym, ap, subst, Err}
use Rattle.jl_model.specs.SigRefusals.{TypeLimit}
use Rattle.jl_sig.specs.Prepared.{IsWellPlaced}
use Rattle.jl_sig.proofs.FieldLemmas.{fields_placed}
use Rattle.jl_sig.proofs.size.measure_fields.Goals as goal

pub measure-requires : goal.measure-requires
measure-requires c = subst (IsWellPlaced c.args.table.now) (sym c.in_ok-written.ensures) (fields_placed c.args.table.now c.valid.ensures c.args.name c.requires)

pub returns-in-Ok-clause-small : goal.returns-in-Ok-clause-small
returns-in-Ok-clause-small c = subst (λ s. TypeLimit c.args.table.now s → ⊥) c.in_ok-written.ensures c.in-Ok.ensures.small

pub returns-in-Err-TypeLimit-clause-refused : goal.returns-in-Err-TypeLimit-clause-refused
returns-in-Err-TypeLimit-clause-refused c =
    subst (TypeLimit c.args.table.now) c.in_ok-written.ensures (c.measure.ensures.limit (c.in-Err-TypeLimit.is ∙ ap (λ z. Err z) c.in-Err-TypeLimit.field-0-is))
