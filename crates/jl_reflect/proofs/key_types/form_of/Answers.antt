use Rattle.jl_reflect.proofs.FormLemmas.{valid_form}
use Rattle.jl_reflect.proofs.key_types.form_of.Goals as goal

pub returns-in-Ok-clause-valid : goal.returns-in-Ok-clause-valid
returns-in-Ok-clause-valid c =
    valid_form c.args.table.now c.args.ty.now c.in-Ok.form c.are_counted.result c.from_ref.result.now c.from_ref.ensures.value c.are_counted.ensures c.if-not-are_counted.false c.in-Ok.ensures.known (c.in-Ok.ensures.counted c.args.table.now)
