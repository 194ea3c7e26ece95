use Rattle.std.proofs.Common.{◌∙◌, ap, Err}
use Rattle.jl_causes.proofs.KeptLemmas.{no_of, normal_by, large_not_normal}
use Rattle.jl_causes.proofs.key_types.is_normal.Goals as goal

pub returns-in-Ok : goal.returns-in-Ok
returns-in-Ok c = normal_by c.args.table.now c.valid.ensures c.args.ty.now c.in-Ok.form c.same.result c.in-Ok.ensures.form c.same.ensures

pub returns-in-Err-TypeLimit : goal.returns-in-Err-TypeLimit
returns-in-Err-TypeLimit c =
    no_of (large_not_normal c.args.table.now c.args.ty.now c.requires.small (c.norm.ensures.limit (c.in-Err-TypeLimit.is ∙ ap (λ z. Err z) c.in-Err-TypeLimit.field-0-is)))
