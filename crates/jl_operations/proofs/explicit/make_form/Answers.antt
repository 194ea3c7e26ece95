use Rattle.std.proofs.Common.{◌∙◌, sym, ap, subst, IsTrue, length, Err}
use Rattle.jl_model.specs.Ancestors.{table_of}
use Rattle.jl_model.specs.Normal.{IsNormalForm}
use Rattle.jl_model.specs.Valid.{is_known}
use Rattle.jl_program.specs.Scope.{all_types}
use Rattle.jl_types.specs.Form.{IsTooLarge}
use Rattle.jl_operations.proofs.FormLemmas.{form_struct, form_told, form_limit}
use Rattle.jl_operations.proofs.explicit.make_form.Goals as goal

pub norm-requires : goal.norm-requires
norm-requires c = subst (λ z. IsTrue (is_known (length z) c.args.ty.now)) (sym c.table.ensures) c.requires.ty.known

pub make_struct-requires-clause-struct_type : goal.make_struct-requires-clause-struct_type
make_struct-requires-clause-struct_type c =
    form_struct (all_types c.args.ready.now) c.valid.ensures.decls c.args.ty.now c.in-Ok.form c.requires.ty (subst (λ z. IsNormalForm (table_of z) c.args.ty.now c.in-Ok.form) c.table.ensures c.in-Ok.ensures.form)
    (subst (λ z. IsTrue (is_known (length z) c.in-Ok.form)) c.table.ensures c.in-Ok.ensures.known) c.in-Ok.ensures.closed c.in-Ok.ensures.counted c.in-Ok.ensures.fits

pub returns-in-Ok-clause-answer : goal.returns-in-Ok-clause-answer
returns-in-Ok-clause-answer c =
    form_told (all_types c.args.ready.now) c.valid.ensures.decls c.args.ty.now c.in-Ok.form c.args.values.now c.make_struct.result c.in-Ok.ensures.within
    (subst (λ z. IsNormalForm (table_of z) c.args.ty.now c.in-Ok.form) c.table.ensures c.in-Ok.ensures.form) c.in-Ok.ensures.small
    (subst (λ z. IsTrue (is_known (length z) c.in-Ok.form)) c.table.ensures c.in-Ok.ensures.known) c.make_struct.ensures.answer

pub returns-in-Ok-clause-valid : goal.returns-in-Ok-clause-valid
returns-in-Ok-clause-valid c = c.make_struct.ensures.valid

pub returns-in-Err-TypeLimit-clause-answer : goal.returns-in-Err-TypeLimit-clause-answer
returns-in-Err-TypeLimit-clause-answer c =
    form_limit (all_types c.args.ready.now) c.valid.ensures.decls c.args.ty.now c.args.values.now
    (subst (λ z. IsTooLarge z c.args.ty.now) c.table.ensures (c.norm.ensures.limit (c.in-Err-TypeLimit.is ∙ ap (λ z. Err z) c.in-Err-TypeLimit.field-0-is)))
