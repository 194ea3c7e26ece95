use Rattle.std.proofs.Common.{◌≡◌, ◌∙◌, ◌+◌, sym, ap, subst, length, Err}
use Rattle.std.proofs.lemmas.List.{drop_all}
use Rattle.std.proofs.lemmas.Result.{err_from_is_err_and}
use Rattle.jl_types.specs.declared.normal_form.NormFault.TheVariants.{TypeLimit}
use Rattle.jl_model.specs.Valid.{is_known}
use Rattle.jl_model.specs.Kept.{field_types, AllSettled}
use Rattle.jl_model.specs.Refusals.{is_placed_field, table_with}
use Rattle.jl_norm.proofs.KeepSteps.{field_at, names_step, types_step, fields_done, field_large}
use Rattle.jl_norm.proofs.keep.keep_fields.Goals as goal

pub settled-requires-clause-known : goal.settled-requires-clause-known
settled-requires-clause-known c = field_at (is_known (length c.args.table.now + 1)) c.args.fields.now c.loop-field.field-index c.field-item.result c.loop-field-test.true c.field-item.is c.requires.types_known

pub settled-requires-clause-placed : goal.settled-requires-clause-placed
settled-requires-clause-placed c = field_at (is_placed_field (length c.args.table.now)) c.args.fields.now c.loop-field.field-index c.field-item.result c.loop-field-test.true c.field-item.is c.requires.types_placed

pub returns-in_err-ty-clause-limit : goal.returns-in_err-ty-clause-limit
returns-in_err-ty-clause-limit c = λ e.
    let p = err_from_is_err_and c.from_residual-in_err-ty.result c.from_residual-in_err-ty.ensures.1 in
    let f : Err p.0 ≡ Err TypeLimit = sym p.1 ∙ e in
    let g : p.0 ≡ TypeLimit = cc in
    let w : c.settled.result ≡ Err TypeLimit = c.in_err-ty.was ∙ ap (λ z. Err z) (sym p.2 ∙ g) in
    field_large c.args.table.now c.args.fields.now c.loop-field.field-index c.field-item.result c.loop-field-test.true c.field-item.is (c.settled.ensures.limit w)

pub loop-field-preserved : goal.loop-field-preserved
loop-field-preserved c =
    let f = c.field-item.result in
    let i = c.loop-field.field-index in
    record {
      names = λ gs r.
          names_step c.args.fields.now i f (record { name = c.in_ok-name.name; ty = c.in_ok-ty.ty }) c.loop-field.kept.items c.push_field.new.fields.items c.loop-field-test.true c.field-item.is c.in_ok-name.ensures c.in_ok-push_field.ensures
          c.loop-field.invariant.names gs r;
      types = λ d gs r.
          types_step (table_with c.args.table.now d) c.args.fields.now i f (record { name = c.in_ok-name.name; ty = c.in_ok-ty.ty }) c.loop-field.kept.items c.push_field.new.fields.items c.loop-field-test.true c.field-item.is
          (c.in_ok-ty.ensures.kept d) c.in_ok-push_field.ensures (c.loop-field.invariant.types d) gs r;
    }

pub returns-clause-kept : goal.returns-clause-kept
returns-clause-kept c = λ d.
    let n = table_with c.args.table.now d in
    subst (λ z. AllSettled n (field_types c.args.fields.now) (field_types z)) (sym c.in_ok-from_vec.ensures)
    (fields_done n c.args.fields.now c.loop-field.kept.items c.loop-field.field-index (drop_all c.loop-field.field-index c.args.fields.now c.loop-field-test.false) (c.loop-field.invariant.types d))
