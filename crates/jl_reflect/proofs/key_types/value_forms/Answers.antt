use Rattle.std.proofs.Common.{◌+◌, sym, subst}
use Rattle.jl_reflect.specs.Asked.{IsValueForm, AreKeyTypes}
use Rattle.jl_reflect.proofs.FormLemmas.{AreFirst, found_some, found_none, part_missing, one_more, all_forms}
use Rattle.jl_reflect.proofs.key_types.value_forms.Goals as goal

pub returns-in_default : goal.returns-in_default
returns-in_default c =
    let ds = c.args.table.now in
    let part = c.part-item.result in
    λ us h. part_missing ds c.args.parts.now us h.each c.loop-part.part-index part c.loop-part-test.true (sym c.part-item.is) (found_none (IsValueForm ds part) c.in_ok-form.field-0 c.in_default.is c.in_ok-form.ensures)

pub loop-part-preserved : goal.loop-part-preserved
loop-part-preserved c =
    let ds = c.args.table.now in
    let ts = c.args.parts.now in
    let i = c.loop-part.part-index in
    let part = c.part-item.result in
    let form = c.in-Some.form in
    subst (λ forms. AreFirst ds ts forms (i + 1)) (sym c.in_ok-push.ensures)
    (one_more ds ts c.loop-part.forms i part form c.loop-part-test.true (sym c.part-item.is) (found_some (IsValueForm ds part) c.in_ok-form.field-0 form c.in-Some.is c.in_ok-form.ensures) c.loop-part.invariant)

pub returns : goal.returns
returns c =
    let ds = c.args.table.now in
    let ts = c.args.parts.now in
    subst (AreKeyTypes ds ts) (sym c.in_ok-types.ensures) (record {
      few = c.if-parts-gt-MOST_ARGUMENTS.false;
      each = all_forms ds ts c.loop-part.forms c.loop-part.part-index c.loop-part-test.false c.loop-part.invariant;
    })
