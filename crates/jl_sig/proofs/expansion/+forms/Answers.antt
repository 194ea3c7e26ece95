use Rattle.std.proofs.Common.{◌∙◌, ◌+◌, ◌++◌, sym, ap, refl}
use Rattle.std.specs.List.{flat_map}
use Rattle.jl_model.specs.Rows.{forms}
use Rattle.jl_types.proofs.ExpandLemmas.{flat_step}
use Rattle.jl_sig.specs.Built.{placed}
use Rattle.jl_sig.proofs.ExpansionLemmas.{union_forms, tuple_forms, no_forms, var_forms, plain_forms}
use Rattle.jl_sig.proofs.expansion.+forms.Goals as goal

pub forms-returns-then-product_of_forms-eq0 : goal.forms-returns-then-product_of_forms-eq0
forms-returns-then-product_of_forms-eq0 t c =
    no_forms (placed c.args.places.now) c.args.ty.now c.in-Tuple.parts c.as_slice-then-have_two_counts.result.now c.new.result.items c.product_of_forms.result c.in-Tuple.is c.as_slice-then-have_two_counts.ensures c.product_of_forms.ensures c.if-product_of_forms-eq0.true c.new.ensures.items

pub forms-returns-in_ok-push-in_default : goal.forms-returns-in_ok-push-in_default
forms-returns-in_ok-push-in_default t c =
    rw (c.in_ok-push-in_default.ensures.items, c.new-one.ensures.items, c.in_ok-copy-in_default.ensures) (sym (plain_forms (placed c.args.places.now) c.args.ty.now c.in_default.not-Union c.in_default.not-Tuple c.in_default.not-Var))

pub forms_of_all-loop-ty-preserved : goal.forms_of_all-loop-ty-preserved
forms_of_all-loop-ty-preserved t c =
    let f = forms (placed c.args.places.now) in
    flat_step f c.args.types.now c.loop-ty.ty-index (c.loop-ty.ty-index + 1) c.ty-item.result c.loop-ty.all.items c.push_copies.new.types.items (flat_map f c.args.types.now) c.loop-ty.invariant c.loop-ty-test.true c.ty-item.is
    (c.in_ok-push_copies.ensures ∙ ap (λ z. c.loop-ty.all.items ++ z) (c.as_slice.ensures.value ∙ c.in_ok-more.ensures)) refl

pub forms-returns-in_ok-all-in-Union : goal.forms-returns-in_ok-all-in-Union
forms-returns-in_ok-all-in-Union t c =
    union_forms (placed c.args.places.now) c.args.ty.now c.in-Union.members c.as_slice.result.now c.in_ok-all-in-Union.all.items c.in-Union.is c.as_slice.ensures c.in_ok-all-in-Union.ensures

pub forms-returns-in_ok-all-in-Tuple : goal.forms-returns-in_ok-all-in-Tuple
forms-returns-in_ok-all-in-Tuple t c =
    tuple_forms (placed c.args.places.now) c.args.ty.now c.in-Tuple.parts c.as_slice-in-Tuple-2.result.now c.in_ok-all-in-Tuple.all.items c.as_slice-in-Tuple-3.result.now c.as_slice-in-Tuple-4.result.now c.in-Tuple.is
    c.as_slice-in-Tuple-2.ensures (c.as_slice-in-Tuple-3.ensures.value ∙ c.in_ok-lists-in-Tuple.ensures) (c.as_slice-in-Tuple-4.ensures.value ∙ c.in_ok-rows-in-Tuple.ensures) c.in_ok-all-in-Tuple.ensures

pub forms-returns-in_ok-push_copies-in-Var : goal.forms-returns-in_ok-push_copies-in-Var
forms-returns-in_ok-push_copies-in-Var t c =
    var_forms (placed c.args.places.now) c.args.ty.now c.in-Var.variable c.place_of.result.now c.push_copies.new.types.items c.in-Var.is c.place_of.ensures
    (c.in_ok-push_copies-in-Var.ensures ∙ ap (λ z. z ++ c.place_of.result.now) c.new-place.ensures.items)
