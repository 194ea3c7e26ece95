use Rattle.std.proofs.Common.{◌∙◌, sym, ap}
use Rattle.std.specs.List.{list_all}
use Rattle.jl_model.specs.Refusals.{is_placed, is_placed_field}
use Rattle.jl_norm.proofs.ListLemmas.{either_case}
use Rattle.jl_norm.proofs.PlaceLemmas.{field-any, field-var, field-union, field-tuple, field-nominal}
use Rattle.jl_norm.proofs.places.+placed_field.Goals as goal

pub is_placed_field-returns-in-Any : goal.is_placed_field-returns-in-Any
is_placed_field-returns-in-Any t c = sym (ap (is_placed_field c.args.own) c.in-Any.is ∙ field-any c.args.own)

pub is_placed_field-returns-in-Nominal : goal.is_placed_field-returns-in-Nominal
is_placed_field-returns-in-Nominal t c =
    let m = c.args.own in
    c.are_placed.ensures ∙ ap (list_all (is_placed m)) c.as_slice.ensures ∙ sym (ap (is_placed_field m) c.in-Nominal.is ∙ field-nominal m c.in-Nominal.field-0 c.in-Nominal.parts)

pub is_placed_field-returns-in-Var : goal.is_placed_field-returns-in-Var
is_placed_field-returns-in-Var t c = sym (ap (is_placed_field c.args.own) c.in-Var.is ∙ field-var c.args.own c.in-Var.field-0)

pub is_placed_field-returns-in-Union : goal.is_placed_field-returns-in-Union
is_placed_field-returns-in-Union t c =
    let m = c.args.own in
    either_case (is_placed_field m) (is_placed_field m) (field-union m) (field-tuple m) c.args.ty.now c.in-Union.parts c.as_slice-in-Union.result.now c.are_field_parts_placed.result c.in-Union.is c.as_slice-in-Union.ensures
    c.are_field_parts_placed.ensures
