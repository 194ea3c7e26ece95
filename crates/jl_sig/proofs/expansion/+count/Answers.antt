use Rattle.std.proofs.Common.{refl, arith, length, min, map}
use Rattle.jl_model.specs.Rows.{choices, forms}
use Rattle.jl_sig.specs.Built.{placed}
use Rattle.jl_sig.proofs.ExpansionLemmas.{any_count, nominal_count, union_count, tuple_count, var_count, product_step, sum-suc}
use Rattle.jl_sig.proofs.expansion.+count.Goals as goal

pub count_forms-returns-in-Any : goal.count_forms-returns-in-Any
count_forms-returns-in-Any t c = any_count (placed c.args.places.now) c.args.ty.now c.in-Any.is

pub count_forms-returns-in-Union : goal.count_forms-returns-in-Union
count_forms-returns-in-Union t c = union_count (placed c.args.places.now) c.args.ty.now c.in-Union.members c.as_slice.result.now c.sum_of_forms.result c.in-Union.is c.as_slice.ensures c.sum_of_forms.ensures

pub count_forms-returns-in-Tuple : goal.count_forms-returns-in-Tuple
count_forms-returns-in-Tuple t c = tuple_count (placed c.args.places.now) c.args.ty.now c.in-Tuple.parts c.as_slice-in-Tuple.result.now c.product_of_forms.result c.in-Tuple.is c.as_slice-in-Tuple.ensures c.product_of_forms.ensures

pub count_forms-returns-in-Nominal : goal.count_forms-returns-in-Nominal
count_forms-returns-in-Nominal t c = nominal_count (placed c.args.places.now) c.args.ty.now c.in-Nominal.field-0 c.in-Nominal.field-1 c.in-Nominal.is

pub count_forms-returns-in-Var : goal.count_forms-returns-in-Var
count_forms-returns-in-Var t c = var_count (placed c.args.places.now) c.args.ty.now c.in-Var.variable c.min.result (length c.place_of.result.now) c.place_of.result.now c.in-Var.is c.place_of.ensures refl c.min.ensures

pub product_of_forms-loop-ty-preserved : goal.product_of_forms-loop-ty-preserved
product_of_forms-loop-ty-preserved t c = record {
  range = omega (arith, c.min-count.ensures);
  rest = product_step (placed c.args.places.now) c.args.types.now c.loop-ty.ty-index c.ty-item.result c.loop-ty.count c.count_forms.result c.min-count.result (min (length (choices (map (forms (placed c.args.places.now)) c.args.types.now))) 257) c.loop-ty-test.true c.ty-item.is c.count_forms.ensures c.min-count.ensures c.loop-ty.invariant.rest;
}

pub sum_of_forms-loop-ty-preserved : goal.sum_of_forms-loop-ty-preserved
sum_of_forms-loop-ty-preserved t c =
    let s = sum-suc (placed c.args.places.now) c.args.types.now c.loop-ty.ty-index c.ty-item.result c.loop-ty-test.true c.ty-item.is in
    record {
      range = omega (arith, c.min-sum.ensures);
      rest = omega (arith, s, c.min-sum.ensures, c.count_forms.ensures, c.loop-ty.invariant.rest);
    }
