use Rattle.std.proofs.Common.{rules, ◌≡◌, ◌∙◌, ap, subst, sym, refl, true, drop, [], arith, map, length, get_or, ◌<◌, ◌≤◌}
use Rattle.std.proofs.lemmas.List.{drop_all}
use Rattle.std.proofs.lemmas.Result.{IfOk-weaker}
use Rattle.jl_model.specs.declared.ty.Ty.TheViews as V
use Rattle.jl_model.specs.Signature.{Both, both_end}
use Rattle.jl_model.specs.Subtype.{opaque, put, at, Below}
use Rattle.jl_model.specs.Ancestors.{table_of}
use Rattle.jl_types.proofs.GroundLemmas.{tuple_singles, ground-at, all-at, size-union, size-tuple, size-at}
use Rattle.jl_model.specs.Normal.{is_single}
use Rattle.jl_value.specs.Fields.{IsFieldType}
use Rattle.jl_value.proofs.SettledLemmas.{union_fields, tuple_fields, field_at, argument_ground}
use Rattle.jl_value.proofs.FieldLemmas.{any_case, past_case, union_case, tuple_case, name_case, no_tuple, both_at, both_long, some_at}
use Rattle.jl_value.proofs.field.+field.Goals as goal

pub are_of-returns-then-parts-lowers : goal.are_of-returns-then-parts-lowers
are_of-returns-then-parts-lowers t c =
    ((λ h. cc), (λ b. let l = both_long (Below (table_of c.args.table.now) opaque) (put (at c.args.args.now)) c.args.lowers.now c.args.parts.now b in absurd (c.if-parts-lowers.true (sym l))))

pub are_of-is_of-requires : goal.are_of-is_of-requires
are_of-is_of-requires t c =
    let s = size-at c.args.parts.now c.loop-i.i c.index-parts-i.result c.loop-i-test.true c.index-parts-i.is in
    let lt = c.loop-i-test.true in (
      omega arith,
      (
        ground-at c.args.table.now c.args.lowers.now c.loop-i.i c.index-lowers-i.result c.requires.lowers_ground (omega arith) c.index-lowers-i.is,
        (
          all-at is_single c.args.lowers.now c.loop-i.i c.index-lowers-i.result c.requires.lowers_ground.single (omega arith) c.index-lowers-i.is,
          (field_at c.args.table.now c.args.parts.now c.loop-i.i c.index-parts-i.result c.requires.parts_kept lt c.index-parts-i.is, c.requires.args_ground),
        ),
      ),
    )

pub are_of-returns-then-not-branch : goal.are_of-returns-then-not-branch
are_of-returns-then-not-branch t c = (
  (λ h. cc),
  (λ b.
      let k = (both_at (Below (table_of c.args.table.now) opaque) (put (at c.args.args.now)) c.args.lowers.now c.args.parts.now c.loop-i.i c.index-lowers-i.result c.index-parts-i.result (omega arith) c.loop-i-test.true c.index-lowers-i.is c.index-parts-i.is).0 (c.loop-i.invariant.rest b) in
      let r : c.in_ok-is_of.field-0 ≡ true = c.in_ok-is_of.ensures.1 k.0 in cc),
)

pub are_of-loop-i-preserved : goal.are_of-loop-i-preserved
are_of-loop-i-preserved t c =
    let k = both_at (Below (table_of c.args.table.now) opaque) (put (at c.args.args.now)) c.args.lowers.now c.args.parts.now c.loop-i.i c.index-lowers-i.result c.index-parts-i.result (omega arith) c.loop-i-test.true c.index-lowers-i.is c.index-parts-i.is in
    record {
      whole = λ b. c.loop-i.invariant.whole (k.1 (c.in_ok-is_of.ensures.0 c.if-not-branch.false, b));
      rest = λ b. (k.0 (c.loop-i.invariant.rest b)).1;
    }

pub are_of-returns : goal.are_of-returns
are_of-returns t c =
    let dx : drop c.loop-i.i c.args.parts.now ≡ [] = drop_all c.loop-i.i c.args.parts.now c.loop-i-test.false in
    let dy : drop c.loop-i.i c.args.lowers.now ≡ [] = drop_all c.loop-i.i c.args.lowers.now (omega arith) in
    let all : Both (Below (table_of c.args.table.now) opaque) (drop c.loop-i.i c.args.lowers.now) (map (put (at c.args.args.now)) (drop c.loop-i.i c.args.parts.now)) = rw (dx, dy) both_end in
    ((λ h. c.loop-i.invariant.whole all), (λ b. refl))

pub is_of-is_of_some-requires : goal.is_of-is_of_some-requires
is_of-is_of_some-requires t c =
    let s = size-union c.args.field.now c.in-Union.members c.as_slice.result.now c.in-Union.is c.as_slice.ensures in (
      omega arith,
      (
        c.requires.lower_ground,
        (
          c.requires.lower_single,
          (union_fields c.args.table.now c.args.field.now c.in-Union.members c.as_slice.result.now c.in-Union.is c.as_slice.ensures c.requires.field_kept, c.requires.args_ground),
        ),
      ),
    )

pub is_of-are_of-requires : goal.is_of-are_of-requires
is_of-are_of-requires t c =
    let s = size-tuple c.args.field.now c.in-Tuple.parts c.as_slice-in-Tuple-lower-2.result.now c.in-Tuple.is c.as_slice-in-Tuple-lower-2.ensures in (
      omega arith,
      (
        tuple_singles c.args.table.now c.args.lower.now c.in-Tuple-lower.lowers c.as_slice-in-Tuple-lower.result.now c.in-Tuple-lower.is c.as_slice-in-Tuple-lower.ensures c.requires.lower_ground,
        (tuple_fields c.args.table.now c.args.field.now c.in-Tuple.parts c.as_slice-in-Tuple-lower-2.result.now c.in-Tuple.is c.as_slice-in-Tuple-lower-2.ensures c.requires.field_kept, c.requires.args_ground),
      ),
    )

pub is_of-returns-in-Any : goal.is_of-returns-in-Any
is_of-returns-in-Any t c = any_case (table_of c.args.table.now) c.args.lower.now c.args.field.now c.args.args.now c.in-Any.is

pub is_of-returns-in_default : goal.is_of-returns-in_default
is_of-returns-in_default t c = no_tuple c.args.table.now c.args.lower.now c.args.field.now c.in-Tuple.parts c.args.args.now c.in-Tuple.is c.requires.lower_ground c.requires.lower_single c.in_default.not-Tuple

pub is_of_some-is_of-requires : goal.is_of_some-is_of-requires
is_of_some-is_of-requires t c =
    let s = size-at c.args.members.now c.loop-member.member-index c.member-item.result c.loop-member-test.true c.member-item.is in (
      omega arith,
      (
        c.requires.lower_ground,
        (
          c.requires.lower_single,
          (field_at c.args.table.now c.args.members.now c.loop-member.member-index c.member-item.result c.requires.members_kept c.loop-member-test.true c.member-item.is, c.requires.args_ground),
        ),
      ),
    )

pub is_of_some-returns-then-branch : goal.is_of_some-returns-then-branch
is_of_some-returns-then-branch t c =
    ((λ h. some_at (table_of c.args.table.now) c.args.lower.now (put (at c.args.args.now)) c.args.members.now c.loop-member.member-index c.member-item.result (c.in_ok-is_of.ensures.0 c.if-branch.true) c.loop-member-test.true c.member-item.is), (λ b. refl))

pub is_of-ground_sub-requires-clause-b_ground : goal.is_of-ground_sub-requires-clause-b_ground
is_of-ground_sub-requires-clause-b_ground t c =
    let lt : c.in-Var.variable < length c.args.args.now = search rules in
    let e : c.in-Some.argument.now ≡ get_or c.args.args.now c.in-Var.variable c.in-Some.argument.now = search rules in
    argument_ground c.args.table.now c.args.args.now c.in-Var.variable c.in-Some.argument.now c.requires.args_ground lt e

pub is_of-returns-in-None : goal.is_of-returns-in-None
is_of-returns-in-None t c =
    let past : length c.args.args.now ≤ c.in-Var.variable = search rules in
    past_case (table_of c.args.table.now) c.args.lower.now c.args.field.now c.in-Var.variable c.args.args.now c.in-Var.is past

pub is_of-returns-in-Union : goal.is_of-returns-in-Union
is_of-returns-in-Union t c =
    IfOk-weaker c.is_of_some.result _ _
    (λ r. union_case c.args.table.now c.args.lower.now c.args.field.now c.in-Union.members c.as_slice.result.now c.args.args.now r c.in-Union.is c.as_slice.ensures c.requires.lower_ground c.requires.lower_single)
    c.is_of_some.ensures

pub is_of-returns-in-Tuple-lower : goal.is_of-returns-in-Tuple-lower
is_of-returns-in-Tuple-lower t c =
    IfOk-weaker c.are_of.result _ _
    (λ r. tuple_case c.args.table.now c.args.lower.now c.args.field.now c.in-Tuple-lower.lowers c.in-Tuple.parts c.as_slice-in-Tuple-lower-2.result.now c.as_slice-in-Tuple-lower.result.now c.args.args.now r
    c.in-Tuple.is c.in-Tuple-lower.is c.as_slice-in-Tuple-lower-2.ensures c.as_slice-in-Tuple-lower.ensures c.requires.lower_ground c.requires.lower_single
    (tuple_singles c.args.table.now c.args.lower.now c.in-Tuple-lower.lowers c.as_slice-in-Tuple-lower.result.now c.in-Tuple-lower.is c.as_slice-in-Tuple-lower.ensures c.requires.lower_ground))
    c.are_of.ensures

pub is_of-is_of_nominal-requires-clause-field_kept : goal.is_of-is_of_nominal-requires-clause-field_kept
is_of-is_of_nominal-requires-clause-field_kept t c =
    subst (IsFieldType c.args.table.now) (c.in-Nominal.is ∙ ap (λ z. V.Nominal c.in-Nominal.name z) (sym c.as_slice-in-Nominal.ensures)) c.requires.field_kept

pub is_of-returns-in-Nominal : goal.is_of-returns-in-Nominal
is_of-returns-in-Nominal t c =
    IfOk-weaker c.is_of_nominal.result _ _
    (λ r. name_case c.args.table.now c.args.lower.now c.args.field.now c.in-Nominal.name c.in-Nominal.parts c.as_slice-in-Nominal.result.now c.args.args.now r c.in-Nominal.is c.as_slice-in-Nominal.ensures)
    c.is_of_nominal.ensures
