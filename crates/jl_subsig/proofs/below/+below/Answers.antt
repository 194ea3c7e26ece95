use Rattle.std.proofs.Common.{◌≡◌, ◌∙◌, ap, subst, refl, true, drop, List, [], arith, length, get_or, ◌<◌, ◌≤◌}
use Rattle.std.proofs.lemmas.List.{drop_all}
use Rattle.jl_model.specs.declared.ty.Ty.TheViews as V
use Rattle.jl_model.specs.declared.ty.Bound.{Bound}
use Rattle.jl_model.specs.Ancestors.{table_of}
use Rattle.jl_model.specs.Rows.{free}
use Rattle.jl_model.specs.Subtype.{Below}
use Rattle.jl_model.specs.Signature.{Both, both_end}
use Rattle.jl_types.proofs.GroundLemmas.{both_long, both_at, size-tuple, size-at}
use Rattle.jl_subsig.specs.Side.{held}
use Rattle.jl_subsig.proofs.BelowLemmas.{plain-at, item-at, single-at, plain_item, union_plain, tuple_items, other_rigid, low_plain, variable_case, tuple_case, tuple_any, tuple_union, tuple_tuple, tuple_nominal, tuple_low, tuple_no_low}
use Rattle.jl_subsig.proofs.RankLemmas.{union_rank, var_rank, tuple_rank, plain_rank, member_rank, single_rank}
use Rattle.jl_subsig.proofs.SomeLemmas.{any-at}
use Rattle.jl_subsig.proofs.below.+below.Goals as goal

pub are_below-returns-then-parts-uppers : goal.are_below-returns-then-parts-uppers
are_below-returns-then-parts-uppers t c =
    ((λ h. cc), (λ b. let l = both_long (Below (table_of c.args.table.now) (held c.args.left.now c.args.row.now)) c.args.parts.now c.args.uppers.now b in absurd (c.if-parts-uppers.true l)))

pub are_below-is_below-requires : goal.are_below-is_below-requires
are_below-is_below-requires t c =
    let s = size-at c.args.parts.now c.loop-i.i c.index-parts-i.result c.loop-i-test.true c.index-parts-i.is in (
      omega arith,
      (
        c.requires.held,
        (
          item-at c.args.table.now c.args.parts.now c.loop-i.i c.index-parts-i.result c.requires.parts c.loop-i-test.true c.index-parts-i.is,
          item-at c.args.table.now c.args.uppers.now c.loop-i.i c.index-uppers-i.result c.requires.uppers (omega arith) c.index-uppers-i.is,
        ),
      ),
    )

pub are_below-returns-then-not-is_below : goal.are_below-returns-then-not-is_below
are_below-returns-then-not-is_below t c = (
  (λ h. cc),
  (λ b.
      let k = (both_at (Below (table_of c.args.table.now) (held c.args.left.now c.args.row.now)) c.args.parts.now c.args.uppers.now c.loop-i.i c.index-parts-i.result c.index-uppers-i.result c.loop-i-test.true (omega arith) c.index-parts-i.is
      c.index-uppers-i.is).0 (c.loop-i.invariant.rest b) in
      let r : c.is_below.result ≡ true = c.is_below.ensures.1 k.0 in cc),
)

pub are_below-loop-i-preserved : goal.are_below-loop-i-preserved
are_below-loop-i-preserved t c =
    let k = both_at (Below (table_of c.args.table.now) (held c.args.left.now c.args.row.now)) c.args.parts.now c.args.uppers.now c.loop-i.i c.index-parts-i.result c.index-uppers-i.result c.loop-i-test.true (omega arith) c.index-parts-i.is
    c.index-uppers-i.is in
    record {
      whole = λ b. c.loop-i.invariant.whole (k.1 (c.is_below.ensures.0 c.if-not-is_below.false, b));
      rest = λ b. (k.0 (c.loop-i.invariant.rest b)).1;
    }

pub are_below-returns : goal.are_below-returns
are_below-returns t c =
    let dx : drop c.loop-i.i c.args.parts.now ≡ [] = drop_all c.loop-i.i c.args.parts.now c.loop-i-test.false in
    let dy : drop c.loop-i.i c.args.uppers.now ≡ [] = drop_all c.loop-i.i c.args.uppers.now (omega arith) in
    let all : Both (Below (table_of c.args.table.now) (held c.args.left.now c.args.row.now)) (drop c.loop-i.i c.args.parts.now) (drop c.loop-i.i c.args.uppers.now) = rw (dx, dy) both_end in
    ((λ h. c.loop-i.invariant.whole all), (λ b. refl))

pub is_below-is_tuple_below-requires : goal.is_below-is_tuple_below-requires
is_below-is_tuple_below-requires t c =
    let s = size-tuple c.args.ty.now c.in-Tuple.parts c.as_slice.result.now c.in-Tuple.is c.as_slice.ensures in
    let k = plain_rank c.args.upper.now in
    (omega arith, (c.requires.held, (tuple_items c.args.table.now c.args.ty.now c.in-Tuple.parts c.as_slice.result.now c.in-Tuple.is c.as_slice.ensures c.requires.ty, c.requires.upper)))

pub is_below-is_rigid_below-requires : goal.is_below-is_rigid_below-requires
is_below-is_rigid_below-requires t c = record { held = c.requires.held; ty = c.requires.ty; rigid = other_rigid c.args.table.now c.args.ty.now c.requires.ty c.in_default.not-Var c.in_default.not-Tuple; upper = c.requires.upper }

pub is_tuple_below-is_tuple_below_some-requires : goal.is_tuple_below-is_tuple_below_some-requires
is_tuple_below-is_tuple_below_some-requires t c =
    let k = union_rank c.args.upper.now c.in-Union.uppers c.in-Union.is in
    (omega arith, (c.requires.held, (c.requires.parts, union_plain c.args.table.now c.args.upper.now c.in-Union.uppers c.as_slice.result.now c.in-Union.is c.as_slice.ensures c.requires.upper)))

pub is_tuple_below-are_below-requires : goal.is_tuple_below-are_below-requires
is_tuple_below-are_below-requires t c =
    let k = tuple_rank c.args.upper.now c.in-Tuple.uppers c.in-Tuple.is in
    (omega arith, (c.requires.held, (c.requires.parts, tuple_items c.args.table.now c.args.upper.now c.in-Tuple.uppers c.as_slice-in-Tuple.result.now c.in-Tuple.is c.as_slice-in-Tuple.ensures c.requires.upper)))

pub is_tuple_below-is_tuple_below-requires : goal.is_tuple_below-is_tuple_below-requires
is_tuple_below-is_tuple_below-requires t c =
    let l = subst (λ z. c.in-Var.number < length z) c.bounds.ensures c.in-Some.ensures.0 in
    let e = c.in-Some.ensures.1 ∙ ap (λ (z : List Bound). (get_or z c.in-Var.number free).low) c.bounds.ensures in
    let p = low_plain c.args.table.now c.valid.ensures c.args.left.now c.args.row.now c.requires.held c.in-Some.low.now c.in-Var.number l e in
    let k = var_rank c.args.upper.now c.in-Var.number c.in-Var.is in
    let j = member_rank c.in-Some.low.now p.closed in
    (omega arith, (c.requires.held, (c.requires.parts, plain_item c.args.table.now c.in-Some.low.now p)))

pub is_tuple_below-returns-in-Any : goal.is_tuple_below-returns-in-Any
is_tuple_below-returns-in-Any t c = tuple_any c.args.table.now c.valid.ensures c.args.left.now c.args.row.now c.requires.held c.args.parts.now c.requires.parts c.args.upper.now c.in-Any.is

pub is_tuple_below-returns-in-Union : goal.is_tuple_below-returns-in-Union
is_tuple_below-returns-in-Union t c =
    tuple_union c.args.table.now c.valid.ensures c.args.left.now c.args.row.now c.requires.held c.args.parts.now c.requires.parts c.args.upper.now c.in-Union.uppers c.as_slice.result.now c.is_tuple_below_some.result c.in-Union.is
    c.as_slice.ensures c.is_tuple_below_some.ensures

pub is_tuple_below-returns-in-Tuple : goal.is_tuple_below-returns-in-Tuple
is_tuple_below-returns-in-Tuple t c =
    tuple_tuple c.args.table.now c.valid.ensures c.args.left.now c.args.row.now c.requires.held c.args.parts.now c.requires.parts c.args.upper.now c.in-Tuple.uppers c.as_slice-in-Tuple.result.now c.are_below.result c.in-Tuple.is
    c.as_slice-in-Tuple.ensures (tuple_items c.args.table.now c.args.upper.now c.in-Tuple.uppers c.as_slice-in-Tuple.result.now c.in-Tuple.is c.as_slice-in-Tuple.ensures c.requires.upper) c.are_below.ensures

pub is_tuple_below-returns-in-Nominal : goal.is_tuple_below-returns-in-Nominal
is_tuple_below-returns-in-Nominal t c =
    tuple_nominal c.args.table.now c.valid.ensures c.args.left.now c.args.row.now c.requires.held c.args.parts.now c.requires.parts c.args.upper.now c.in-Nominal.field-0 c.in-Nominal.field-1 c.in-Nominal.is

pub is_tuple_below-returns-in-Some : goal.is_tuple_below-returns-in-Some
is_tuple_below-returns-in-Some t c =
    let l = subst (λ z. c.in-Var.number < length z) c.bounds.ensures c.in-Some.ensures.0 in
    let e = c.in-Some.ensures.1 ∙ ap (λ (z : List Bound). (get_or z c.in-Var.number free).low) c.bounds.ensures in
    tuple_low c.args.table.now c.valid.ensures c.args.left.now c.args.row.now c.requires.held c.args.parts.now c.requires.parts c.args.upper.now c.in-Some.low.now c.in-Var.number c.is_tuple_below.result c.in-Var.is l e c.is_tuple_below.ensures

pub is_tuple_below-returns-in-None : goal.is_tuple_below-returns-in-None
is_tuple_below-returns-in-None t c =
    let l = subst (λ z. length z ≤ c.in-Var.number) c.bounds.ensures c.in-None.ensures in
    tuple_no_low c.args.table.now c.valid.ensures c.args.left.now c.args.row.now c.requires.held c.args.parts.now c.requires.parts c.args.upper.now c.in-Var.number c.in-Var.is l

pub is_below-returns-in-Var : goal.is_below-returns-in-Var
is_below-returns-in-Var t c =
    variable_case c.args.table.now c.args.left.now c.args.row.now c.args.ty.now c.args.upper.now c.in-Var.number c.is_variable_below.result c.in-Var.is c.is_variable_below.ensures

pub is_below-returns-in-Tuple : goal.is_below-returns-in-Tuple
is_below-returns-in-Tuple t c =
    tuple_case c.args.table.now c.args.left.now c.args.row.now c.args.ty.now c.args.upper.now c.in-Tuple.parts c.as_slice.result.now c.is_tuple_below.result c.in-Tuple.is c.as_slice.ensures c.is_tuple_below.ensures

pub is_tuple_below_some-is_tuple_below-requires : goal.is_tuple_below_some-is_tuple_below-requires
is_tuple_below_some-is_tuple_below-requires t c =
    let i = item-at c.args.table.now c.args.uppers.now c.loop-upper.upper-index c.upper-item.result c.requires.uppers.singles c.loop-upper-test.true c.upper-item.is in
    let p = plain-at c.args.table.now c.args.uppers.now c.loop-upper.upper-index c.upper-item.result c.requires.uppers c.loop-upper-test.true c.upper-item.is in
    let k = single_rank c.upper-item.result (single-at c.args.uppers.now c.loop-upper.upper-index c.upper-item.result c.requires.uppers.singles.single c.loop-upper-test.true c.upper-item.is) p.closed in
    (omega arith, (c.requires.held, (c.requires.parts, i)))

pub is_tuple_below_some-returns-then-is_tuple_below : goal.is_tuple_below_some-returns-then-is_tuple_below
is_tuple_below_some-returns-then-is_tuple_below t c = (
  (λ h. any-at (λ u. Below (table_of c.args.table.now) (held c.args.left.now c.args.row.now) (V.Tuple c.args.parts.now) u) c.args.uppers.now c.loop-upper.upper-index c.upper-item.result (c.is_tuple_below.ensures.0 c.if-is_tuple_below.true)
      c.loop-upper-test.true c.upper-item.is),
  (λ b. refl),
)
