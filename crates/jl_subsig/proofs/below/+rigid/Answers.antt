use Rattle.std.proofs.Common.{◌≡◌, refl, true, drop, [], arith}
use Rattle.std.proofs.lemmas.List.{drop_all}
use Rattle.jl_model.specs.Ancestors.{table_of}
use Rattle.jl_model.specs.Subtype.{Below}
use Rattle.jl_model.specs.Signature.{Both, both_end}
use Rattle.jl_types.proofs.GroundLemmas.{both_long, both_at, size-union, size-tuple, size-at}
use Rattle.jl_subsig.specs.Side.{held}
use Rattle.jl_subsig.proofs.BelowLemmas.{plain-at, item-at, plain_item, plain_rigid, union_plain, tuple_plain, tuple_items, union_step, tuple_step, no_tuple_step, default_step}
use Rattle.jl_subsig.proofs.below.+rigid.Goals as goal

pub are_rigid_below-is_rigid_below-requires : goal.are_rigid_below-is_rigid_below-requires
are_rigid_below-is_rigid_below-requires t c =
    let s = size-at c.args.types.now c.loop-ty.ty-index c.ty-item.result c.loop-ty-test.true c.ty-item.is in
    let p = plain-at c.args.table.now c.args.types.now c.loop-ty.ty-index c.ty-item.result c.requires.types c.loop-ty-test.true c.ty-item.is in
    (omega arith, (c.requires.held, (plain_item c.args.table.now c.ty-item.result p, (plain_rigid c.args.table.now c.ty-item.result p, c.requires.upper))))

pub are_rigid_parts_below-returns-then-parts-uppers : goal.are_rigid_parts_below-returns-then-parts-uppers
are_rigid_parts_below-returns-then-parts-uppers t c =
    ((λ h. cc), (λ b. let l = both_long (Below (table_of c.args.table.now) (held c.args.left.now c.args.row.now)) c.args.parts.now c.args.uppers.now b in absurd (c.if-parts-uppers.true l)))

pub are_rigid_parts_below-is_rigid_below-requires : goal.are_rigid_parts_below-is_rigid_below-requires
are_rigid_parts_below-is_rigid_below-requires t c =
    let s = size-at c.args.parts.now c.loop-i.i c.index-parts-i.result c.loop-i-test.true c.index-parts-i.is in
    let s2 = size-at c.args.uppers.now c.loop-i.i c.index-uppers-i.result (omega arith) c.index-uppers-i.is in
    let p = plain-at c.args.table.now c.args.parts.now c.loop-i.i c.index-parts-i.result c.requires.parts c.loop-i-test.true c.index-parts-i.is in (
      omega arith,
      (
        c.requires.held,
        (
          plain_item c.args.table.now c.index-parts-i.result p,
          (plain_rigid c.args.table.now c.index-parts-i.result p, item-at c.args.table.now c.args.uppers.now c.loop-i.i c.index-uppers-i.result c.requires.uppers (omega arith) c.index-uppers-i.is),
        ),
      ),
    )

pub are_rigid_parts_below-returns-then-not-is_rigid_below : goal.are_rigid_parts_below-returns-then-not-is_rigid_below
are_rigid_parts_below-returns-then-not-is_rigid_below t c = (
  (λ h. cc),
  (λ b.
      let k = (both_at (Below (table_of c.args.table.now) (held c.args.left.now c.args.row.now)) c.args.parts.now c.args.uppers.now c.loop-i.i c.index-parts-i.result c.index-uppers-i.result c.loop-i-test.true (omega arith) c.index-parts-i.is
      c.index-uppers-i.is).0 (c.loop-i.invariant.rest b) in
      let r : c.is_rigid_below.result ≡ true = c.is_rigid_below.ensures.1 k.0 in cc),
)

pub are_rigid_parts_below-loop-i-preserved : goal.are_rigid_parts_below-loop-i-preserved
are_rigid_parts_below-loop-i-preserved t c =
    let k = both_at (Below (table_of c.args.table.now) (held c.args.left.now c.args.row.now)) c.args.parts.now c.args.uppers.now c.loop-i.i c.index-parts-i.result c.index-uppers-i.result c.loop-i-test.true (omega arith) c.index-parts-i.is
    c.index-uppers-i.is in
    record {
      whole = λ b. c.loop-i.invariant.whole (k.1 (c.is_rigid_below.ensures.0 c.if-not-is_rigid_below.false, b));
      rest = λ b. (k.0 (c.loop-i.invariant.rest b)).1;
    }

pub are_rigid_parts_below-returns : goal.are_rigid_parts_below-returns
are_rigid_parts_below-returns t c =
    let dx : drop c.loop-i.i c.args.parts.now ≡ [] = drop_all c.loop-i.i c.args.parts.now c.loop-i-test.false in
    let dy : drop c.loop-i.i c.args.uppers.now ≡ [] = drop_all c.loop-i.i c.args.uppers.now (omega arith) in
    let all : Both (Below (table_of c.args.table.now) (held c.args.left.now c.args.row.now)) (drop c.loop-i.i c.args.parts.now) (drop c.loop-i.i c.args.uppers.now) = rw (dx, dy) both_end in
    ((λ h. c.loop-i.invariant.whole all), (λ b. refl))

pub is_rigid_below-are_rigid_below-requires : goal.is_rigid_below-are_rigid_below-requires
is_rigid_below-are_rigid_below-requires t c =
    let s = size-union c.args.ty.now c.in-Union.members c.as_slice.result.now c.in-Union.is c.as_slice.ensures in
    (omega arith, (c.requires.held, (union_plain c.args.table.now c.args.ty.now c.in-Union.members c.as_slice.result.now c.in-Union.is c.as_slice.ensures c.requires.ty, c.requires.upper)))

pub is_rigid_below-are_rigid_parts_below-requires : goal.is_rigid_below-are_rigid_parts_below-requires
is_rigid_below-are_rigid_parts_below-requires t c =
    let s = size-tuple c.args.ty.now c.in-Tuple-ty.parts c.as_slice-in-Tuple-ty.result.now c.in-Tuple-ty.is c.as_slice-in-Tuple-ty.ensures in
    let s2 = size-tuple c.args.upper.now c.in-Tuple.uppers c.as_slice-in-Tuple-ty-2.result.now c.in-Tuple.is c.as_slice-in-Tuple-ty-2.ensures in (
      omega arith,
      (
        c.requires.held,
        (
          tuple_plain c.args.table.now c.args.ty.now c.in-Tuple-ty.parts c.as_slice-in-Tuple-ty.result.now c.in-Tuple-ty.is c.as_slice-in-Tuple-ty.ensures c.requires.ty c.requires.rigid,
          tuple_items c.args.table.now c.args.upper.now c.in-Tuple.uppers c.as_slice-in-Tuple-ty-2.result.now c.in-Tuple.is c.as_slice-in-Tuple-ty-2.ensures c.requires.upper,
        ),
      ),
    )

pub is_rigid_below-returns-in-Union : goal.is_rigid_below-returns-in-Union
is_rigid_below-returns-in-Union t c =
    union_step c.args.table.now c.valid.ensures c.args.left.now c.args.row.now c.requires.held c.args.ty.now c.args.upper.now c.in-Union.members c.as_slice.result.now c.are_rigid_below.result c.in-Union.is c.as_slice.ensures c.are_rigid_below.ensures

pub is_rigid_below-returns-in-Tuple-ty : goal.is_rigid_below-returns-in-Tuple-ty
is_rigid_below-returns-in-Tuple-ty t c =
    tuple_step c.args.table.now c.valid.ensures c.args.left.now c.args.row.now c.requires.held c.args.ty.now c.args.upper.now c.in-Tuple-ty.parts c.in-Tuple.uppers c.as_slice-in-Tuple-ty.result.now c.as_slice-in-Tuple-ty-2.result.now
    c.are_rigid_parts_below.result c.in-Tuple-ty.is c.in-Tuple.is c.as_slice-in-Tuple-ty.ensures c.as_slice-in-Tuple-ty-2.ensures
    (tuple_items c.args.table.now c.args.ty.now c.in-Tuple-ty.parts c.as_slice-in-Tuple-ty.result.now c.in-Tuple-ty.is c.as_slice-in-Tuple-ty.ensures c.requires.ty)
    (tuple_items c.args.table.now c.args.upper.now c.in-Tuple.uppers c.as_slice-in-Tuple-ty-2.result.now c.in-Tuple.is c.as_slice-in-Tuple-ty-2.ensures c.requires.upper) c.are_rigid_parts_below.ensures

pub is_rigid_below-returns-in_default-ty : goal.is_rigid_below-returns-in_default-ty
is_rigid_below-returns-in_default-ty t c =
    no_tuple_step c.args.table.now c.valid.ensures c.args.left.now c.args.row.now c.requires.held c.args.ty.now c.args.upper.now c.in-Tuple.uppers c.requires.ty c.requires.rigid c.in-Tuple.is c.requires.upper c.in_default-ty.not-Union c.in_default-ty.not-Tuple

pub is_rigid_below-returns-in_default : goal.is_rigid_below-returns-in_default
is_rigid_below-returns-in_default t c =
    default_step c.args.table.now c.valid.ensures c.args.left.now c.args.row.now c.requires.held c.args.ty.now c.args.upper.now c.ground_sub.result c.requires.rigid c.requires.upper c.in_default.not-Var c.in_default.not-Tuple c.ground_sub.ensures
