use Rattle.std.proofs.Common.{◌≡◌, ◌%◌, ◌∙◌, sym, ap, refl, true, false, drop, [], arith, length, get_or, Some}
use Rattle.std.proofs.lemmas.List.{drop_all}
use Rattle.jl_model.specs.declared.ty.Ty.TheVariants as W
use Rattle.jl_model.specs.Ancestors.{table_of}
use Rattle.jl_model.specs.Subtype.{opaque, at}
use Rattle.jl_model.specs.Signature.{Both, both_end, Meets}
use Rattle.jl_types.proofs.GroundLemmas.{both_long, both_at, size-tuple, size-at}
use Rattle.jl_match.proofs.TestLemmas.{any_case, tuple_case, no_tuple, no_nominal, same_args, variable_case, part-at, tuple_parts, tuple_ground, ground_at, place_of, root_low, root_below, get-same}
use Rattle.jl_match.proofs.meet.+meet.Goals as goal

pub meet_all-returns-then-parts-types : goal.meet_all-returns-then-parts-types
meet_all-returns-then-parts-types t c =
    let m = Meets (table_of c.args.table.now) opaque c.args.signature.now (at c.args.values.now) in
    ((λ h. cc), (λ b. let l = both_long m c.args.types.now c.args.parts.now b in absurd (c.if-parts-types.true (sym l))))

pub meet_all-meets-requires : goal.meet_all-meets-requires
meet_all-meets-requires t c =
    let s = size-at c.args.parts.now c.loop-i.i c.index-parts-i.result c.loop-i-test.true c.index-parts-i.is in (
      omega arith,
      (
        c.requires.diagonals,
        (
          c.requires.values,
          (
            c.requires.long,
            (
              part-at c.args.table.now c.args.signature.now c.args.parts.now c.loop-i.i c.index-parts-i.result c.requires.parts c.loop-i-test.true c.index-parts-i.is,
              ground_at c.args.table.now c.args.types.now c.loop-i.i c.index-types-i.result c.requires.types (omega arith) c.index-types-i.is,
            ),
          ),
        ),
      ),
    )

pub meet_all-returns-then-not-branch : goal.meet_all-returns-then-not-branch
meet_all-returns-then-not-branch t c =
    let m = Meets (table_of c.args.table.now) opaque c.args.signature.now (at c.args.values.now) in (
      (λ h. cc),
      (λ b.
          let k = (both_at m c.args.types.now c.args.parts.now c.loop-i.i c.index-types-i.result c.index-parts-i.result (omega arith) c.loop-i-test.true c.index-types-i.is c.index-parts-i.is).0 (c.loop-i.invariant.rest b) in
          let r : c.in_ok-meets.field-0 ≡ true = c.in_ok-meets.ensures.1 k.0 in cc),
    )

pub meet_all-loop-i-preserved : goal.meet_all-loop-i-preserved
meet_all-loop-i-preserved t c =
    let m = Meets (table_of c.args.table.now) opaque c.args.signature.now (at c.args.values.now) in
    let k = both_at m c.args.types.now c.args.parts.now c.loop-i.i c.index-types-i.result c.index-parts-i.result (omega arith) c.loop-i-test.true c.index-types-i.is c.index-parts-i.is in
    record {
      whole = λ b. c.loop-i.invariant.whole (k.1 (c.in_ok-meets.ensures.0 c.if-not-branch.false, b));
      rest = λ b. (k.0 (c.loop-i.invariant.rest b)).1;
    }

pub meet_all-returns : goal.meet_all-returns
meet_all-returns t c =
    let m = Meets (table_of c.args.table.now) opaque c.args.signature.now (at c.args.values.now) in
    let dx : drop c.loop-i.i c.args.parts.now ≡ [] = drop_all c.loop-i.i c.args.parts.now c.loop-i-test.false in
    let dy : drop c.loop-i.i c.args.types.now ≡ [] = drop_all c.loop-i.i c.args.types.now (omega arith) in
    let all : Both m (drop c.loop-i.i c.args.types.now) (drop c.loop-i.i c.args.parts.now) = rw (dx, dy) both_end in
    ((λ h. c.loop-i.invariant.whole all), (λ b. refl))

pub meets-meet_all-requires : goal.meets-meet_all-requires
meets-meet_all-requires t c =
    let s = size-tuple c.args.part.now c.in-Tuple.parts c.as_slice.result.now c.in-Tuple.is c.as_slice.ensures in (
      omega arith,
      (
        c.requires.diagonals,
        (
          c.requires.values,
          (
            c.requires.long,
            (
              tuple_parts c.args.table.now c.args.signature.now c.args.part.now c.in-Tuple.parts c.as_slice.result.now c.in-Tuple.is c.as_slice.ensures c.requires.part,
              tuple_ground c.args.table.now c.valid.ensures c.args.ty.now c.in-Tuple-ty.types c.as_slice-in-Tuple-ty.result.now c.in-Tuple-ty.is c.as_slice-in-Tuple-ty.ensures c.requires.ty,
            ),
          ),
        ),
      ),
    )

pub meets-meets_variable-requires-clause-value : goal.meets-meets_variable-requires-clause-value
meets-meets_variable-requires-clause-value t c =
    let w = c.in-Var.number in
    let p = place_of c.args.signature.now c.args.part.now w c.in-Var.is c.requires.part.covariant in
    ground_at c.args.table.now c.args.values.now (w % length c.args.values.now) c.index-values-root.result c.requires.values (root_low c.args.signature.now c.args.values.now w c.requires.long p.0) c.index-values-root.is

pub meets-returns-in-Any : goal.meets-returns-in-Any
meets-returns-in-Any t c = any_case (table_of c.args.table.now) c.args.signature.now (at c.args.values.now) c.args.ty.now c.args.part.now c.in-Any.is

pub meets-returns-in-Tuple-ty : goal.meets-returns-in-Tuple-ty
meets-returns-in-Tuple-ty t c =
    tuple_case (table_of c.args.table.now) c.args.signature.now (at c.args.values.now) c.meet_all.result c.args.ty.now c.args.part.now c.in-Tuple-ty.types c.in-Tuple.parts
    c.as_slice-in-Tuple-ty.result.now c.as_slice.result.now c.in-Tuple-ty.is c.in-Tuple.is c.as_slice-in-Tuple-ty.ensures c.as_slice.ensures c.meet_all.ensures

pub meets-returns-in_default : goal.meets-returns-in_default
meets-returns-in_default t c = no_tuple (table_of c.args.table.now) c.args.signature.now (at c.args.values.now) c.args.ty.now c.args.part.now c.in-Tuple.parts c.in-Tuple.is c.in_default.not-Tuple

pub meets-returns-in-Some : goal.meets-returns-in-Some
meets-returns-in-Some t c =
    same_args c.args.table.now c.valid.ensures c.args.signature.now c.args.values.now c.args.ty.now c.args.part.now c.in-Nominal-ty.name c.in-Nominal.target c.in-Nominal-ty.arguments c.in-Nominal.patterns
    c.as_slice-in-Some.result.now c.as_slice-in-Some-2.result.now c.same_all_put.result c.requires.values.normal c.requires.part.part c.requires.ty.normal c.in-Nominal-ty.is c.in-Nominal.is
    (ap (λ z. Some z) c.as_slice-in-Some-2.ensures ∙ sym c.in-Some.is ∙ c.in_ok-lifted-in-Nominal-ty.ensures) c.as_slice-in-Some.ensures c.same_all_put.ensures

pub meets-returns-in_default-ty : goal.meets-returns-in_default-ty
meets-returns-in_default-ty t c =
    no_nominal (table_of c.args.table.now) c.args.signature.now (at c.args.values.now) c.args.ty.now c.args.part.now c.in-Nominal.target c.in-Nominal.patterns c.in-Nominal.is c.in_default-ty.not-Nominal

pub meets-returns-in-Var : goal.meets-returns-in-Var
meets-returns-in-Var t c =
    let s = c.args.signature.now in
    let vs = c.args.values.now in
    let w = c.in-Var.number in
    let k = w % length vs in
    let p = place_of s c.args.part.now w c.in-Var.is c.requires.part.covariant in
    let l = root_low s vs w c.requires.long p.0 in
    let v = get-same vs k W.Any c.index-values-root.result l c.index-values-root.is in
    let g = ground_at c.args.table.now vs k c.index-values-root.result c.requires.values l c.index-values-root.is in
    variable_case c.args.table.now c.valid.ensures s vs c.args.ty.now c.args.part.now w k c.index-values-root.result c.meets_variable.result c.in-Var.is (ap (λ z. w % z) c.requires.long) v
    (get_or c.args.diagonals.now k false) p (c.requires.diagonals.kinds k (root_below s vs w c.requires.long p.0)) c.requires.ty.normal g.normal c.meets_variable.ensures.diagonal c.meets_variable.ensures.atom
