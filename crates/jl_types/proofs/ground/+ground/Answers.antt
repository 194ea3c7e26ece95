use Rattle.std.proofs.Common.{◌≡◌, sym, refl, true, drop, [], arith, ap}
use Rattle.std.proofs.lemmas.List.{drop_all}
use Rattle.jl_model.specs.Signature.{Both, both_end}
use Rattle.jl_model.specs.Subtype.{opaque, Below}
use Rattle.jl_model.specs.Ancestors.{table_of}
use Rattle.jl_model.specs.Counts.{nodes}
use Rattle.jl_model.proofs.CountLemmas.{nodes_all, nodes-union, nodes-tuple, nodes-nominal, nodes-at}
use Rattle.jl_types.proofs.GroundLemmas.{any_case, union_case, tuple_case, no_tuple, no_nominal, var_case, below_var, both_long, both_at, ground-at, lower-at, lower_to, some-at, union_singles, tuple_lowers, nominal_exact, tuple_singles, size-union, size-tuple, size-at}
use Rattle.jl_types.proofs.ground.+ground.Goals as goal

pub are_above-returns-then-uppers-lowers : goal.are_above-returns-then-uppers-lowers
are_above-returns-then-uppers-lowers t c =
    ((λ h. cc), (λ b. let l = both_long (Below (table_of c.args.table.now) opaque) c.args.lowers.now c.args.uppers.now b in absurd (c.if-uppers-lowers.true (sym l))))

pub is_above-returns-in-Any : goal.is_above-returns-in-Any
is_above-returns-in-Any t c = any_case (table_of c.args.table.now) c.args.upper.now c.args.lower.now c.in-Any.is

pub is_above-returns-in-Union : goal.is_above-returns-in-Union
is_above-returns-in-Union t c =
    union_case c.args.table.now (nodes c.args.upper.now) c.args.upper.now c.args.lower.now c.in-Union.members c.as_slice.result.now c.is_some_above.result c.in-Union.is c.as_slice.ensures c.requires.lower_ground c.is_some_above.ensures

pub is_above-returns-in-Tuple-lower : goal.is_above-returns-in-Tuple-lower
is_above-returns-in-Tuple-lower t c =
    tuple_case c.args.table.now (nodes c.args.upper.now) c.args.upper.now c.args.lower.now c.in-Tuple.ys c.in-Tuple-lower.xs c.as_slice-in-Tuple-lower.result.now c.as_slice-in-Tuple-lower-2.result.now c.are_above.result
    c.in-Tuple.is c.in-Tuple-lower.is c.as_slice-in-Tuple-lower.ensures c.as_slice-in-Tuple-lower-2.ensures c.requires.upper_ground c.requires.lower_ground c.are_above.ensures

pub is_above-returns-in_default : goal.is_above-returns-in_default
is_above-returns-in_default t c =
    ((λ h. cc), (λ b. absurd (no_tuple c.args.table.now (nodes c.args.upper.now) c.args.upper.now c.args.lower.now c.in-Tuple.ys c.in-Tuple.is c.requires.upper_ground c.requires.lower_ground c.in_default.not-Tuple b)))

pub is_above-returns-in_default-lower : goal.is_above-returns-in_default-lower
is_above-returns-in_default-lower t c =
    ((λ h. cc), (λ b. absurd (no_nominal c.args.table.now (nodes c.args.upper.now) c.args.upper.now c.args.lower.now c.in-Nominal.name c.in-Nominal.ys c.in-Nominal.is c.requires.upper_ground c.requires.lower_ground c.in_default-lower.not-Nominal b)))

pub is_above-returns-in-Var-lower : goal.is_above-returns-in-Var-lower
is_above-returns-in-Var-lower t c =
    var_case c.args.table.now (nodes c.args.upper.now) c.args.upper.now c.args.lower.now c.in-Var.v c.in-Var-lower.w c.in-Var.is c.in-Var-lower.is c.requires.upper_ground c.requires.lower_ground

pub is_above-returns-in_default-lower-2 : goal.is_above-returns-in_default-lower-2
is_above-returns-in_default-lower-2 t c =
    ((λ h. cc), (λ b. absurd (c.in_default-lower-2.not-Var c.in-Var.v (below_var c.args.table.now (nodes c.args.upper.now) c.args.upper.now c.args.lower.now c.in-Var.v c.in-Var.is c.requires.upper_ground c.requires.lower_ground b))))

pub is_above-is_some_above-requires : goal.is_above-is_some_above-requires
is_above-is_some_above-requires t c =
    let s = size-union c.args.upper.now c.in-Union.members c.as_slice.result.now c.in-Union.is c.as_slice.ensures in (
      omega arith,
      (
        union_singles c.args.table.now c.args.upper.now c.in-Union.members c.as_slice.result.now c.in-Union.is c.as_slice.ensures c.requires.upper_ground,
        lower_to c.args.table.now (nodes c.args.upper.now) (nodes_all c.as_slice.result.now) c.args.lower.now
            (omega (arith, ap nodes c.in-Union.is, nodes-union c.in-Union.members, ap nodes_all c.as_slice.ensures)) c.requires.lower_ground,
      ),
    )

pub is_above-are_above-requires : goal.is_above-are_above-requires
is_above-are_above-requires t c =
    let s = size-tuple c.args.upper.now c.in-Tuple.ys c.as_slice-in-Tuple-lower.result.now c.in-Tuple.is c.as_slice-in-Tuple-lower.ensures in (
      omega arith,
      (
        tuple_singles c.args.table.now c.args.upper.now c.in-Tuple.ys c.as_slice-in-Tuple-lower.result.now c.in-Tuple.is c.as_slice-in-Tuple-lower.ensures c.requires.upper_ground,
        tuple_lowers c.args.table.now (nodes c.args.upper.now) c.args.lower.now c.in-Tuple-lower.xs c.as_slice-in-Tuple-lower-2.result.now c.in-Tuple-lower.is c.as_slice-in-Tuple-lower-2.ensures c.requires.lower_ground
            (nodes_all c.as_slice-in-Tuple-lower.result.now) (omega (arith, ap nodes c.in-Tuple.is, nodes-tuple c.in-Tuple.ys, ap nodes_all c.as_slice-in-Tuple-lower.ensures)),
      ),
    )

pub are_above-is_above-requires : goal.are_above-is_above-requires
are_above-is_above-requires t c =
    let s = size-at c.args.uppers.now c.loop-i.i c.index-uppers-i.result c.loop-i-test.true c.index-uppers-i.is in (
      omega arith,
      (
        ground-at c.args.table.now c.args.uppers.now c.loop-i.i c.index-uppers-i.result c.requires.uppers_ground c.loop-i-test.true c.index-uppers-i.is,
        lower-at c.args.table.now (nodes_all c.args.uppers.now) (nodes c.index-uppers-i.result) c.args.lowers.now c.loop-i.i c.index-lowers-i.result
            (nodes-at c.args.uppers.now c.loop-i.i c.index-uppers-i.result c.loop-i-test.true c.index-uppers-i.is) c.requires.lowers_ground (omega arith) c.index-lowers-i.is,
      ),
    )

pub are_above-returns-then-not-is_above : goal.are_above-returns-then-not-is_above
are_above-returns-then-not-is_above t c = (
  (λ h. cc),
  (λ b.
      let k = (both_at (Below (table_of c.args.table.now) opaque) c.args.lowers.now c.args.uppers.now c.loop-i.i c.index-lowers-i.result c.index-uppers-i.result (omega arith) c.loop-i-test.true c.index-lowers-i.is c.index-uppers-i.is).0 (c.loop-i.invariant.rest b) in
      let r : c.is_above.result ≡ true = c.is_above.ensures.1 k.0 in cc),
)

pub are_above-loop-i-preserved : goal.are_above-loop-i-preserved
are_above-loop-i-preserved t c =
    let k = both_at (Below (table_of c.args.table.now) opaque) c.args.lowers.now c.args.uppers.now c.loop-i.i c.index-lowers-i.result c.index-uppers-i.result (omega arith) c.loop-i-test.true c.index-lowers-i.is c.index-uppers-i.is in
    record {
      whole = λ b. c.loop-i.invariant.whole (k.1 (c.is_above.ensures.0 c.if-not-is_above.false, b));
      rest = λ b. (k.0 (c.loop-i.invariant.rest b)).1;
    }

pub are_above-returns : goal.are_above-returns
are_above-returns t c =
    let dx : drop c.loop-i.i c.args.uppers.now ≡ [] = drop_all c.loop-i.i c.args.uppers.now c.loop-i-test.false in
    let dy : drop c.loop-i.i c.args.lowers.now ≡ [] = drop_all c.loop-i.i c.args.lowers.now (omega arith) in
    let all : Both (Below (table_of c.args.table.now) opaque) (drop c.loop-i.i c.args.lowers.now) (drop c.loop-i.i c.args.uppers.now) = rw (dx, dy) both_end in
    ((λ h. c.loop-i.invariant.whole all), (λ b. refl))

pub is_some_above-is_above-requires : goal.is_some_above-is_above-requires
is_some_above-is_above-requires t c =
    let s = size-at c.args.uppers.now c.loop-upper.upper-index c.upper-item.result c.loop-upper-test.true c.upper-item.is in (
      omega arith,
      (
        ground-at c.args.table.now c.args.uppers.now c.loop-upper.upper-index c.upper-item.result c.requires.uppers_ground c.loop-upper-test.true c.upper-item.is,
        lower_to c.args.table.now (nodes_all c.args.uppers.now) (nodes c.upper-item.result) c.args.lower.now
            (nodes-at c.args.uppers.now c.loop-upper.upper-index c.upper-item.result c.loop-upper-test.true c.upper-item.is) c.requires.lower_ground,
      ),
    )

pub is_some_above-returns-then-is_above : goal.is_some_above-returns-then-is_above
is_some_above-returns-then-is_above t c =
    ((λ h. some-at (table_of c.args.table.now) c.args.lower.now c.args.uppers.now c.loop-upper.upper-index c.upper-item.result (c.is_above.ensures.0 c.if-is_above.true) c.loop-upper-test.true c.upper-item.is), (λ b. refl))

pub is_above-is_nominal_above-requires-clause-lowers_exact : goal.is_above-is_nominal_above-requires-clause-lowers_exact
is_above-is_nominal_above-requires-clause-lowers_exact t c =
    nominal_exact c.args.table.now (nodes c.args.upper.now) c.args.lower.now c.in-Nominal-lower.of c.in-Nominal-lower.xs c.as_slice-in-Nominal-lower-2.result.now c.in-Nominal-lower.is
    c.as_slice-in-Nominal-lower-2.ensures c.requires.lower_ground (nodes_all c.as_slice-in-Nominal-lower.result.now)
    (omega (arith, ap nodes c.in-Nominal.is, nodes-nominal c.in-Nominal.name c.in-Nominal.ys, ap nodes_all c.as_slice-in-Nominal-lower.ensures))
