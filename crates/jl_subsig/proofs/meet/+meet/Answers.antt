use Rattle.std.proofs.Common.{◌≡◌, ◌%◌, ◌<◌, ◌∙◌, sym, ap, subst, refl, true, false, drop, [], arith, length, get_or, Some}
use Rattle.std.proofs.lemmas.List.{drop_all}
use Rattle.jl_model.specs.declared.ty.Ty.TheViews.{out-Ty}
use Rattle.jl_model.specs.Ancestors.{table_of}
use Rattle.jl_model.specs.Rows.{width}
use Rattle.jl_model.specs.Subtype.{at}
use Rattle.jl_model.specs.Signature.{Both, both_end, Meets}
use Rattle.jl_types.proofs.GroundLemmas.{both_long, both_at, size-tuple, size-at}
use Rattle.jl_sig.specs.SigParts.{kept_of}
use Rattle.jl_model.specs.Found.{raised}
use Rattle.jl_subsig.specs.Side.{held, sided}
use Rattle.jl_subsig.proofs.HeldLemmas.{high_still}
use Rattle.jl_subsig.proofs.LeftPartLemmas.{left-at, raised_tuple, nominal_left}
use Rattle.jl_subsig.proofs.ServeSteps.{value-at}
use Rattle.jl_subsig.proofs.MeetSteps.{any_step, tuple_step, no_tuple_step, no_nominal_step, no_right_union, nominal_step, variable_step, right_parts, right_place, right-at, root_low, root_below, lifts_normal, all_normal}
use Rattle.jl_subsig.proofs.meet.+meet.Goals as goal

pub meet_all-returns-then-uppers-types : goal.meet_all-returns-then-uppers-types
meet_all-returns-then-uppers-types t c =
    ((λ h. cc), (λ b. let l = both_long (Meets (table_of c.args.table.now) (held c.args.left.now c.args.row.now) (sided c.args.right.now) (at c.args.values.now)) c.args.types.now c.args.uppers.now b in absurd (c.if-uppers-types.true (sym l))))

pub meet_all-meets-requires : goal.meet_all-meets-requires
meet_all-meets-requires t c =
    let s = size-at c.args.uppers.now c.loop-i.i c.index-uppers-i.result c.loop-i-test.true c.index-uppers-i.is in (
      omega arith,
      (
        c.requires.held,
        (
          c.requires.right,
          (
            c.requires.values,
            (
              right-at (table_of c.args.table.now) (sided c.args.right.now) c.args.uppers.now c.loop-i.i c.index-uppers-i.result c.requires.uppers c.loop-i-test.true c.index-uppers-i.is,
              left-at c.args.table.now (held c.args.left.now c.args.row.now) c.args.types.now c.loop-i.i c.index-types-i.result c.requires.types (omega arith) c.index-types-i.is,
            ),
          ),
        ),
      ),
    )

pub meet_all-returns-then-not-branch : goal.meet_all-returns-then-not-branch
meet_all-returns-then-not-branch t c = (
  (λ h. cc),
  (λ b.
      let k = (both_at (Meets (table_of c.args.table.now) (held c.args.left.now c.args.row.now) (sided c.args.right.now) (at c.args.values.now)) c.args.types.now c.args.uppers.now c.loop-i.i c.index-types-i.result c.index-uppers-i.result (omega arith) c.loop-i-test.true c.index-types-i.is c.index-uppers-i.is).0 (c.loop-i.invariant.rest b) in
      let r : c.in_ok-meets.field-0 ≡ true = c.in_ok-meets.ensures.1 k.0 in cc),
)

pub meet_all-loop-i-preserved : goal.meet_all-loop-i-preserved
meet_all-loop-i-preserved t c =
    let k = both_at (Meets (table_of c.args.table.now) (held c.args.left.now c.args.row.now) (sided c.args.right.now) (at c.args.values.now)) c.args.types.now c.args.uppers.now c.loop-i.i c.index-types-i.result c.index-uppers-i.result (omega arith) c.loop-i-test.true c.index-types-i.is c.index-uppers-i.is in
    record {
      whole = λ b. c.loop-i.invariant.whole (k.1 (c.in_ok-meets.ensures.0 c.if-not-branch.false, b));
      rest = λ b. (k.0 (c.loop-i.invariant.rest b)).1;
    }

pub meet_all-returns : goal.meet_all-returns
meet_all-returns t c =
    let dx : drop c.loop-i.i c.args.uppers.now ≡ [] = drop_all c.loop-i.i c.args.uppers.now c.loop-i-test.false in
    let dy : drop c.loop-i.i c.args.types.now ≡ [] = drop_all c.loop-i.i c.args.types.now (omega arith) in
    let all : Both (Meets (table_of c.args.table.now) (held c.args.left.now c.args.row.now) (sided c.args.right.now) (at c.args.values.now)) (drop c.loop-i.i c.args.types.now) (drop c.loop-i.i c.args.uppers.now) = rw (dx, dy) both_end in
    ((λ h. c.loop-i.invariant.whole all), (λ b. refl))

pub meets-meet_all-requires : goal.meets-meet_all-requires
meets-meet_all-requires t c =
    let s = size-tuple c.args.upper.now c.in-Tuple.uppers c.as_slice.result.now c.in-Tuple.is c.as_slice.ensures in (
      omega arith,
      (
        c.requires.held,
        (
          c.requires.right,
          (
            c.requires.values,
            (
              right_parts (table_of c.args.table.now) (sided c.args.right.now) c.args.upper.now c.in-Tuple.uppers c.as_slice.result.now c.in-Tuple.is c.as_slice.ensures c.requires.upper,
              raised_tuple c.args.table.now (held c.args.left.now c.args.row.now) c.args.ty.now c.in-Some.types.now c.requires.ty c.in-Some.ensures,
            ),
          ),
        ),
      ),
    )

pub meets-returns-in-Any : goal.meets-returns-in-Any
meets-returns-in-Any t c =
    any_step (table_of c.args.table.now) (held c.args.left.now c.args.row.now) (sided c.args.right.now) (at c.args.values.now) (high_still c.args.table.now c.args.left.now c.args.row.now c.requires.held) c.args.ty.now c.args.upper.now c.in-Any.is

pub meets-returns-in-Union : goal.meets-returns-in-Union
meets-returns-in-Union t c = absurd (no_right_union (table_of c.args.table.now) (sided c.args.right.now) c.args.upper.now c.in-Union.field-0 c.in-Union.is c.requires.upper)

pub meets-returns-in-Some : goal.meets-returns-in-Some
meets-returns-in-Some t c =
    tuple_step (table_of c.args.table.now) (held c.args.left.now c.args.row.now) (sided c.args.right.now) (at c.args.values.now) (high_still c.args.table.now c.args.left.now c.args.row.now c.requires.held) c.meet_all.result c.args.ty.now c.args.upper.now c.in-Some.types.now c.in-Tuple.uppers
    c.as_slice.result.now c.in-Some.ensures c.in-Tuple.is c.as_slice.ensures c.meet_all.ensures

pub meets-returns-in-None : goal.meets-returns-in-None
meets-returns-in-None t c =
    no_tuple_step (table_of c.args.table.now) (held c.args.left.now c.args.row.now) (sided c.args.right.now) (at c.args.values.now) (high_still c.args.table.now c.args.left.now c.args.row.now c.requires.held) c.args.ty.now c.args.upper.now c.in-Tuple.uppers c.in-Tuple.is c.in-None.ensures

pub meets-returns-in-Some-2 : goal.meets-returns-in-Some-2
meets-returns-in-Some-2 t c =
    let ds = c.args.table.now in
    let g = held c.args.left.now c.args.row.now in
    let k = ap (λ z. Some z) c.as_slice-in-Some-2-2.ensures ∙ sym c.in-Some-2.is ∙ c.in_ok-above-in-Nominal.ensures in
    nominal_step ds c.valid.ensures g (sided c.args.right.now) c.args.values.now (high_still c.args.table.now c.args.left.now c.args.row.now c.requires.held) c.args.ty.now c.args.upper.now c.in-Nominal.target
    c.in-Nominal.patterns c.as_slice-in-Some-2.result.now c.as_slice-in-Some-2-2.result.now c.same_all_put.result
    (all_normal (table_of ds) (width (kept_of c.args.right.now)) c.args.values.now c.requires.values.long (λ v l. (c.requires.values.items v l).normal)) c.requires.upper
    (lifts_normal ds c.valid.ensures c.in-Nominal.target (raised g (out-Ty c.args.ty.now)) c.as_slice-in-Some-2-2.result.now (λ m xs e. (nominal_left ds g c.valid.ensures c.args.ty.now m xs c.requires.ty e).1) k) c.in-Nominal.is k
    c.as_slice-in-Some-2.ensures c.same_all_put.ensures

pub meets-returns-in-None-2 : goal.meets-returns-in-None-2
meets-returns-in-None-2 t c =
    no_nominal_step (table_of c.args.table.now) (held c.args.left.now c.args.row.now) (sided c.args.right.now) (at c.args.values.now) (high_still c.args.table.now c.args.left.now c.args.row.now c.requires.held)
    c.args.ty.now c.args.upper.now c.in-Nominal.target c.in-Nominal.patterns c.in-Nominal.is (sym c.in-None-2.is ∙ c.in_ok-above-in-Nominal.ensures)

pub meets-meets_variable-requires-clause-value : goal.meets-meets_variable-requires-clause-value
meets-meets_variable-requires-clause-value t c =
    let s = sided c.args.right.now in
    let vs = c.args.values.now in
    let w = c.in-Var.number in
    let p = right_place (table_of c.args.table.now) s c.args.upper.now w c.in-Var.is c.requires.upper in
    let e = c.requires.values.long ∙ sym c.requires.right.wide in
    (value-at c.args.table.now (width (kept_of c.args.right.now)) vs (w % length vs) c.index-values-root.result c.requires.values (subst (λ z. w % length vs < z) c.requires.right.wide (root_below s vs w e p.0)) c.index-values-root.is).0

pub meets-returns-in-Var : goal.meets-returns-in-Var
meets-returns-in-Var t c =
    let s = sided c.args.right.now in
    let vs = c.args.values.now in
    let w = c.in-Var.number in
    let k = w % length vs in
    let p = right_place (table_of c.args.table.now) s c.args.upper.now w c.in-Var.is c.requires.upper in
    let e = c.requires.values.long ∙ sym c.requires.right.wide in
    let v = value-at c.args.table.now (width (kept_of c.args.right.now)) vs k c.index-values-root.result c.requires.values (subst (λ z. k < z) c.requires.right.wide (root_below s vs w e p.0)) c.index-values-root.is in
    variable_step c.args.table.now c.valid.ensures (held c.args.left.now c.args.row.now) s vs c.args.ty.now c.args.upper.now w k c.index-values-root.result c.meets_variable.result c.in-Var.is (ap (λ z. w % z) e) v.1
    (get_or c.diagonals.result.now k false) p (ap (λ z. get_or z k false) c.diagonals.ensures ∙ c.requires.right.kinds k) c.requires.ty.item.normal v.0.normal c.meets_variable.ensures.diagonal c.meets_variable.ensures.atom

pub meets-bounds-diagonals-root : goal.meets-bounds-diagonals-root
meets-bounds-diagonals-root t c =
    let s = sided c.args.right.now in
    let vs = c.args.values.now in
    let w = c.in-Var.number in
    let p = right_place (table_of c.args.table.now) s c.args.upper.now w c.in-Var.is c.requires.upper in
    let e = c.requires.values.long ∙ sym c.requires.right.wide in
    let d = ap length c.diagonals.ensures ∙ c.requires.right.long in
    subst (λ z. w % length vs < z) (c.requires.right.wide ∙ sym d) (root_below s vs w e p.0)

pub meets-bounds-values-root : goal.meets-bounds-values-root
meets-bounds-values-root t c =
    let s = sided c.args.right.now in
    let vs = c.args.values.now in
    let w = c.in-Var.number in
    let p = right_place (table_of c.args.table.now) s c.args.upper.now w c.in-Var.is c.requires.upper in
    root_low s vs w (c.requires.values.long ∙ sym c.requires.right.wide) p.0

pub meets-nonzero_rem-root : goal.meets-nonzero_rem-root
meets-nonzero_rem-root t c =
    let s = sided c.args.right.now in
    let vs = c.args.values.now in
    let p = right_place (table_of c.args.table.now) s c.args.upper.now c.in-Var.number c.in-Var.is c.requires.upper in
    let e = c.requires.values.long in
    let w = c.requires.right.wide in
    omega (arith, p.0, e, w)
