use Rattle.std.proofs.Common.{◌∙◌, sym, ap, ◌+◌, length, slice_index_or}
use Rattle.jl_subsig.proofs.ValueSteps.{bound_high, closed_tells, atom_item, atom_tells, nothing_tells}
use Rattle.jl_subsig.proofs.values.above_of.Goals as goal

pub returns-then-is_closed : goal.returns-then-is_closed
returns-then-is_closed c =
    let t = (slice_index_or c.bounds-bounds.result.now c.args.variable c.index-bounds-variable.result).high in
    closed_tells c.args.table.now c.valid.ensures c.args.left.now c.args.row.now c.requires.left c.args.right.now c.args.other.now c.requires.right c.args.variable c.args.hit.now t c.empty.result
    (bound_high c.args.right.now c.bounds-bounds.result.now c.args.variable c.index-bounds-variable.result c.bounds-bounds.ensures c.requires.right.held.wide c.requires.variable) (sym c.is_closed.ensures ∙ c.if-is_closed.true) c.empty.ensures

pub lift_first-requires-in-Some-2-clause-ty : goal.lift_first-requires-in-Some-2-clause-ty
lift_first-requires-in-Some-2-clause-ty c =
    atom_item c.args.table.now c.valid.ensures c.args.left.now c.args.row.now c.requires.left c.args.right.now c.args.other.now c.requires.right (c.args.variable + length c.bounds-bounds.result.now) c.as_slice-parts.result.now c.as_slice.result.now c.in_ok-ty-in-None.field-0 c.in-Some-2.ty c.as_slice-parts.ensures c.as_slice.ensures c.in_ok-ty-in-None.ensures c.in-Some-2.is

pub returns-in-Some-2 : goal.returns-in-Some-2
returns-in-Some-2 c =
    let t = (slice_index_or c.bounds-bounds.result.now c.args.variable c.index-bounds-variable.result).high in
    atom_tells c.args.table.now c.valid.ensures c.args.left.now c.args.row.now c.requires.left c.args.right.now c.args.other.now c.requires.right c.args.variable (length c.bounds-bounds.result.now) c.in-Nominal.target c.as_slice-parts.result.now c.as_slice.result.now c.in-Nominal.field-1 c.args.hit.now c.in_ok-ty-in-None.field-0 t c.in-Some-2.ty c.lift_first-in-Some-2.result
    (bound_high c.args.right.now c.bounds-bounds.result.now c.args.variable c.index-bounds-variable.result c.bounds-bounds.ensures c.requires.right.held.wide c.requires.variable) c.in-Nominal.is c.in-None.is
    (ap length c.bounds-bounds.ensures) c.as_slice-parts.ensures c.as_slice.ensures c.in_ok-ty-in-None.ensures c.in-Some-2.is c.lift_first-in-Some-2.ensures

pub returns-in-None-2 : goal.returns-in-None-2
returns-in-None-2 c =
    nothing_tells c.args.table.now c.valid.ensures c.args.left.now c.args.row.now c.requires.left c.args.right.now c.args.other.now c.requires.right c.args.variable (length c.bounds-bounds.result.now) c.as_slice-parts.result.now c.as_slice.result.now c.empty-in-None-2.result c.args.hit.now c.in_ok-ty-in-None.field-0 c.in-None.is (ap length c.bounds-bounds.ensures)
    c.as_slice-parts.ensures c.as_slice.ensures c.in_ok-ty-in-None.ensures c.in-None-2.is c.empty-in-None-2.ensures
