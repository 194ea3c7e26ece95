use Rattle.std.proofs.Common.{◌∙◌, sym, ap, false, slice_index_or}
use Rattle.jl_model.specs.declared.ty.Ty.TheVariants as W
use Rattle.jl_model.specs.Ancestors.{table_of}
use Rattle.jl_model.specs.Found.{found, or_type}
use Rattle.jl_model.specs.Signature.{top}
use Rattle.jl_subsig.specs.Side.{row_of, held, sided}
use Rattle.jl_subsig.proofs.SideLemmas.{left_parts}
use Rattle.jl_subsig.proofs.ValueSteps.{ok_same, or_top, top_is, row_value}
use Rattle.jl_subsig.proofs.values.value_of.Goals as goal

pub place-requires-clause-types : goal.place-requires-clause-types
place-requires-clause-types c = left_parts c.args.table.now c.valid.ensures c.args.left.now c.args.row.now c.requires.left

pub returns-in-Some : goal.returns-in-Some
returns-in-Some c =
    let t = top (sided c.args.right.now) (row_of c.args.other.now) c.args.variable in
    let e = row_value c.args.table.now c.valid.ensures c.args.left.now c.args.row.now c.requires.left c.args.right.now c.args.other.now c.requires.right c.requires.closed c.args.variable c.requires.variable
    (slice_index_or c.diagonals.result.now c.args.variable false) c.as_slice-parts.result.now c.in_ok-ty.field-0 (ap (λ z. slice_index_or z c.args.variable false) c.diagonals.ensures) c.as_slice-parts.ensures c.in_ok-ty.ensures in
    sym (e ∙ ap (λ z. or_type z t) c.in-Some.is)

pub returns-in-Some-top : goal.returns-in-Some-top
returns-in-Some-top c =
    let t = top (sided c.args.right.now) (row_of c.args.other.now) c.args.variable in
    let e = row_value c.args.table.now c.valid.ensures c.args.left.now c.args.row.now c.requires.left c.args.right.now c.args.other.now c.requires.right c.requires.closed c.args.variable c.requires.variable
    (slice_index_or c.diagonals.result.now c.args.variable false) c.as_slice-parts.result.now c.in_ok-ty.field-0 (ap (λ z. slice_index_or z c.args.variable false) c.diagonals.ensures) c.as_slice-parts.ensures c.in_ok-ty.ensures in
    let i = top_is c.args.table.now c.valid.ensures c.args.left.now c.args.row.now c.requires.left c.args.right.now c.args.other.now c.requires.right c.bounds.result.now c.args.variable c.in-Some-top.high.now c.bounds.ensures
    c.requires.variable c.in-Some-top.ensures in
    ok_same c.copy.result c.in-Some-top.high.now (found (table_of c.args.table.now) (held c.args.left.now c.args.row.now) (sided c.args.right.now) (row_of c.args.other.now) c.args.row.now.parts c.args.variable)
    (i ∙ or_top c.in_ok-ty.field-0 t c.in-None.is ∙ sym e) c.copy.ensures

pub returns-in-None-top : goal.returns-in-None-top
returns-in-None-top c =
    let t = top (sided c.args.right.now) (row_of c.args.other.now) c.args.variable in
    let e = row_value c.args.table.now c.valid.ensures c.args.left.now c.args.row.now c.requires.left c.args.right.now c.args.other.now c.requires.right c.requires.closed c.args.variable c.requires.variable
    (slice_index_or c.diagonals.result.now c.args.variable false) c.as_slice-parts.result.now c.in_ok-ty.field-0 (ap (λ z. slice_index_or z c.args.variable false) c.diagonals.ensures) c.as_slice-parts.ensures c.in_ok-ty.ensures in
    let i = top_is c.args.table.now c.valid.ensures c.args.left.now c.args.row.now c.requires.left c.args.right.now c.args.other.now c.requires.right c.bounds.result.now c.args.variable W.Any c.bounds.ensures c.requires.variable
    c.in-None-top.ensures in
    i ∙ or_top c.in_ok-ty.field-0 t c.in-None.is ∙ sym e
