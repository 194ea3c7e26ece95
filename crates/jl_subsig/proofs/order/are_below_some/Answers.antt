use Rattle.std.proofs.Common.{◌≡◌, ◌∙◌, ap, subst, true, ◌<◌, length, get_or}
use Rattle.jl_model.specs.Ancestors.{table_of}
use Rattle.jl_model.specs.Signature.{RowBelow}
use Rattle.jl_sig.specs.declared.row.SigRow.{SigRow}
use Rattle.jl_sig.specs.SigParts.{kept_of, rows_of}
use Rattle.jl_subsig.specs.Side.{row_of, AnyOf}
use Rattle.jl_subsig.proofs.OrderSteps.{row-at, every_on}
use Rattle.jl_subsig.proofs.order.are_below_some.Goals as goal

pub returns-then-not-branch : goal.returns-then-not-branch
returns-then-not-branch c =
    let rows = c.rows-row-items.ensures in
    let i = c.loop-row.row-index in (
      (λ h. cc),
      (λ b.
          let k = row-at (λ (k : SigRow). AnyOf (λ (q : SigRow). RowBelow (table_of c.args.table.now) (kept_of c.args.left.now) (row_of k) (kept_of c.args.right.now) (row_of q)) (rows_of c.args.right.now)) (rows_of c.args.left.now) i c.row-item.result b
          (subst (λ z. i < length z) rows c.loop-row-test.true) (c.row-item.is ∙ ap (λ z. get_or z i c.row-item.result) rows) in
          let y : c.in_ok-is_below_some.field-0 ≡ true = c.in_ok-is_below_some.ensures.1 k in cc),
    )

pub loop-row-preserved : goal.loop-row-preserved
loop-row-preserved c h =
    let rows = c.rows-row-items.ensures in
    let i = c.loop-row.row-index in
    c.loop-row.invariant
    (every_on (λ (k : SigRow). AnyOf (λ (q : SigRow). RowBelow (table_of c.args.table.now) (kept_of c.args.left.now) (row_of k) (kept_of c.args.right.now) (row_of q)) (rows_of c.args.right.now)) (rows_of c.args.left.now) i c.row-item.result
    (c.in_ok-is_below_some.ensures.0 c.if-not-branch.false) (subst (λ z. i < length z) rows c.loop-row-test.true) (c.row-item.is ∙ ap (λ z. get_or z i c.row-item.result) rows) h)
