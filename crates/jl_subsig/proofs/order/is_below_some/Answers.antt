use Rattle.std.proofs.Common.{◌≡◌, ◌∙◌, sym, ap, subst, refl, true, false, ◌<◌, length, get_or}
use Rattle.jl_model.specs.Ancestors.{table_of}
use Rattle.jl_model.specs.Signature.{RowBelow}
use Rattle.jl_sig.specs.declared.row.SigRow.{SigRow}
use Rattle.jl_sig.specs.SigParts.{kept_of, rows_of}
use Rattle.jl_subsig.specs.Side.{row_of}
use Rattle.jl_subsig.proofs.OrderSteps.{some_row, any_on}
use Rattle.jl_subsig.proofs.order.is_below_some.Goals as goal

pub returns-then-branch : goal.returns-then-branch
returns-then-branch c =
    let rows = c.rows-other-items.ensures in
    let i = c.loop-other.other-index in (
      (λ h. some_row (λ (q : SigRow). RowBelow (table_of c.args.table.now) (kept_of c.args.left.now) (row_of c.args.row.now) (kept_of c.args.right.now) (row_of q)) (rows_of c.args.right.now) i c.other-item.result
          (c.in_ok-row_below.ensures.0 c.if-branch.true) (subst (λ z. i < length z) rows c.loop-other-test.true) (c.other-item.is ∙ ap (λ z. get_or z i c.other-item.result) rows)),
      (λ b. refl),
    )

pub loop-other-preserved : goal.loop-other-preserved
loop-other-preserved c b =
    let rows = c.rows-other-items.ensures in
    let i = c.loop-other.other-index in
    any_on (λ (q : SigRow). RowBelow (table_of c.args.table.now) (kept_of c.args.left.now) (row_of c.args.row.now) (kept_of c.args.right.now) (row_of q)) (rows_of c.args.right.now) i c.other-item.result
    (λ p. (let y : c.in_ok-row_below.field-0 ≡ true = c.in_ok-row_below.ensures.1 p in let f : true ≡ false = sym y ∙ c.if-branch.false in cc)) (subst (λ z. i < length z) rows c.loop-other-test.true)
    (c.other-item.is ∙ ap (λ z. get_or z i c.other-item.result) rows) (c.loop-other.invariant b)
