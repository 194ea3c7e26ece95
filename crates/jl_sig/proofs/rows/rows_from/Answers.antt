use Rattle.std.proofs.Common.{◌∙◌, sym, ap, arith}
use Rattle.jl_model.specs.Rows.{choices}
use Rattle.jl_model.specs.AllRows.{each_var, slot}
use Rattle.jl_sig.specs.Built.{picked, rows_from}
use Rattle.jl_sig.proofs.RowLemmas.{rows_step, rows_few}
use Rattle.jl_sig.proofs.rows.rows_from.Goals as goal

pub loop-row-preserved : goal.loop-row-preserved
loop-row-preserved c =
    let s = c.args.written.now in
    let ps = c.args.picks.now in
    let cs = c.args.components.now in
    let i = c.loop-row.row-index in
    let row = c.row-item.result in
    let old = c.loop-row.rows.items in
    let new = c.push_rows.new.rows.items in
    let us = c.in_ok-slots.slots.items in
    let ls = c.as_slice-in-loop-row-2.result.now in
    let vs = c.as_slice-in-loop-row-3.result.now in
    let v = c.as_slice-in-loop-row-3.ensures.value ∙ c.in_ok-choices.ensures in
    let u = c.in_ok-slots.ensures ∙ ap (λ z. each_var (slot s (picked ps) z) 0 s.vars) c.as_slice.ensures in
    record {
      few = rows_few s ps row c.as_slice-in-loop-row.result.now us vs old new c.product_of_lengths.result u c.as_slice-in-loop-row.ensures.value c.product_of_lengths.ensures (omega (arith, c.len.ensures, c.if-len-product_of_lengths-gt-MOST_SIGNATURE_ROWS.false))
          (v ∙ ap choices (c.as_slice-in-loop-row-2.ensures.value ∙ sym c.as_slice-in-loop-row.ensures.value)) c.in_ok-push_rows.ensures;
      rest = rows_step s ps cs i row ls us vs old new (rows_from s ps cs) c.loop-row-test.true c.row-item.is u c.as_slice-in-loop-row-2.ensures.value v c.in_ok-push_rows.ensures c.loop-row.invariant.rest;
    }
