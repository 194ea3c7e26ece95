use Rattle.std.proofs.Common.{◌≡◌, ◌∙◌, ◌<◌, ◌≤◌, ap, subst, MatchOption, map, length}
use Rattle.jl_model.specs.Ancestors.{table_of}
use Rattle.jl_model.specs.SigRefusals.{ManyRows}
use Rattle.jl_model.specs.AllRows.{each_var}
use Rattle.jl_sig.specs.Built.{place_in, listed, rows_from}
use Rattle.jl_sig.specs.Prepared.{AreAllRows}
use Rattle.jl_sig.proofs.BuildLemmas.{match_map, many_components, many_rows, these_rows}
use Rattle.jl_sig.proofs.build.all_rows.Goals as goal

pub returns-then-product_of_forms-gt-MOST_SIGNATURE_ROWS : goal.returns-then-product_of_forms-gt-MOST_SIGNATURE_ROWS
returns-then-product_of_forms-gt-MOST_SIGNATURE_ROWS c =
    let s = c.args.written.now in
    let ps = c.in_ok-picks.picks.items in
    many_components c.args.table.now s c.args.bounds.now c.requires.expandable ps c.as_slice-2.result.now c.in_ok-picks.ensures.picked
    (c.as_slice-2.ensures.value ∙ c.in_ok-places.ensures ∙ ap (λ z. each_var (place_in s z) 0 s.vars) c.as_slice.ensures.value)
    c.product_of_forms.result c.as_slice-parts.result.now c.as_slice-parts.ensures c.product_of_forms.ensures c.if-product_of_forms-gt-MOST_SIGNATURE_ROWS.true

pub returns : goal.returns
returns c =
    let ds = c.args.table.now in
    let s = c.args.written.now in
    let ps = c.in_ok-picks.picks.items in
    let pl = c.as_slice-3.result.now in
    let cs = c.as_slice-5.result.now in
    let parts = c.in_ok-components.components.items in
    let us = c.as_slice-parts.result.now in
    let pe = c.as_slice-3.ensures.value ∙ c.in_ok-places.ensures ∙ ap (λ z. each_var (place_in s z) 0 s.vars) c.as_slice.ensures.value in
    let ce = c.as_slice-5.ensures.value in
    match_map c.in_ok-rows.rows (256 < length (rows_from s ps cs)) (ManyRows (table_of ds) s) (λ rows. (map listed rows.items ≡ rows_from s ps cs) × (length rows.items ≤ 256)) (λ rows. AreAllRows (table_of ds) s (map listed rows.items))
    (many_rows ds s c.args.bounds.now c.requires.expandable ps pl c.in_ok-picks.ensures.picked pe cs parts us c.as_slice-parts.ensures ce c.in_ok-components.ensures)
    (λ rows h. these_rows ds s c.args.bounds.now c.requires.expandable ps pl c.in_ok-picks.ensures.picked pe cs parts us rows.items c.as_slice-parts.ensures ce c.in_ok-components.ensures h)
    (subst (λ z. MatchOption c.in_ok-rows.rows (256 < length (rows_from s z cs)) (λ rows. (map listed rows.items ≡ rows_from s z cs) × (length rows.items ≤ 256))) c.as_slice-4.ensures.value c.in_ok-rows.ensures)
