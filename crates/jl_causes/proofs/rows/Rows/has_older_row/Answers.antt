use Rattle.std.proofs.Common.{◌∙◌, sym, refl, arith, get_or}
use Rattle.std.proofs.lemmas.List.{get_or_read}
use Rattle.jl_causes.proofs.RowLemmas.{row_known, row_found, no_row, row_next}
use Rattle.jl_causes.proofs.rows.Rows.has_older_row.Goals as goal

pub index-begins-requires : goal.index-begins-requires
index-begins-requires c =
    let (P, es, h) = c.requires in
    let within = row_known P es c.args.self.now c.args.key c.loop-row.row-index c.rows_of-rows.result.now h (c.rows_of-rows.ensures P es h.indexed) c.loop-row-test.true in
    omega (arith, within, c.args.self.now.firsts.ok.0)

pub returns-then-begins-first : goal.returns-then-begins-first
returns-then-begins-first c = λ P es h.
    let ns = c.rows_of-rows.result.now in
    let i = c.loop-row.row-index in
    let e = c.rows_of-rows.ensures P es h.indexed in
    let within = row_known P es c.args.self.now c.args.key i ns h e c.loop-row-test.true in (
      (λ yes. row_found P es c.args.self.now c.args.key i c.args.first ns h e c.loop-row-test.true
          (sym (get_or_read c.args.self.now.firsts.items (get_or ns i 0) c.index-begins.result.now within c.index-begins.ensures 0) ∙ c.if-begins-first.true)),
      (λ r. refl),
    )

pub loop-row-preserved : goal.loop-row-preserved
loop-row-preserved c =
    let (P, es, h) = c.requires in
    let ns = c.rows_of-rows.result.now in
    let i = c.loop-row.row-index in
    let firsts = c.args.self.now.firsts.items in
    let within = row_known P es c.args.self.now c.args.key i ns h (c.rows_of-rows.ensures P es h.indexed) c.loop-row-test.true in
    row_next firsts ns i c.args.first c.index-begins.result.now (get_or_read firsts (get_or ns i 0) c.index-begins.result.now within c.index-begins.ensures 0) c.if-begins-first.false c.loop-row.invariant

pub returns : goal.returns
returns c = λ P es h. (
  (λ yes. absurd (cc yes)),
  (λ r. absurd (no_row P es c.args.self.now c.args.key c.args.first c.rows_of-rows.result.now h (c.rows_of-rows.ensures P es h.indexed) (λ j l. c.loop-row.invariant j (omega (arith, l, c.loop-row-test.false))) r)),
)
