use Rattle.std.proofs.lemmas.List.{drop_all}
use Rattle.jl_sig.proofs.KeptLemmas.{row_fit, kept_step, kept_done}
use Rattle.jl_sig.proofs.kept.keep_rows.Goals as goal

pub keep_row-requires-clause-parts : goal.keep_row-requires-clause-parts
keep_row-requires-clause-parts c = (row_fit c.args.table.now c.args.rows.now c.loop-row.row-index c.row-item.result c.requires c.loop-row-test.true c.row-item.is).0

pub keep_row-requires-clause-chosen : goal.keep_row-requires-clause-chosen
keep_row-requires-clause-chosen c = (row_fit c.args.table.now c.args.rows.now c.loop-row.row-index c.row-item.result c.requires c.loop-row-test.true c.row-item.is).1

pub loop-row-preserved : goal.loop-row-preserved
loop-row-preserved c = λ ks r.
    kept_step c.args.table.now c.args.rows.now c.loop-row.row-index c.row-item.result c.in_ok-keep_row.field-0 c.loop-row.kept.items c.push.new.self.items c.loop-row-test.true c.row-item.is c.in_ok-keep_row.ensures
    c.in_ok-push.ensures.items c.loop-row.invariant ks r

pub returns : goal.returns
returns c = kept_done c.args.table.now c.args.rows.now c.loop-row.kept.items c.loop-row.row-index (drop_all c.loop-row.row-index c.args.rows.now c.loop-row-test.false) c.loop-row.invariant
