use Rattle.std.proofs.Common.{◌++◌, map}
use Rattle.jl_sig.specs.Built.{listed}
use Rattle.jl_sig.proofs.RowLemmas.{push_step, with_parts}
use Rattle.jl_sig.proofs.rows.push_rows.Goals as goal

pub loop-chosen-preserved : goal.loop-chosen-preserved
loop-chosen-preserved c =
    push_step c.args.parts.now c.in_ok-parts.parts c.args.choices.now c.loop-chosen.chosen-index c.chosen-item.result c.in_ok-chosen.chosen c.loop-chosen.rows.items c.push.new.self.items
    (map listed c.args.rows.now.items ++ with_parts c.args.parts.now c.args.choices.now) c.loop-chosen-test.true c.chosen-item.is c.in_ok-parts.ensures c.in_ok-chosen.ensures c.in_ok-push.ensures.items c.loop-chosen.invariant
