use Rattle.std.proofs.Common.{◌∙◌, sym}
use Rattle.jl_replay.proofs.Reading.{read_on}
use Rattle.jl_replay.proofs.steps.read_stretch.Goals as goal

pub loop-n-preserved : goal.loop-n-preserved
loop-n-preserved c =
    read_on c.args.past.now.1 c.args.steps.now c.loop-n.n _ c.loop-n.items.items c.push.new.self.items _ c.in_ok-item.item c.loop-n-test.true (sym c.is_own.ensures ∙ c.if-is_own.false) c.in_ok-item.ensures c.in_ok-push.ensures.items c.loop-n.invariant
