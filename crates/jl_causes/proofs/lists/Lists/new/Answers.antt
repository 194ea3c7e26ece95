use Rattle.jl_causes.proofs.ListLemmas.{empty_length, empty_more}
use Rattle.jl_causes.proofs.lists.Lists.new.Goals as goal

pub loop-preserved : goal.loop-preserved
loop-preserved c =
    let h = c.loop.invariant in (
      empty_length c.loop.lists.items c.push.new.self.items c.new.result c.loop.counter c.in_ok-push.ensures.items h.0,
      empty_more c.loop.lists.items c.push.new.self.items c.new.result c.in_ok-push.ensures.items c.new.ensures.items h.1,
    )
