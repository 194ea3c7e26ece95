use Rattle.jl_core.proofs.RangeLemmas.{chosen}
use Rattle.jl_core.proofs.range.select.Goals as goal

pub returns : goal.returns
returns c =
    chosen c.args.ready.now c.args.events.now c.args.key.now c.args.world c.in_ok-choice.choice c.in_ok-made.made.items c.as_slice-known.result.now c.as_slice-known.ensures.value c.in_ok-made.ensures c.in_ok-choice.ensures
